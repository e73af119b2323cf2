use Rattle.std.proofs.Common.{arith, refl, ap}
use Rattle.std.proofs.lemmas.Bool.Decides.{nat_tests}
use Rattle.hoare_law.specs.Sizes.{sizes_of}
use Rattle.wait_book.specs.declared.book.TheConstants.{MOST_CONDITIONS}
use Rattle.wait_book.specs.declared.chains.TheConstants.{CALLED, SIGNALLERS}
use Rattle.wait_book.specs.Insides.{called_in}
use Rattle.wait_book.specs.Lists.{places_in}
use Rattle.wait_book.specs.Lists.{list_at}
use Rattle.wait_book.proofs.Sound as sound
use Rattle.wait_book.proofs.Histories as histories
use Rattle.wait_book.proofs.Queued.{waits-none}
use Rattle.wait_book.proofs.book.Book.make.Goals as goal

pub invariant_of-result : goal.invariant_of-result
invariant_of-result c =
    let made = c.in-Ok.ensures in
    sound.IsSound-same _ _
    (sound.parts refl refl (waits-none MOST_CONDITIONS (list_at c.in-Ok.chains) made.empty)
    (ap places_in (made.empty SIGNALLERS)) (ap called_in (made.empty CALLED)) refl)
    (sound.opened_sound (sizes_of c.args.conditions c.args.mesa c.args.places) c.in-Ok.chains.room (omega arith)
    (omega arith) (omega arith) (omega arith) (omega arith) made.room)

pub returns : goal.returns
returns c =
    let made = c.in-Ok.ensures in
    let empty =
    sound.parts refl refl (waits-none MOST_CONDITIONS (list_at c.in-Ok.chains) made.empty)
    (ap places_in (made.empty SIGNALLERS)) (ap called_in (made.empty CALLED)) refl in
    record {
      made = (
        grind (arith, nat_tests),
        histories.IsOf-same _ _ _ empty
            (histories.IsOf-opened (sizes_of c.args.conditions c.args.mesa c.args.places) _ _),
      );
      room = (made.room, made.room);
    }
