use Rattle.std.proofs.Common.{refl, sym}
use Rattle.wait_book.specs.Contents.{Contents}
use Rattle.wait_book.specs.Insides.{view_of}
use Rattle.wait_book.proofs.Sound as sound
use Rattle.wait_book.proofs.Histories as histories
use Rattle.wait_book.proofs.book.Book.leave.Goals as goal

pub returns-clause-of : goal.returns-clause-of
returns-clause-of c = λ h o.
    let b : Contents = view_of c.self.inside in
    histories.IsOf-same _ _ _ (sound.parts refl refl refl refl refl c.turn_given_up-self-inside.ensures)
    (histories.left_of b c.args.place h (sound.holds c.self.view_is c.self.invariant c.requires)
    (histories.IsOf-same _ b h (sym c.self.view_is) o))

pub returns-clause-apart : goal.returns-clause-apart
returns-clause-apart c = sound.apart_same c.self.view_is c.self.invariant c.requires

pub invariant_of-self : goal.invariant_of-self
invariant_of-self c =
    sound.IsSound-same _ _ (sound.parts refl refl refl refl refl c.turn_given_up-self-inside.ensures)
    (sound.left_sound (view_of c.self.inside) c.args.place (sound.holds c.self.view_is c.self.invariant c.requires))
