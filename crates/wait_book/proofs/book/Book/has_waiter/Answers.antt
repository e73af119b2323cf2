use Rattle.std.proofs.Common.{◌<◌, arith}
use Rattle.wait_book.specs.declared.book.TheConstants.{MOST_CONDITIONS}
use Rattle.wait_book.specs.Insides.{view_of}
use Rattle.wait_book.proofs.Sound as sound
use Rattle.wait_book.proofs.Histories as histories
use Rattle.wait_book.proofs.Signalled.{waits-listed_by}
use Rattle.wait_book.proofs.book.Book.has_waiter.Goals as goal

pub has-requires : goal.has-requires
has-requires c =
    omega (
      arith,
      sound.same_condition (view_of c.self.inside) _ c.args.condition c.self.view_is c.requires,
      c.self.invariant.few_conditions,
    )

pub returns : goal.returns
returns c =
    let fits : c.args.condition < MOST_CONDITIONS =
    omega (
      arith,
      sound.same_condition (view_of c.self.inside) _ c.args.condition c.self.view_is c.requires,
      c.self.invariant.few_conditions,
    ) in
    let lists = waits-listed_by c.args.place c.args.condition c.self.inside _ c.has.result fits c.self.view_is
    c.has.ensures in
    record {
      lists = lists;
      of = λ h o.
          let waits = histories.waits_of-waiting _ h c.args.condition c.args.place o in
          ((λ yes. waits.1 (lists.0 yes)), (λ is. lists.1 (waits.0 is)));
    }
