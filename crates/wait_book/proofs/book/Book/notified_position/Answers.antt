use Rattle.std.proofs.Common.{arith, refl, sym, ◌∙◌}
use Rattle.std.proofs.lemmas.List.{length-map}
use Rattle.wait_book.specs.declared.chains.TheConstants.{CALLED}
use Rattle.wait_book.specs.Insides.{view_of, waiter_of}
use Rattle.wait_book.specs.Lists.{list_at}
use Rattle.wait_book.proofs.Histories as histories
use Rattle.wait_book.proofs.Numbers.{few_called, number-chain}
use Rattle.wait_book.proofs.book.Book.notified_position.Goals as goal

pub notified_position-requires : goal.notified_position-requires
notified_position-requires c =
    omega (
      arith,
      few_called (view_of c.self.inside) c.self.invariant,
      length-map (list_at c.self.inside.chains CALLED) waiter_of,
    )

pub returns-clause-of : goal.returns-clause-of
returns-clause-of c = λ h o.
    c.notified_position.ensures.number
    ∙ number-chain (view_of c.self.inside) h c.args.place (list_at c.self.inside.chains CALLED)
    (histories.IsOf-same _ (view_of c.self.inside) h (sym c.self.view_is) o) refl
