use Rattle.std.proofs.Common.{◌<◌, sym, ◌∙◌, arith}
use Rattle.hoare_law.proofs.Firsts.{MatchOption-first_of}
use Rattle.wait_book.specs.declared.book.TheConstants.{MOST_CONDITIONS}
use Rattle.wait_book.specs.Insides.{view_of}
use Rattle.wait_book.proofs.Sound as sound
use Rattle.wait_book.proofs.Histories as histories
use Rattle.wait_book.proofs.Priorities as priorities
use Rattle.wait_book.proofs.Queued.{first-chain}
use Rattle.wait_book.proofs.book.Book.first.Goals as goal

pub first_priority-requires : goal.first_priority-requires
first_priority-requires c =
    omega (
      arith,
      sound.same_condition (view_of c.self.inside) _ c.args.condition c.self.view_is c.requires,
      c.self.invariant.few_conditions,
    )

pub returns-clause-lists : goal.returns-clause-lists
returns-clause-lists c =
    let fits : c.args.condition < MOST_CONDITIONS =
    omega (
      arith,
      sound.same_condition (view_of c.self.inside) _ c.args.condition c.self.view_is c.requires,
      c.self.invariant.few_conditions,
    ) in
    MatchOption-first_of c.first_priority.result _
    (c.first_priority.ensures ∙ first-chain c.args.condition c.self.inside.chains fits
    ∙ priorities.first-priority _ _ c.args.condition c.self.view_is c.self.invariant)

pub returns-clause-of : goal.returns-clause-of
returns-clause-of c = λ h o.
    let fits : c.args.condition < MOST_CONDITIONS =
    omega (
      arith,
      sound.same_condition (view_of c.self.inside) _ c.args.condition c.self.view_is c.requires,
      c.self.invariant.few_conditions,
    ) in
    c.first_priority.ensures ∙ first-chain c.args.condition c.self.inside.chains fits
    ∙ priorities.first-chosen _ h c.args.condition
    (histories.IsOf-same _ (view_of c.self.inside) h (sym c.self.view_is) o)
