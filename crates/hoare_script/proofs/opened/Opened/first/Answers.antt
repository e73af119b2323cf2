use Rattle.std.proofs.Common.{◌<◌, ◌≤◌, ℕ, Some, None, sym, subst}
use Rattle.wait_book.specs.Contents.{Contents, IsOf}
use Rattle.hoare_script.proofs.Commands.{answer_to-First, answer_to-First_refused}
use Rattle.hoare_script.proofs.opened.Opened.first.Goals as goal

pub returns-then-condition-self : goal.returns-then-condition-self
returns-then-condition-self c = λ h o.
    answer_to-First_refused c.self.inside.book h c.args.condition
    (subst (λ (b : Contents). IsOf b h) (sym c.self.view_is) o)
    (subst (λ (n : ℕ). n ≤ c.args.condition) c.self.invariant c.if-condition-self.true)

pub returns-in-Some : goal.returns-in-Some
returns-in-Some c = λ h o.
    let of : IsOf c.self.inside.book h = subst (λ (b : Contents). IsOf b h) (sym c.self.view_is) o in
    answer_to-First c.self.inside.book h c.args.condition c.first.result (Some c.in-Some.priority) of
    (subst (λ (n : ℕ). c.args.condition < n) c.self.invariant c.if-condition-self.false)
    (c.first.ensures.of h of) c.in-Some.is

pub returns-in-None : goal.returns-in-None
returns-in-None c = λ h o.
    let of : IsOf c.self.inside.book h = subst (λ (b : Contents). IsOf b h) (sym c.self.view_is) o in
    answer_to-First c.self.inside.book h c.args.condition c.first.result None of
    (subst (λ (n : ℕ). c.args.condition < n) c.self.invariant c.if-condition-self.false)
    (c.first.ensures.of h of) c.in-None.is
