use Rattle.std.proofs.Common.{◌<◌, ◌≤◌, ℕ, sym, subst}
use Rattle.wait_book.specs.Contents.{Contents, IsOf}
use Rattle.hoare_script.proofs.Commands.{answer_to-Queue, answer_to-Queue_refused}
use Rattle.hoare_script.proofs.opened.Opened.queue.Goals as goal

pub returns-then-condition-self : goal.returns-then-condition-self
returns-then-condition-self c = λ h o.
    answer_to-Queue_refused c.self.inside.book h c.args.condition
    (subst (λ (b : Contents). IsOf b h) (sym c.self.view_is) o)
    (subst (λ (n : ℕ). n ≤ c.args.condition) c.self.invariant c.if-condition-self.true)

pub returns : goal.returns
returns c = λ h o.
    let of : IsOf c.self.inside.book h = subst (λ (b : Contents). IsOf b h) (sym c.self.view_is) o in
    answer_to-Queue c.self.inside.book h c.args.condition c.queue.result of
    (subst (λ (n : ℕ). c.args.condition < n) c.self.invariant c.if-condition-self.false) (c.queue.ensures.of h of)
