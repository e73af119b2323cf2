use Rattle.std.proofs.Common.{◌∙◌, sym, subst}
use Rattle.wait_book.specs.Contents.{Contents, IsOf}
use Rattle.hoare_script.proofs.Commands.{answer_to-Do}
use Rattle.hoare_script.proofs.opened.Opened.step.Goals as goal

pub returns : goal.returns
returns c = λ h o.
    let of : IsOf c.self.inside.book h = subst (λ (b : Contents). IsOf b h) (sym c.self.view_is) o in
    let done = answer_to-Do c.self.inside.book c.try_step-outcome.new.self h c.args.step c.try_step-outcome.result of
    (c.try_step-outcome.ensures.of h of) c.try_step-outcome.ensures.next c.try_step-outcome.ensures.err in
    (c.outcome_answer.ensures ∙ done.0, done.1)
