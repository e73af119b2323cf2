use Rattle.std.proofs.Common.{Option, ap, sym, ◌∙◌}
use Rattle.std.specs.Option.{option_map}
use Rattle.std.proofs.lemmas.Iterator.Consumers.{YieldsList-from_first, nth_from_yields_List}
use Rattle.wait_book.specs.declared.chains.Link.{Link}
use Rattle.wait_book.specs.Lists.{list_at}
use Rattle.wait_book.proofs.queues.nth_priority.Goals as goal

pub returns-in_err-link : goal.returns-in_err-link
returns-in_err-link c =
    let list = list_at c.args.chains.now c.args.condition in
    let is =
    nth_from_yields_List c.nth.result _ c.args.i c.nth.ensures.ran
    (YieldsList-from_first (λ x. x) (λ rest. rest) list c.on.ensures) in
    c.from_residual.ensures
    ∙ ap (λ (o : Option Link). option_map (λ (x : Link). x.priority) (option_map (λ x. x) o)) (sym c.in_err-link.was)
    ∙ ap (option_map (λ (x : Link). x.priority)) is

pub returns : goal.returns
returns c =
    let list = list_at c.args.chains.now c.args.condition in
    let is =
    nth_from_yields_List c.nth.result _ c.args.i c.nth.ensures.ran
    (YieldsList-from_first (λ x. x) (λ rest. rest) list c.on.ensures) in
    ap (λ (o : Option Link). option_map (λ (x : Link). x.priority) (option_map (λ x. x) o)) (sym c.in_ok-link.was)
    ∙ ap (option_map (λ (x : Link). x.priority)) is
