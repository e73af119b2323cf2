use Rattle.std.proofs.Common.{sym, ◌∙◌}
use Rattle.wait_book.proofs.Nodes.{closes, closes-next, linked_nothing}
use Rattle.wait_book.proofs.chains.next_of.Goals as goal

pub returns-in-Some : goal.returns-in-Some
returns-in-Some c = λ before to linked last.
    let there = closes c.args.nodes.now c.args.first before to c.in-Some.key (sym last ∙ c.in-Some.is) linked in
    closes-next c.args.nodes.now c.in-Some.key to c.index.result.now there c.index.ensures

pub returns-in-None : goal.returns-in-None
returns-in-None c =
    λ before to linked last. linked_nothing c.args.nodes.now c.args.first before to (sym last ∙ c.in-None.is) linked
