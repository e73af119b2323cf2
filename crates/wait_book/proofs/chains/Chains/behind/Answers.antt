use Rattle.std.proofs.Common.{ap, sym, ◌∙◌}
use Rattle.wait_book.specs.Lists.{last_key, list_at, lower}
use Rattle.wait_book.proofs.Nodes.{closes, closes-contains, last_none, lower_all}
use Rattle.wait_book.proofs.Chained.{AreChains-equal}
use Rattle.wait_book.proofs.chains.Chains.behind.Goals as goal

pub returns-in_err-last : goal.returns-in_err-last
returns-in_err-last c =
    let i = (AreChains-equal c.self.view_is c.self.invariant.are).linked c.args.chain in
    let none = last_none (list_at c.args.self.now c.args.chain) (sym i.last ∙ c.in_err-last.was) in
    c.from_residual.ensures ∙ sym (ap (λ xs. last_key (lower c.args.priority xs)) none)

pub index-requires : goal.index-requires
index-requires c =
    let i = (AreChains-equal c.self.view_is c.self.invariant.are).linked c.args.chain in
    let list = list_at c.args.self.now c.args.chain in
    closes-contains c.self.inside.nodes c.in_ok-last.last _
    (closes c.self.inside.nodes _ list _ c.in_ok-last.last (sym i.last ∙ c.in_ok-last.was) i.linked)

pub returns-then-index-priority : goal.returns-then-index-priority
returns-then-index-priority c =
    let i = (AreChains-equal c.self.view_is c.self.invariant.are).linked c.args.chain in
    let list = list_at c.args.self.now c.args.chain in
    let last = sym i.last ∙ c.in_ok-last.was in
    let all =
    lower_all c.self.inside.nodes _ list _ c.in_ok-last.last c.args.priority c.index.result.now i.linked last
    c.index.ensures c.if-index-priority.true c.requires.ordered in
    sym (ap last_key all ∙ last)
