use Rattle.std.proofs.Common.{◌≡◌, [], ap, sym, ◌∙◌, rules}
use Rattle.wait_book.specs.Chains.{walked}
use Rattle.wait_book.proofs.Nodes.{opens, opens-contains, walked_first, walked_none}
use Rattle.wait_book.proofs.chains.links.LinksIterator.next.Goals as goal

pub returns-in_err-key-clause-steps : goal.returns-in_err-key-clause-steps
returns-in_err-key-clause-steps c =
    let none : c.args.self.now ≡ [] =
    sym c.self.view_is ∙ ap (walked c.self.inside.nodes.now) c.in_err-key.was ∙ walked_none c.self.inside.nodes.now in
    rw c.from_residual.ensures (search rules)

pub index-node-requires : goal.index-node-requires
index-node-requires c =
    let s = c.self.inside.nodes.now in
    let e = c.self.invariant in
    opens-contains s c.in_ok-key.key e.list (opens s c.self.inside.at c.in_ok-key.key e.list c.in_ok-key.was e.linked)

pub invariant_of-self : goal.invariant_of-self
invariant_of-self c =
    (walked_first c.self.inside.nodes.now c.self.inside.at c.in_ok-key.key c.index-node.result.now c.self.invariant
    c.in_ok-key.was c.index-node.ensures).1

pub returns-clause-steps : goal.returns-clause-steps
returns-clause-steps c =
    sym c.self.view_is
    ∙
    (walked_first c.self.inside.nodes.now c.self.inside.at c.in_ok-key.key c.index-node.result.now c.self.invariant
    c.in_ok-key.was c.index-node.ensures).0

pub returns-clause-goes : goal.returns-clause-goes
returns-clause-goes c =
    let step =
    sym c.self.view_is
    ∙
    (walked_first c.self.inside.nodes.now c.self.inside.at c.in_ok-key.key c.index-node.result.now c.self.invariant
    c.in_ok-key.was c.index-node.ensures).0 in
    rw step (search rules)
