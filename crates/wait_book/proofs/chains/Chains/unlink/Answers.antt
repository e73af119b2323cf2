use Rattle.std.proofs.Common.{◌≡◌, List, ◌∷◌, ◌++◌, set, arith}
use Rattle.wait_book.specs.declared.chains.Chain.{Chain}
use Rattle.wait_book.specs.declared.chains.Link.{Link}
use Rattle.wait_book.specs.Lists.{last_key, list_at, list_put}
use Rattle.wait_book.specs.Chains.{AreChains, chain_at}
use Rattle.wait_book.proofs.Nodes.{behind-contains}
use Rattle.wait_book.proofs.Chained.{AreChains-equal, AreChains-seen, AreChains-unlinked, Unlinking, cut, cut-removed}
use Rattle.wait_book.proofs.Chained.{Removes, lists_are, node_contains, removes}
use Rattle.wait_book.proofs.Marks.{AreMarked-equal, AreMarked-taken, place_within}
use Rattle.wait_book.proofs.Kept.{AreKept-equal, AreKept-taken}
use Rattle.wait_book.proofs.chains.Chains.unlink.Goals as goal
use Rattle.wait_book.proofs.chains.Chains.unlink.Goals.{After-last_after-last, After-remove-node}

pub remove-node-requires : goal.remove-node-requires
remove-node-requires c =
    let i = AreChains-equal c.self.view_is c.self.invariant.are in
    let b = c.requires.behind in
    node_contains c.args.chain c.args.key b.0 b.2 b.1 i b.3 b.5

-- the node of the link is removed, for each way to cut the list
removed : (c : After-remove-node) (before after : List Link) (x : Link)
    → list_at c.args.self.now c.args.chain ≡ before ++ x ∷ after → x.key ≡ c.args.key
    → Removes c.self.inside.nodes c.remove-node.new.self x c.remove-node.result
removed c before after x is q =
    removes c.args.chain c.args.key before x after c.remove-node.result
    (AreChains-equal c.self.view_is c.self.invariant.are) is q c.remove-node.ensures.value
    c.remove-node.ensures.updates

pub set_next-first-requires : goal.set_next-first-requires
set_next-first-requires c =
    let i = AreChains-equal c.self.view_is c.self.invariant.are in
    let b = c.requires.behind in
    let at = cut c.args.chain b.0 (b.2 ∷ b.1) i b.3 in
    behind-contains c.remove-node.new.self _ b.0 at.next c.args.behind b.4
    (cut-removed c.args.chain b.0 b.2 b.1 at.next i c.requires.chain b.3
    (removed (goal.at.set_next-first-requires c).After-remove-node b.0 b.1 b.2 b.3 b.5).updates at.front)

pub bounds-self-inside-node : goal.bounds-self-inside-node
bounds-self-inside-node c =
    let b = c.requires.behind in
    omega (
      arith,
      (removed (goal.at.bounds-self-inside-node c).After-remove-node b.0 b.1 b.2 b.3 b.5).place,
      place_within c.args.chain b.0 b.2 b.1
          (AreMarked-equal c.self.view_is c.self.invariant.places) c.requires.chain b.3,
    )

-- the chains without that node, for each way to cut the list
unlinked : (c : After-last_after-last) (before after : List Link) (x : Link)
    → list_at c.args.self.now c.args.chain ≡ before ++ x ∷ after → c.args.behind ≡ last_key before
    → x.key ≡ c.args.key
    → (let new : Chain = record { first = c.set_next-first.result; last = c.last_after-last.result } in
    AreChains c.set_next-first.new.nodes (set c.self.inside.chains c.args.chain new)
    (list_put c.args.chain (before ++ after) (list_at c.args.self.now)))
unlinked c before after x is e q =
    let i = AreChains-equal c.self.view_is c.self.invariant.are in
    let unlinking : Unlinking c.self.inside.nodes c.remove-node.new.self c.set_next-first.new.nodes
    (chain_at c.self.inside.chains c.args.chain).first c.args.behind c.set_next-first.result x
    c.remove-node.result = record {
      removed = removes c.args.chain c.args.key before x after c.remove-node.result i is q c.remove-node.ensures.value
          c.remove-node.ensures.updates;
      shorter = c.remove-node.ensures.len;
      put = c.set_next-first.ensures;
    } in
    AreChains-unlinked c.args.chain before after i c.requires.chain unlinking c.last_after-last.ensures is e

pub invariant_of-self : goal.invariant_of-self
invariant_of-self c =
    let at = (goal.at.invariant_of-self c).After-last_after-last in
    let b = c.requires.behind in
    let are = unlinked at b.0 b.1 b.2 b.3 b.4 b.5 in
    let gone = removed (goal.at.invariant_of-self c).After-remove-node b.0 b.1 b.2 b.3 b.5 in
    record {
      are = AreChains-seen are;
      places = AreMarked-taken c.args.chain b.0 b.2 b.1 (AreMarked-equal c.self.view_is c.self.invariant.places)
          c.requires.chain b.3 c.remove-node.result.place gone.place (lists_are are);
      kept = AreKept-taken _ _ c.args.chain b.0 b.2 b.1 (AreKept-equal c.self.view_is c.self.invariant.kept) b.3
          (lists_are are);
      few = omega (
        arith,
        c.set_next-first.ensures.capacity,
        c.remove-node.ensures.capacity,
        c.self.invariant.few,
      );
    }

pub returns-clause-lists : goal.returns-clause-lists
returns-clause-lists c = λ before after x is e q.
    lists_are (unlinked (goal.at.returns-clause-lists c).After-last_after-last before after x is e q)
