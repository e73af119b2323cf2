use Rattle.std.proofs.Common.{◌≡◌, List, ◌∷◌, ◌++◌, set, ap, ◌∙◌, arith}
use Rattle.wait_book.specs.declared.chains.Chain.{Chain}
use Rattle.wait_book.specs.declared.chains.Link.{Link}
use Rattle.wait_book.specs.Lists.{Lists, last_key, list_at, list_put}
use Rattle.wait_book.specs.Chains.{AreChains, chain_at}
use Rattle.wait_book.proofs.Nodes.{behind-contains}
use Rattle.wait_book.proofs.Chained.{AreChains-equal, AreChains-seen, AreChains-linked, Linking, cut, cut-stored}
use Rattle.wait_book.proofs.Chained.{lists_are}
use Rattle.wait_book.proofs.Marks.{AreMarked-equal, AreMarked-put}
use Rattle.wait_book.proofs.Kept.{AreKept-equal, AreKept-put}
use Rattle.wait_book.proofs.chains.Chains.link.Goals as goal
use Rattle.wait_book.proofs.chains.Chains.link.Goals.{After-last_after-last}

pub next_of-next-requires : goal.next_of-next-requires
next_of-next-requires c =
    let i = AreChains-equal c.self.view_is c.self.invariant.are in
    let b = c.requires.behind in
    let at = cut c.args.chain b.0 b.1 i b.2 in
    behind-contains c.self.inside.nodes _ b.0 at.next c.args.behind b.3 at.front

pub set_next-first-requires : goal.set_next-first-requires
set_next-first-requires c =
    let i = AreChains-equal c.self.view_is c.self.invariant.are in
    let b = c.requires.behind in
    let at = cut c.args.chain b.0 b.1 i b.2 in
    let stored = c.insert_reserved-key.ensures in
    behind-contains c.insert_reserved-key.new.self _ b.0 at.next c.args.behind b.3
    (cut-stored c.args.chain c.insert_reserved-key.result b.0 b.1 at.next i c.requires.chain b.2 stored.was_vacant
    stored.updates at.front)

-- the new link, in the node that the slab gave
abbrev who : After-last_after-last → Link
who c = record {
  key = c.insert_reserved-key.result;
  place = c.args.place;
  condition = c.args.condition;
  priority = c.args.priority;
}

-- the chains with that node, for each way to cut the list
linked : (c : After-last_after-last) (before after : List Link)
    → list_at c.args.self.now c.args.chain ≡ before ++ after → c.args.behind ≡ last_key before
    → (let new : Chain = record { first = c.set_next-first.result; last = c.last_after-last.result } in
    AreChains c.set_next-first.new.nodes (set c.self.inside.chains c.args.chain new)
    (list_put c.args.chain (before ++ who c ∷ after) (list_at c.args.self.now)))
linked c before after is e =
    let i = AreChains-equal c.self.view_is c.self.invariant.are in
    let stored = c.insert_reserved-key.ensures in
    let linking : Linking c.self.inside.nodes c.insert_reserved-key.new.self c.set_next-first.new.nodes
    (chain_at c.self.inside.chains c.args.chain).first c.args.behind c.next_of-next.result c.set_next-first.result
    (who c) = record {
      vacant = stored.was_vacant;
      stored = stored.updates;
      longer = stored.len;
      put = c.set_next-first.ensures;
    } in
    AreChains-linked c.args.chain before after i c.requires.chain linking c.last_after-last.ensures
    c.next_of-next.ensures is e

pub invariant_of-self : goal.invariant_of-self
invariant_of-self c =
    let at = (goal.at.invariant_of-self c).After-last_after-last in
    let b = c.requires.behind in
    let are = linked at b.0 b.1 b.2 b.3 in
    let marks = AreMarked-equal c.self.view_is c.self.invariant.places in
    record {
      are = AreChains-seen are;
      places = AreMarked-put c.args.chain b.0 b.1 (who at) marks c.requires.chain c.requires.place b.2 c.requires.apart
          (lists_are are);
      kept = AreKept-put _ _ c.args.chain b.0 b.1 (who at)
          (AreKept-equal c.self.view_is c.self.invariant.kept) b.2 c.requires.condition (lists_are are);
      few = omega (
        arith,
        c.set_next-first.ensures.capacity,
        c.insert_reserved-key.ensures.capacity,
        c.self.invariant.few,
      );
    }

pub returns : goal.returns
returns c = λ before after is e.
    record {
      key = c.insert_reserved-key.result;
      lists = lists_are (linked (goal.at.returns c).After-last_after-last before after is e);
      room = c.set_next-first.ensures.capacity ∙ c.insert_reserved-key.ensures.capacity
          ∙ ap (λ (v : Lists). v.room) c.self.view_is;
    }
