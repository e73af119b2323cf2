use Rattle.std.proofs.Common.{[], ap, arith, refl, ◌∙◌}
use Rattle.wait_book.specs.Lists.{Lists, list_at}
use Rattle.wait_book.specs.Chains.{chain_at}
use Rattle.wait_book.proofs.Nodes.{opens, opens-contains, linked_none}
use Rattle.wait_book.proofs.Chained.{AreChains-equal, AreChains-seen, Leaving, behind_called, calls, lists_are}
use Rattle.wait_book.proofs.Marks.{AreMarked-equal, AreMarked-called}
use Rattle.wait_book.proofs.Kept.{AreKept-called, AreKept-equal, first_waits}
use Rattle.wait_book.proofs.chains.Chains.call_first.Goals as goal
use Rattle.wait_book.proofs.chains.Chains.call_first.Goals.{After-move_on}

pub returns-in_default : goal.returns-in_default
returns-in_default c =
    let i = AreChains-equal c.self.view_is c.self.invariant.are in (
      linked_none c.self.inside.nodes _ (list_at c.args.self.now c.args.chain) c.in_default.is
          (i.linked c.args.chain).linked,
      refl,
    )

pub index_mut-requires : goal.index_mut-requires
index_mut-requires c =
    let i = AreChains-equal c.self.view_is c.self.invariant.are in
    let s = c.self.inside.nodes in
    let list = list_at c.args.self.now c.args.chain in
    opens-contains s c.in-Some.key list (opens s _ c.in-Some.key list c.in-Some.is (i.linked c.args.chain).linked)

-- the first link has left the chain
left : (c : After-move_on) → Leaving c.self.inside.nodes (chain_at c.self.inside.chains c.args.chain)
    c.move_on.new.chain c.in-Some.key c.index_mut.result.now c.take-next.result c.take-next.new.self
left c = record {
  was = c.index_mut.ensures.value;
  starts = c.in-Some.is;
  names = c.take-next.ensures.value;
  ends = c.take-next.ensures.after;
  first = c.move_on.ensures.first;
  last = c.move_on.ensures.last;
}

pub set_next-first-requires : goal.set_next-first-requires
set_next-first-requires c =
    let i = AreChains-equal c.self.view_is c.self.invariant.are in
    behind_called c.args.chain c.in-Some.key c.index_mut.result.now i (omega (arith, c.requires))
    (left (goal.at.set_next-first-requires c).After-move_on)

pub invariant_of-self : goal.invariant_of-self
invariant_of-self c =
    let i = AreChains-equal c.self.view_is c.self.invariant.are in
    let called =
    calls c.args.chain c.in-Some.key c.index_mut.result.now i (omega (arith, c.requires))
    (left (goal.at.invariant_of-self c).After-move_on) c.set_next-first.ensures in
    record {
      are = AreChains-seen called.are;
      places = AreMarked-called c.args.chain [] called.first called.after
          (AreMarked-equal c.self.view_is c.self.invariant.places) (omega (arith, c.requires)) called.was
          (omega (arith, c.requires)) (lists_are called.are);
      kept = AreKept-called _ _ c.args.chain called.first _ called.after
          (AreKept-equal c.self.view_is c.self.invariant.kept) called.was (lists_are called.are);
      few = omega (arith, c.set_next-first.ensures.capacity, c.self.invariant.few);
    }

pub returns : goal.returns
returns c =
    let i = AreChains-equal c.self.view_is c.self.invariant.are in
    let called =
    calls c.args.chain c.in-Some.key c.index_mut.result.now i (omega (arith, c.requires))
    (left (goal.at.returns c).After-move_on) c.set_next-first.ensures in
    record {
      first = called.first;
      after = called.after;
      was = called.was;
      waited = first_waits _ c.args.chain called.first called.after
          (AreKept-equal c.self.view_is c.self.invariant.kept) c.requires called.was;
      lists = lists_are called.are;
      room = c.set_next-first.ensures.capacity ∙ ap (λ (v : Lists). v.room) c.self.view_is;
    }
