use Rattle.std.proofs.Common.{[], ap, ◌∙◌, arith}
use Rattle.wait_book.specs.Lists.{Lists, list_at}
use Rattle.wait_book.proofs.Nodes.{opens, opens-contains, linked_none}
use Rattle.wait_book.proofs.Chained.{AreChains-equal, AreChains-seen, AreChains-taken, takes, lists_are}
use Rattle.wait_book.proofs.Marks.{AreMarked-equal, AreMarked-taken, place_within}
use Rattle.wait_book.proofs.Kept.{AreKept-equal, AreKept-taken}
use Rattle.wait_book.proofs.chains.Chains.take_first.Goals as goal

pub returns-in_err-first : goal.returns-in_err-first
returns-in_err-first c =
    let i = AreChains-equal c.self.view_is c.self.invariant.are in
    let none =
    linked_none c.self.inside.nodes _ (list_at c.args.self.now c.args.chain) c.in_err-first.was
    (i.linked c.args.chain).linked in
    rw c.from_residual.ensures (none, c.self.view_is)

pub remove-node-requires : goal.remove-node-requires
remove-node-requires c =
    let i = AreChains-equal c.self.view_is c.self.invariant.are in
    let s = c.self.inside.nodes in
    let list = list_at c.args.self.now c.args.chain in
    opens-contains s c.in_ok-first.field-0 list
    (opens s _ c.in_ok-first.field-0 list c.in_ok-first.was (i.linked c.args.chain).linked)

pub bounds-self-inside-place : goal.bounds-self-inside-place
bounds-self-inside-place c =
    let i = AreChains-equal c.self.view_is c.self.invariant.are in
    let node = c.remove-node.ensures in
    let t = takes c.args.chain c.in_ok-first.field-0 c.remove-node.result i c.in_ok-first.was node.value node.updates in
    omega (
      arith,
      t.removed.place,
      place_within c.args.chain [] t.first t.after
          (AreMarked-equal c.self.view_is c.self.invariant.places) c.requires t.is,
    )

pub invariant_of-self-2 : goal.invariant_of-self-2
invariant_of-self-2 c =
    let i = AreChains-equal c.self.view_is c.self.invariant.are in
    let node = c.remove-node.ensures in
    let t = takes c.args.chain c.in_ok-first.field-0 c.remove-node.result i c.in_ok-first.was node.value node.updates in
    let are =
    AreChains-taken c.args.chain c.in_ok-first.field-0 c.remove-node.result c.move_on.ensures.first
    c.move_on.ensures.last i c.requires t node.len in
    let marks = AreMarked-equal c.self.view_is c.self.invariant.places in
    record {
      are = AreChains-seen are;
      places = AreMarked-taken c.args.chain [] t.first t.after marks c.requires t.is c.remove-node.result.place
          t.removed.place (lists_are are);
      kept = AreKept-taken _ _ c.args.chain [] t.first t.after (AreKept-equal c.self.view_is c.self.invariant.kept) t.is
          (lists_are are);
      few = omega (arith, node.capacity, c.self.invariant.few);
    }

pub returns : goal.returns
returns c =
    let i = AreChains-equal c.self.view_is c.self.invariant.are in
    let node = c.remove-node.ensures in
    let t = takes c.args.chain c.in_ok-first.field-0 c.remove-node.result i c.in_ok-first.was node.value node.updates in
    record {
      first = t.first;
      after = t.after;
      was = t.is;
      first_place = t.removed.place;
      lists = λ d. lists_are (AreChains-taken c.args.chain c.in_ok-first.field-0 c.remove-node.result
          c.move_on.ensures.first c.move_on.ensures.last i c.requires t node.len) d;
      room = node.capacity ∙ ap (λ (v : Lists). v.room) c.self.view_is;
    }
