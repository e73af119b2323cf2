use Rattle.std.proofs.Common.{ap, arith, ◌∙◌}
use Rattle.wait_book.specs.declared.chains.TheConstants.{CALLED}
use Rattle.wait_book.specs.Lists.{Lists, list_at}
use Rattle.wait_book.proofs.Nodes.{behind-contains, linked_none}
use Rattle.wait_book.proofs.Chained.{AreChains-equal, AreChains-seen, AreChains-joined, lists_are}
use Rattle.wait_book.proofs.Marks.{AreMarked-equal, AreMarked-joined}
use Rattle.wait_book.proofs.Kept.{AreKept-equal, AreKept-joined, joined-none}
use Rattle.wait_book.proofs.chains.Chains.call_all.Goals as goal

pub returns-in_default : goal.returns-in_default
returns-in_default c =
    let i = AreChains-equal c.self.view_is c.self.invariant.are in
    joined-none c.args.chain c.args.self.now c.requires
    (linked_none c.self.inside.nodes _ (list_at c.args.self.now c.args.chain) c.in_default.is
    (i.linked c.args.chain).linked)

pub set_next-first-requires : goal.set_next-first-requires
set_next-first-requires c =
    let i = AreChains-equal c.self.view_is c.self.invariant.are in
    behind-contains c.self.inside.nodes _ (list_at c.args.self.now CALLED) _ _ (i.linked CALLED).last
    (i.linked CALLED).linked

pub invariant_of-self : goal.invariant_of-self
invariant_of-self c =
    let i = AreChains-equal c.self.view_is c.self.invariant.are in
    let put = c.set_next-first.ensures in
    let are = AreChains-joined c.args.chain c.in-Some.key i (omega (arith, c.requires)) c.in-Some.is put in
    record {
      are = AreChains-seen are;
      places = AreMarked-joined c.args.chain (AreMarked-equal c.self.view_is c.self.invariant.places)
          (omega (arith, c.requires)) (lists_are are);
      kept = AreKept-joined _ _ c.args.chain _ (AreKept-equal c.self.view_is c.self.invariant.kept) (lists_are are);
      few = omega (arith, put.capacity, c.self.invariant.few);
    }

pub returns : goal.returns
returns c =
    let i = AreChains-equal c.self.view_is c.self.invariant.are in
    let put = c.set_next-first.ensures in
    let are = AreChains-joined c.args.chain c.in-Some.key i (omega (arith, c.requires)) c.in-Some.is put in
    record {
      lists = λ d. lists_are are d;
      waited = AreKept-equal c.self.view_is c.self.invariant.kept c.args.chain c.requires;
      room = put.capacity ∙ ap (λ (v : Lists). v.room) c.self.view_is;
    }
