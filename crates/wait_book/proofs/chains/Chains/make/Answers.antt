use Rattle.std.proofs.Common.{arith}
use Rattle.wait_book.proofs.Chained.{AreChains-none, AreChains-seen, lists_are}
use Rattle.wait_book.proofs.Kept.{AreKept-none}
use Rattle.wait_book.proofs.Marks.{AreMarked-none}
use Rattle.wait_book.proofs.chains.Chains.make.Goals as goal

pub invariant_of-result : goal.invariant_of-result
invariant_of-result c =
    let are = AreChains-none c.in_ok-nodes.nodes c.in_ok-nodes.ensures.empty in
    record {
      are = AreChains-seen are;
      places = AreMarked-none (lists_are are);
      kept = AreKept-none _ (lists_are are);
      few = omega (arith, c.capacity.ensures.value, c.if-capacity-gt-MOST_KEYS);
    }

pub returns-clause-empty : goal.returns-clause-empty
returns-clause-empty c = λ d. lists_are (AreChains-none c.in_ok-nodes.nodes c.in_ok-nodes.ensures.empty) d
