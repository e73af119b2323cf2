use Rattle.std.proofs.Common.{rules, arith}
use Rattle.plain_schedulers.proofs.Ring.{length-items_in, IsRing-pop, items_in-pop, oldest_is_in}
use Rattle.plain_schedulers.proofs.buffer.Buffer.pop.Goals as goal

pub overflow_sub-self : goal.overflow_sub-self
overflow_sub-self g c =
    let few = length-items_in c.self.invariant in
    let asked = rw (← c.self.view_is) at c.requires in
    omega arith

pub unreachable-requires : goal.unreachable-requires
unreachable-requires g c =
    oldest_is_in c.self.invariant (rw (← c.self.view_is) at c.requires) (omega arith)
    (rw c.around-oldest.ensures at c.index_mut.ensures.value) (search rules)

pub invariant_of-self : goal.invariant_of-self
invariant_of-self g c = rw (c.take-taken.ensures.after, c.around-oldest.ensures)
    (IsRing-pop c.self.invariant (rw (← c.self.view_is) at c.requires) (omega arith))

pub returns-clause-items : goal.returns-clause-items
returns-clause-items g c = rw (← c.self.view_is, c.take-taken.ensures.after, c.around-oldest.ensures)
    (items_in-pop c.in-Some.item c.self.invariant (rw (← c.self.view_is) at c.requires)
    (omega arith) (rw c.around-oldest.ensures at c.index_mut.ensures.value) (search rules))
