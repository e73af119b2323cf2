use Rattle.std.proofs.Common.{rules, refl}
use Rattle.plain_schedulers.proofs.Ring.{length-items_in, BufferHolds-ring}
use Rattle.plain_schedulers.proofs.buffer.Buffer.len.Goals as goal

pub returns-clause-answer : goal.returns-clause-answer
returns-clause-answer g c = rw (← c.self.view_is, length-items_in c.self.invariant) refl

pub returns-clause-holds : goal.returns-clause-holds
returns-clause-holds g c = search (rules, BufferHolds-ring c.self.invariant)
