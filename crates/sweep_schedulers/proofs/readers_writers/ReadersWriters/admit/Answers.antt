use Rattle.std.proofs.Common.{arith}
use Rattle.sweep_schedulers.specs.ReadersWritersTraces.{room, full}
use Rattle.sweep_schedulers.proofs.readers_writers.ReadersWriters.admit.Goals as goal

pub returns-then-self-eq-MOST_READERS : goal.returns-then-self-eq-MOST_READERS
returns-then-self-eq-MOST_READERS g c = full _ (rw (← c.self.view_is) c.if-self-eq-MOST_READERS.true)

pub returns : goal.returns
returns g c = rw (← c.self.view_is) (room _ (omega (arith, c.self.invariant.most, c.if-self-eq-MOST_READERS.false)))
