use Rattle.std.proofs.Common.{rules, arith}
use Rattle.hoare_law.proofs.Growth.{leaves-as, Finishes-exit}
use Rattle.cookbook.specs.LatchTraces.{stays_shut, is_open}
use Rattle.cookbook.proofs.latch.Latch.count_down.Goals as goal

pub returns-then-not-is_open-clause-trace : goal.returns-then-not-is_open-clause-trace
returns-then-not-is_open-clause-trace g c =
    stays_shut _ _ c.enter-inside.ensures.front (grind arith)
    (leaves-as c.leave.ensures.front (search rules) (search rules) (search rules))

pub returns-clause-trace : goal.returns-clause-trace
returns-clause-trace g c =
    is_open _ _ c.enter-inside.ensures.front (grind arith)
    (Finishes-exit c.signal_leave-out.ensures.front (search rules) (grind arith) (search rules))
