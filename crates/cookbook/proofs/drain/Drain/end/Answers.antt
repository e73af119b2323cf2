use Rattle.std.proofs.Common.{rules, arith}
use Rattle.hoare_law.proofs.Growth.{leaves-as, Finishes-exit}
use Rattle.cookbook.specs.DrainTraces.{goes_on, is_over}
use Rattle.cookbook.proofs.drain.Drain.end.Goals as goal

pub returns-then-not-is_dry-clause-trace : goal.returns-then-not-is_dry-clause-trace
returns-then-not-is_dry-clause-trace g c =
    goes_on _ _ c.enter-inside.ensures.front (grind arith)
    (leaves-as c.leave.ensures.front (search rules) (search rules) (search rules))

pub returns-clause-trace : goal.returns-clause-trace
returns-clause-trace g c =
    is_over _ _ c.enter-inside.ensures.front (grind arith)
    (Finishes-exit c.signal_leave-out.ensures.front (search rules) (grind arith) (search rules))
