use Rattle.std.proofs.Common.{rules}
use Rattle.hoare_law.proofs.Growth.{leaves-as}
use Rattle.cookbook.specs.DrainTraces.{begun, refused}
use Rattle.cookbook.proofs.drain.Drain.begin.Goals as goal

pub returns-then-is_full-clause-trace : goal.returns-then-is_full-clause-trace
returns-then-is_full-clause-trace g c =
    refused _ _ _ c.enter-inside.ensures.front (search rules)
    (leaves-as c.leave.ensures.front (search rules) (search rules) (search rules))

pub returns-clause-trace : goal.returns-clause-trace
returns-clause-trace g c =
    begun _ _ c.enter-inside.ensures.front (search rules)
    (leaves-as c.leave-2.ensures.front (search rules) (search rules) (search rules))
