use Rattle.std.proofs.Common.{rules}
use Rattle.hoare_law.proofs.Growth.{leaves-as, Finishes-exit}
use Rattle.cookbook.specs.TableTraces.{to_one, to_nobody}
use Rattle.cookbook.proofs.table.Table.hand_on.Goals as goal

pub returns-in_default-clause-trace : goal.returns-in_default-clause-trace
returns-in_default-clause-trace g c =
    to_nobody (search rules) (leaves-as c.leave.ensures.front (search rules) (search rules) (search rules))

pub returns-clause-trace : goal.returns-clause-trace
returns-clause-trace g c =
    to_one _ (search rules) (search rules) (search rules)
    (Finishes-exit c.signal_leave-out.ensures.front (search rules) (search rules) (search rules))
