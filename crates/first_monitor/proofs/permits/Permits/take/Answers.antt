use Rattle.std.proofs.Common.{rules}
use Rattle.hoare_law.specs.Growth.{at_once}
use Rattle.hoare_law.proofs.Growth.{GetsInside-waited, leaves-as}
use Rattle.first_monitor.proofs.permits.Permits.take.Goals as goal
use Rattle.first_monitor.proofs.permits.Permits.take.Goals.{then-is_none_free, else-is_none_free}

pub returns-clause-trace : goal.returns-clause-trace
returns-clause-trace g c = record {
  found = g.M.Monitor.data_in c.if-is_none_free.inside;
  front = g.M.Monitor.front_in c.if-is_none_free.inside;
  enters = elim c.if-is_none_free.branch [
    | then-is_none_free w ↦ rw w.inside-is
        (GetsInside-waited c.enter-inside.ensures.front (search rules) w.wait-inside.ensures.front (search rules)
        (search rules)
        (search rules) (search rules) (search rules))
    | else-is_none_free w ↦ rw w.inside-is (at_once c.enter-inside.ensures.front (search rules))
  ];
  some = search rules;
  leaves = leaves-as c.leave.ensures.front (search rules) (search rules) (search rules);
}
