use Rattle.std.proofs.Common.{rules}
use Rattle.hoare_law.specs.Growth.{at_once}
use Rattle.hoare_law.proofs.Growth.{GetsInside-waited, Finishes-exit}
use Rattle.cookbook.proofs.latch.Latch.pass.Goals as goal
use Rattle.cookbook.proofs.latch.Latch.pass.Goals.{then-not-is_open, else-not-is_open}

pub returns-clause-trace : goal.returns-clause-trace
returns-clause-trace g c = record {
  found = g.M.Monitor.data_in c.if-not-is_open.inside;
  front = g.M.Monitor.front_in c.if-not-is_open.inside;
  enters = elim c.if-not-is_open.branch [
    | then-not-is_open w ↦ rw w.inside-is
        (GetsInside-waited c.enter-inside.ensures.front (search rules) w.wait-inside.ensures.front (search rules)
        (search rules)
        (search rules) (search rules) (search rules))
    | else-not-is_open w ↦ rw w.inside-is (at_once c.enter-inside.ensures.front (search rules))
  ];
  open_then = search rules;
  finishes = Finishes-exit c.signal_leave-out.ensures.front (search rules) (search rules) (search rules);
}
