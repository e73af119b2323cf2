use Rattle.std.specs.Prelude.{◌≡◌}
use Rattle.monitor_trials.proofs.tests.doors.tries.tries.Given as goal

-- the place stays one of the monitor's, and keeps its number
abbrev pub invariant-loop : goal.invariant-loop
invariant-loop g l = g.M.Monitor.is_of l.m l.out × (g.M.Monitor.place l.out ≡ g.M.Monitor.place l.fn.out)
