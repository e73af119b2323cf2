use Rattle.std.specs.Prelude.{◌≡◌}
use Rattle.monitor_trials.proofs.tests.doors.waking.stays_or_enters.Given as goal

-- the place stays one of the monitor's, and keeps its number
abbrev pub invariant-loop-round : goal.invariant-loop-round
invariant-loop-round g l = g.M.Monitor.is_of l.m l.out × (g.M.Monitor.place l.out ≡ g.M.Monitor.place l.fn.out)
