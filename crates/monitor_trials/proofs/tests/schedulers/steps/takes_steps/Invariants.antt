use Rattle.std.specs.Prelude.{◌≡◌}
use Rattle.monitor_trials.proofs.tests.schedulers.steps.takes_steps.Given as goal

-- the place stays one of the monitor's, and keeps its number
abbrev pub invariant-loop-step : goal.invariant-loop-step
invariant-loop-step g l = g.M.Monitor.is_of l.m l.out × (g.M.Monitor.place l.out ≡ g.M.Monitor.place l.fn.out)
