use Rattle.monitor_bench.proofs.turns.drive_many.Given as goal

-- the place stays one of the monitor's
abbrev pub invariant-loop : goal.invariant-loop
invariant-loop g l = g.M.Monitor.is_of l.m l.out
