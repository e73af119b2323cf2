use Rattle.monitor_bench.proofs.turns.wait_many.Given as goal

-- the place stays one of the monitor's
abbrev pub invariant-loop : goal.invariant-loop
invariant-loop g l = g.M.Monitor.is_of_in l.m l.inside
