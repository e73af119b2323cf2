use Rattle.monitor_bench.proofs.buffers.append_many.Given as goal

-- the place stays one of the monitor's
abbrev pub invariant-loop-item : goal.invariant-loop-item
invariant-loop-item g l = g.M.Monitor.is_of l.m l.out
