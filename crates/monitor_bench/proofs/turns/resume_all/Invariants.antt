use Rattle.monitor_bench.proofs.turns.resume_all.Given as goal

-- the place stays one of the monitor's
abbrev pub invariant-loop : goal.invariant-loop
invariant-loop g l =
    ((goal.iterator-loop g).can_next l.iterator' × (goal.iterator-loop g).is_finite l.iterator')
    × g.M.Monitor.is_of_in l.m l.inside
