use Rattle.monitor_trials.proofs.tests.schedulers.readers.+reads_most.Given as goal

-- each call starts one read less
abbrev pub decreases-reads_most : goal.decreases-reads_most
decreases-reads_most g l = l.reads
