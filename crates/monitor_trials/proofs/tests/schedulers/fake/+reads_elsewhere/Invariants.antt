use Rattle.monitor_trials.proofs.tests.schedulers.fake.+reads_elsewhere.Given as goal

-- each call starts one read less
abbrev pub decreases-reads_elsewhere : goal.decreases-reads_elsewhere
decreases-reads_elsewhere g l = l.reads
