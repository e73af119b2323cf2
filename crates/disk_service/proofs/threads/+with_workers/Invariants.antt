use Rattle.disk_service.proofs.threads.+with_workers.Given as goal

abbrev pub decreases-with_workers : goal.decreases-with_workers
decreases-with_workers g l = l.left
