use Rattle.std.proofs.Common.{◌≡◌, drop}
use Rattle.disk_jobs.specs.JobLists.{off_disk}
use Rattle.disk_jobs.proofs.jobs.off_disk.Given as goal

abbrev pub invariant-loop-i : goal.invariant-loop-i
invariant-loop-i l = off_disk l.cylmax 0 l.cylinders ≡ off_disk l.cylmax l.i (drop l.i l.cylinders)
