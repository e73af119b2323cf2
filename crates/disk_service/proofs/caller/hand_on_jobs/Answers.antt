use Rattle.std.proofs.Common.{rules}
use Rattle.disk_service.specs.Handing.{nothing}
use Rattle.disk_service.proofs.Handing.{next-job}
use Rattle.disk_service.proofs.caller.hand_on_jobs.Goals as goal

pub loop-job-init : goal.loop-job-init
loop-job-init g c = (search rules, search rules, nothing)

pub loop-job-preserved : goal.loop-job-preserved
loop-job-preserved g c =
    let inv = c.loop-job.invariant in (
      search rules,
      search rules,
      next-job _ _ _ _ _ inv.2 (rw inv.1 at c.append-own.ensures.appended),
    )
