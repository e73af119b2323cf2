use Rattle.disk_service.proofs.ServedJobs.{gathered}
use Rattle.disk_service.proofs.serving.close_and_report.Goals as goal

pub returns-clause-served : goal.returns-clause-served
returns-clause-served c =
    gathered _ _ _ _ _ _ _ _ c.requires.size c.close-totals.ensures c.in-Some.is
    (c.requires.done c.if-not-did_all.false) c.gather.ensures.ok c.gather.ensures.report
