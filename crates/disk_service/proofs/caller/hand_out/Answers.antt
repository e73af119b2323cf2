use Rattle.disk_service.proofs.Handing.{HandsOut-joined}
use Rattle.disk_service.proofs.caller.hand_out.Goals as goal

pub returns-clause-handed : goal.returns-clause-handed
returns-clause-handed g c =
    let stopped = rw (c.hand_on_jobs-own.ensures.number, c.workers.ensures.value) at c.stop_workers.ensures.handed in
    HandsOut-joined _ _ _ _ _ _ c.hand_on_jobs-own.ensures.handed stopped
