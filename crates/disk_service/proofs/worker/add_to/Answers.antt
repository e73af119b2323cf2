use Rattle.std.proofs.Common.{sym, ◌∙◌}
use Rattle.disk_service.proofs.JobsDone.{counted-once}
use Rattle.disk_service.proofs.worker.add_to.Goals as goal

pub returns-clause-counts : goal.returns-clause-counts
returns-clause-counts g c = λ is.
    let puts = rw c.acquire-out.ensures.place at c.release-out.ensures.trace in
    counted-once _ _ _ _ _ _ _ _ _ _ _ c.acquire-out.ensures.trace puts c.unwrap_or.ensures c.with-sum.ensures
    c.is_some.ensures c.is_ok.ensures.value (sym c.both.ensures ∙ is)
