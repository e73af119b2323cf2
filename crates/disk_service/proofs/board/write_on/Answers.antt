use Rattle.std.proofs.Common.{sym, ◌∙◌}
use Rattle.disk_service.proofs.JobsDone.{noted-once}
use Rattle.disk_service.proofs.board.write_on.Goals as goal

pub returns-clause-notes : goal.returns-clause-notes
returns-clause-notes g c = λ is.
    let ends = rw c.start_write-out.ensures.place at c.end_write-out.ensures.trace in
    noted-once _ _ _ _ _ _ _ _ _ _ _ _ c.start_write-out.ensures.trace ends c.unwrap_or.ensures c.with-next.ensures
    c.is_some.ensures c.is_ok.ensures.value (sym c.both.ensures ∙ is)
