use Rattle.std.specs.Prelude.{◌≡◌, vec_len, true}
use Rattle.disk_service.specs.Doors.{AreThreadPlaces}
use Rattle.disk_service.specs.Sleeps.{SleepsForEach}
use Rattle.disk_service.specs.Borrows.{BorrowsForEach}
use Rattle.disk_service.specs.JobsDone.{HasDone}
use Rattle.disk_service.proofs.worker.work.Given as goal

-- the worker's places belong to these doors and keep their number; for each job that it did the worker has slept, and
-- borrowed a buffer; and unless it couldn't do a job that it got, it did these jobs and nothing else
abbrev pub invariant-loop : goal.invariant-loop
invariant-loop g l = AreThreadPlaces l.doors l.own × (l.own.number ≡ l.fn.own.number)
    × SleepsForEach l.fn.own.number l.fn.own.clock.front l.own.clock.front (vec_len l.fn.room) (vec_len l.kept)
    × BorrowsForEach l.fn.own.number l.fn.own.number l.fn.own.pool.front l.own.pool.front
    (vec_len l.fn.room) (vec_len l.kept)
    × (l.did_all ≡ true → HasDone l.fn.own.number l.fn.room.items l.fn.own l.kept.items l.own)
