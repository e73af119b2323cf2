use Rattle.std.specs.Prelude.{◌≡◌}
use Rattle.disk_service.specs.Doors.{AreThreadPlaces}
use Rattle.disk_service.specs.Handing.{HandsOut, first_jobs}
use Rattle.disk_service.proofs.caller.hand_on_jobs.Given as goal

-- the caller's places belong to these doors and keep their number, and the jobs before this one are handed out
abbrev pub invariant-loop-job : goal.invariant-loop-job
invariant-loop-job g l = AreThreadPlaces l.doors l.own × (l.own.number ≡ l.fn.own.number)
    × HandsOut l.fn.own.number l.fn.own.items.front (first_jobs l.job) l.own.items.front
