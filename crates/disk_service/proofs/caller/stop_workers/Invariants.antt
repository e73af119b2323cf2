use Rattle.std.specs.Prelude.{◌≡◌}
use Rattle.disk_service.specs.Doors.{AreThreadPlaces}
use Rattle.disk_service.specs.Handing.{HandsOut, stops}
use Rattle.disk_service.proofs.caller.stop_workers.Given as goal

-- the caller's places belong to these doors and keep their number, and as many stop items as were counted are handed
-- out
abbrev pub invariant-loop : goal.invariant-loop
invariant-loop g l = AreThreadPlaces l.doors l.own × (l.own.number ≡ l.fn.own.number)
    × HandsOut l.fn.own.number l.fn.own.items.front (stops l.counter) l.own.items.front
