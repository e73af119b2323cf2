use Rattle.std.specs.Prelude.{◌≡◌}
use Rattle.disk_service.specs.Doors.{AreThreadPlaces}
use Rattle.disk_service.proofs.caller.close_board.Given as goal

-- the caller's places belong to these doors and keep their number
abbrev pub invariant-loop : goal.invariant-loop
invariant-loop g l = AreThreadPlaces l.doors l.own × (l.own.number ≡ l.fn.own.number)
