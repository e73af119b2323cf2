use Rattle.std.proofs.Common.{◌≡◌}
use Rattle.baton_door.specs.Entering.{StaysOut}
use Rattle.baton_door.proofs.door.RawBatonDoor.sleep_and_try.Given as goal

abbrev pub invariant-loop : goal.invariant-loop
invariant-loop g l =
    ((goal.iterator-loop g).can_next l.iterator' × (goal.iterator-loop g).is_finite l.iterator') ×
    (l.seat.table_id ≡ l.initial.seat.table_id)
    × StaysOut l.initial.seat.me l.seat.me
