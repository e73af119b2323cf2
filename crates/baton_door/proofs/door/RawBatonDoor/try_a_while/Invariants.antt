use Rattle.std.proofs.Common.{◌≡◌}
use Rattle.baton_door.specs.Entering.{StaysOut}
use Rattle.baton_door.proofs.door.RawBatonDoor.try_a_while.Given as goal

abbrev pub invariant-loop-doublings : goal.invariant-loop-doublings
invariant-loop-doublings g l =
    (l.seat.table_id ≡ l.initial.seat.table_id) × StaysOut l.initial.seat.me l.seat.me
