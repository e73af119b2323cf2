use Rattle.std.proofs.Common.{◌≡◌}
use Rattle.door_frame.specs.Seats.{StaysAway}
use Rattle.door_frame.proofs.parking.claim.Given as goal

abbrev pub invariant-loop : goal.invariant-loop
invariant-loop g l =
    ((goal.iterator-loop g).can_next l.iterator' × (goal.iterator-loop g).is_finite l.iterator') ×
    (l.seat.table_id ≡ l.initial.seat.table_id)
    × StaysAway l.place l.initial.seat.me l.seat.me
