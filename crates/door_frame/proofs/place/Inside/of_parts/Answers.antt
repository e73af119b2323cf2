use Rattle.std.proofs.Common.{ap}
use Rattle.door_frame.specs.Places.{place_id, place_in}
use Rattle.door_frame.specs.Seats.{IsInside}
use Rattle.door_frame.proofs.Seats.{at_front, front_is, is_alone-seat}
use Rattle.door_frame.proofs.place.Inside.of_parts.Goals as goal

pub invariant_of-result : goal.invariant_of-result
invariant_of-result g c = (is_alone-seat _ _ _ _ c.requires.1.0, tt)

pub invariant_of-result-2 : goal.invariant_of-result-2
invariant_of-result-2 g c =
    let k = c.args.place in
    let is = c.requires.1 in
    at_front (λ h. IsInside k h c.args.seat.me c.args.guarded.book) _ _ k _ _ is.0 is

pub returns : goal.returns
returns g c = λ f is.
    ap (λ h. place_in (place_id c.args.seat.table_id (g.S.Parking.at c.args.seat.table_id c.args.sleeper)) c.args.place
    h c.args.guarded.state)
    (front_is _ _ _ _ _ is.0)
