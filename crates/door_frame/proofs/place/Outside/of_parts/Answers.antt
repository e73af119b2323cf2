use Rattle.std.proofs.Common.{ap}
use Rattle.door_frame.specs.Places.{place_id, place_out}
use Rattle.door_frame.proofs.Seats.{front_is, is_alone-seat, has_front}
use Rattle.door_frame.proofs.place.Outside.of_parts.Goals as goal

pub invariant_of-result : goal.invariant_of-result
invariant_of-result g c = (is_alone-seat _ _ _ _ c.requires.1, tt)

pub invariant_of-result-2 : goal.invariant_of-result-2
invariant_of-result-2 g c = has_front _ _ c.args.place c.requires.0 _ c.requires.1

pub returns : goal.returns
returns g c = λ f is. ap (place_out (place_id c.args.seat.table_id (g.S.Parking.at c.args.seat.table_id
    c.args.sleeper)) c.args.place) (front_is _ _ _ _ _ is)
