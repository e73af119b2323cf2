use Rattle.std.proofs.Common.{◌∙◌}
use Rattle.door_frame.proofs.Arrivals.{came_back}
use Rattle.door_frame.proofs.Refusals.{still_away}
use Rattle.door_frame.proofs.Seats.{away_as, place_id_on}
use Rattle.door_frame.proofs.calls.try_return.Goals as goal

pub try_claim-requires-clause-away : goal.try_claim-requires-clause-away
try_claim-requires-clause-away g c =
    let parts = c.into_parts-seat.ensures in (c.args.away.front, away_as parts.1 parts.2)

-- if the place returned

pub return_with-requires : goal.return_with-requires
return_with-requires g c =
    let parts = c.into_parts-seat.ensures in
    record { entered_by = (c.args.away.front, c.in-Some.ensures.enters_with c.args.away.front (away_as parts.1 parts.2)) }

pub returns-in-Some : goal.returns-in-Some
returns-in-Some g c =
    let parts = c.into_parts-seat.ensures in
    let came = c.in-Some.ensures.enters_with c.args.away.front (away_as parts.1 parts.2) in
    record {
      back =
          came_back c.args.away _ _ c.requires (place_id_on g.S.Parking.at _ c.in-Some.ensures.table ∙ parts.0) parts.1
          came
          (c.return_with.ensures _ came);
      refused = tt;
    }

-- if the place didn't return

pub of_parts-requires : goal.of_parts-requires
of_parts-requires g c =
    let parts = c.into_parts-seat.ensures in
    let r = c.in-None.ensures.refused c.args.away.front (away_as parts.1 parts.2) in
    (r.log, r.me_is)

pub returns-in-None-clause-refused : goal.returns-in-None-clause-refused
returns-in-None-clause-refused g c =
    let parts = c.into_parts-seat.ensures in
    let r = c.in-None.ensures.refused c.args.away.front (away_as parts.1 parts.2) in
    still_away c.args.away _ _ c.requires (place_id_on g.S.Parking.at _ c.in-None.ensures.table ∙ parts.0) parts.1 r
    (c.of_parts.ensures r.log r.me_is)
