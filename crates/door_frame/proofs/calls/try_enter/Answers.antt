use Rattle.std.proofs.Common.{◌≡◌, ℕ, true, sym, ◌∙◌, subst}
use Rattle.hoare_law.specs.Turns.{outside}
use Rattle.door_frame.proofs.Arrivals.{entered}
use Rattle.door_frame.proofs.Refusals.{still_out}
use Rattle.door_frame.proofs.Seats.{away_as, place_id_on}
use Rattle.door_frame.proofs.calls.try_enter.Goals as goal

pub try_admit-requires-clause-outside : goal.try_admit-requires-clause-outside
try_admit-requires-clause-outside g c =
    let parts = c.into_parts-seat.ensures in
    let outside = subst (λ (k : ℕ). outside k c.args.out.front.events ≡ true) (sym parts.1) c.requires.is_outside in
    (c.args.out.front, away_as parts.1 parts.2, outside)

-- if the place entered

pub enter_with-requires : goal.enter_with-requires
enter_with-requires g c =
    let parts = c.into_parts-seat.ensures in
    record { entered_by = (c.args.out.front, c.in-Some.ensures.enters_with c.args.out.front (away_as parts.1 parts.2)) }

pub returns-in-Some : goal.returns-in-Some
returns-in-Some g c =
    let parts = c.into_parts-seat.ensures in
    let came = c.in-Some.ensures.enters_with c.args.out.front (away_as parts.1 parts.2) in
    let e =
    entered c.args.out _ _ c.requires (place_id_on g.S.Parking.at _ c.in-Some.ensures.table ∙ parts.0) parts.1 came
    (c.enter_with.ensures _ came) in
    record {
      of = e.of;
      place = e.place;
      rest = e.rests;
      front = e.front;
      still_of = tt;
      still_place = tt;
      learned = tt;
      refused = tt;
    }

-- if the place didn't enter

pub of_parts-requires : goal.of_parts-requires
of_parts-requires g c =
    let parts = c.into_parts-seat.ensures in
    let r = c.in-None.ensures.refused c.args.out.front (away_as parts.1 parts.2) in
    (r.log, r.me_is)

pub returns-in-None : goal.returns-in-None
returns-in-None g c =
    let parts = c.into_parts-seat.ensures in
    let r = c.in-None.ensures.refused c.args.out.front (away_as parts.1 parts.2) in
    let o =
    still_out (λ (k : ℕ). g.T.RawMonitor.refuses c.args.door.now k c.args.out.front) c.args.out _ _ c.requires
    (place_id_on g.S.Parking.at _ c.in-None.ensures.table ∙ parts.0) parts.1 r
    (c.of_parts.ensures r.log r.me_is) in
    record {
      of = tt;
      place = tt;
      rest = tt;
      front = tt;
      still_of = o.of;
      still_place = o.place;
      learned = o.front;
      refused = o.cause;
    }
