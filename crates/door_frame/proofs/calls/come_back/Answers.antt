use Rattle.std.proofs.Common.{◌∙◌, ◌<◌, ℕ, sym, ap, subst}
use Rattle.door_frame.specs.Places.{PlaceId, sleeper_at}
use Rattle.door_frame.proofs.Arrivals.{came_back}
use Rattle.door_frame.proofs.Seats.{away_as, place_id_as}
use Rattle.door_frame.proofs.calls.come_back.Goals as goal

pub claim-guarded-requires-clause-small : goal.claim-guarded-requires-clause-small
claim-guarded-requires-clause-small g c =
    let parts = c.into_parts-seat.ensures in
    subst (λ (k : ℕ). k < (g.T.RawMonitor.id c.args.door.now).places) (sym parts.1) c.requires.below

pub claim-guarded-requires-clause-sleeper : goal.claim-guarded-requires-clause-sleeper
claim-guarded-requires-clause-sleeper g c =
    let parts = c.into_parts-seat.ensures in
    ap (λ (b : PlaceId). b.sleeper) (parts.0 ∙ c.requires.of)
    ∙ ap (λ (k : ℕ). sleeper_at (g.T.RawMonitor.id c.args.door.now) k) (sym parts.1)

pub claim-guarded-requires-clause-away : goal.claim-guarded-requires-clause-away
claim-guarded-requires-clause-away g c =
    let parts = c.into_parts-seat.ensures in (c.args.away.front, away_as parts.1 parts.2)

pub return_with-requires : goal.return_with-requires
return_with-requires g c =
    let parts = c.into_parts-seat.ensures in
    record { entered_by = (c.args.away.front, c.claim-guarded.ensures.enters_with c.args.away.front (away_as parts.1 parts.2)) }

pub returns : goal.returns
returns g c =
    let parts = c.into_parts-seat.ensures in
    let came = c.claim-guarded.ensures.enters_with c.args.away.front (away_as parts.1 parts.2) in
    came_back c.args.away _ _ c.requires (place_id_as _ c.claim-guarded.ensures.table ∙ parts.0) parts.1 came
    (c.return_with.ensures _ came)
