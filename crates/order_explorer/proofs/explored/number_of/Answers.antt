use Rattle.std.proofs.Common.{ap, ◌∙◌}
use Rattle.door_frame.specs.Places.{place_out}
use Rattle.door_frame.proofs.Seats.{away_as}
use Rattle.order_explorer.proofs.explored.number_of.Goals as goal

pub of_parts-requires : goal.of_parts-requires
of_parts-requires g c =
    let parts = c.into_parts-seat.ensures in
    (c.args.out.front, away_as parts.1 parts.2)

pub returns-clause-same : goal.returns-clause-same
returns-clause-same g c =
    let parts = c.into_parts-seat.ensures in
    let f = c.args.out.front in
    c.of_parts.ensures f (away_as parts.1 parts.2) ∙ (ap (λ z. place_out z c.into_parts-seat.result.1 f) parts.0
    ∙ ap (λ k. place_out c.args.out.place_id k f) parts.1)
