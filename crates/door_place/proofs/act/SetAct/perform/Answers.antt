use Rattle.std.proofs.Common.{ap, refl, ◌∙◌}
use Rattle.hoare_law.specs.declared.event.History.{History}
use Rattle.door_frame.specs.Places.{PlaceIn, place_id, place_in, with_state}
use Rattle.door_frame.proofs.Seats.{front_is}
use Rattle.door_place.specs.declared.state.State.TheVariants.{Inside}
use Rattle.door_place.specs.States.{Carried, set}
use Rattle.door_place.proofs.act.SetAct.perform.Goals as goal

pub returns-clause-made : goal.returns-clause-made
returns-clause-made c =
    let s : Carried = record { value = c.args.self.0 } in
    let z = c.inside.inside.seat.table_id in
    set c.in-Inside.inside c.in-Inside.is
    (ap (λ (f : History Carried). Inside (place_in (place_id z z) c.inside.inside.place f s))
    (front_is _ _ _ _ _ c.inside.invariant.0)
    ∙ ap (λ (i : PlaceIn Carried). Inside (with_state i s)) c.inside.view_is) refl
