use Rattle.std.proofs.Common.{arith, ap, subst, ◌∙◌}
use Rattle.shelf.specs.Shelves.{ShelfId}
use Rattle.baton_door.specs.StepDoors.{StepId}
use Rattle.door_place.specs.Places.{NumberIs, PlaceAt, outside}
use Rattle.door_place.specs.States.{IsState}
use Rattle.door_place.specs.declared.state.State.{State}
use Rattle.door_place.proofs.place.Place.number.Goals as goal

pub returns-in-Outside : goal.returns-in-Outside
returns-in-Outside c =
    let of = subst (λ (s : State). IsState c.self.inside.shared.value.tag s) c.in-Outside.is c.self.invariant.0 in
    let below = of.below in
    let same = c.sizes-sizes.ensures.places ∙ ap (λ (d : StepId). d.door.places) (c.door.ensures ∙ ap (λ (d : ShelfId StepId). d.tag) c.deref.ensures) in
    let few = c.sizes-sizes.ensures.few.0 in
    let number = c.number.ensures in
    subst (λ (p : PlaceAt). NumberIs p.state c.number.result) c.self.view_is
    (outside c.in-Outside.out c.in-Outside.is number (omega (arith, below, same, few, number)))
