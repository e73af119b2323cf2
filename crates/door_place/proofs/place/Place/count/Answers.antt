use Rattle.std.proofs.Common.{ap, subst, ◌∙◌}
use Rattle.shelf.specs.Shelves.{ShelfId}
use Rattle.baton_door.specs.StepDoors.{StepId}
use Rattle.door_place.specs.Places.{PlaceAt}
use Rattle.door_place.specs.States.{Counts}
use Rattle.door_place.proofs.place.Place.count.Goals as goal

pub returns : goal.returns
returns c =
    subst (λ (p : PlaceAt). Counts p.door p.state c.args.condition c.count.result) c.self.view_is
    (subst (λ (d : StepId). Counts d c.self.inside.state c.args.condition c.count.result)
    (c.door.ensures ∙ ap (λ (d : ShelfId StepId). d.tag) c.deref.ensures) c.count.ensures)
