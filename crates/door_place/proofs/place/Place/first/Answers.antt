use Rattle.std.proofs.Common.{ap, subst, ◌∙◌}
use Rattle.shelf.specs.Shelves.{ShelfId}
use Rattle.baton_door.specs.StepDoors.{StepId}
use Rattle.door_place.specs.Places.{PlaceAt}
use Rattle.door_place.specs.States.{AsksFirst}
use Rattle.door_place.proofs.place.Place.first.Goals as goal

pub returns : goal.returns
returns c =
    subst (λ (p : PlaceAt). AsksFirst p.door p.state c.args.condition c.args.priority.now c.first.new.priority
    c.first.result) c.self.view_is
    (subst (λ (d : StepId). AsksFirst d c.self.inside.state c.args.condition c.args.priority.now c.first.new.priority
    c.first.result) (c.door.ensures ∙ ap (λ (d : ShelfId StepId). d.tag) c.deref.ensures) c.first.ensures)
