use Rattle.std.proofs.Common.{ap, subst, ◌∙◌}
use Rattle.shelf.specs.Shelves.{ShelfId}
use Rattle.baton_door.specs.StepDoors.{StepId}
use Rattle.door_place.specs.Deeds as deeds
use Rattle.door_place.specs.Places.{Acts, PlaceAt}
use Rattle.door_place.proofs.place.Place.signal_leave.Goals as goal

pub returns-clause-acts : goal.returns-clause-acts
returns-clause-acts c =
    let e = c.replace_with-code.ensures in
    let act = deeds.SignalLeave c.args.condition c.args.resumed.now c.replace_with-code.result.1 in
    subst (λ (p : PlaceAt). Acts p.door act p.state c.replace_with-code.new.dest c.replace_with-code.result.0)
    c.self.view_is
    (subst (λ (d : StepId). Acts d act c.self.inside.state c.replace_with-code.new.dest c.replace_with-code.result.0)
    (c.door.ensures ∙ ap (λ (d : ShelfId StepId). d.tag) c.deref.ensures)
    (record { made = e.0; of = e.1.0; place = e.1.1.0; front = e.1.1.1 }))
