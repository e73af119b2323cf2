use Rattle.std.proofs.Common.{◌<◌, ℕ, sym, subst}
use Rattle.door_frame.specs.Places.{HasPlace}
use Rattle.baton_door.specs.StepDoors.{StepId}
use Rattle.baton_door.proofs.step_door.StepDoor.close.Goals as goal

pub closed_as-requires-clause-places : goal.closed_as-requires-clause-places
closed_as-requires-clause-places g c =
    subst (λ (d : StepId). (k : ℕ) → k < d.door.places → HasPlace k c.args.outs.items) (sym c.self.view_is)
    c.requires.places
