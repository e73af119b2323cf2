use Rattle.std.proofs.Common.{rules, length, ap, ◌∙◌}
use Rattle.any_door.specs.Doors.{id_of}
use Rattle.door_frame.proofs.PlacesInOrder.{length-places}
use Rattle.monitor_trials.proofs.Numbered.{IsNumbered-places}
use Rattle.monitor_trials.proofs.tests.row.made.Goals as goal

pub returns-in-Ok-clause-count : goal.returns-in-Ok-clause-count
returns-in-Ok-clause-count g c =
    let count = ap length c.in-Ok.ensures.places ∙ length-places (id_of c.in-Ok.made.0) 0 _ _ in
    search rules

pub returns-in-Ok-clause-numbered : goal.returns-in-Ok-clause-numbered
returns-in-Ok-clause-numbered g c = rw c.in-Ok.ensures.places (IsNumbered-places (id_of c.in-Ok.made.0) _ _)
