use Rattle.std.proofs.Common.{rules, length, ap, ◌∙◌}
use Rattle.door_frame.proofs.PlacesInOrder.{length-places}
use Rattle.monitor_trials.proofs.Numbered.{IsNumbered-places}
use Rattle.monitor_trials.proofs.tests.row.ticket.Goals as goal

pub returns-clause-count : goal.returns-clause-count
returns-clause-count g c =
    let count = ap length c.in-Ok.ensures.places ∙ length-places c.in-Ok.made.0.door 0 _ _ in
    search rules

pub returns-clause-numbered : goal.returns-clause-numbered
returns-clause-numbered g c = rw c.in-Ok.ensures.places (IsNumbered-places c.in-Ok.made.0.door _ _)
