use Rattle.std.proofs.Common.{rules}
use Rattle.monitor_trials.proofs.Numbered.{HasPlace-numbered}
use Rattle.monitor_trials.proofs.tests.doors.tickets.tickets_from.Goals as goal

pub close-requires-clause-places : goal.close-requires-clause-places
close-requires-clause-places g c κs =
    λ k below.
    c.all_enter.ensures.places k
    (c.all_ask.ensures.places k
    (HasPlace-numbered c.ticket-door.result.1.items c.ticket-door.ensures.numbered k (search rules)))
