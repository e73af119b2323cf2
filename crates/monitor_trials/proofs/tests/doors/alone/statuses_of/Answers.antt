use Rattle.std.specs.Prelude.{Some}
use Rattle.std.proofs.lemmas.List.Elements.{All-pop}
use Rattle.any_door.specs.Doors.{id_of}
use Rattle.monitor_trials.proofs.Many.{IsUnconstrainedOut}
use Rattle.monitor_trials.proofs.tests.doors.alone.statuses_of.Goals as goal

-- both places were given out
pub has_statuses-requires-clause-last : goal.has_statuses-requires-clause-last
has_statuses-requires-clause-last g c =
    let IsOurs = IsUnconstrainedOut (id_of c.in-Ok.door) in
    (All-pop IsOurs c.in-Ok.outs.items c.pop.new.self.items (Some c.in-Some.last) c.in-Some.ensures.items
    c.in-Ok.ensures.of).1

pub has_statuses-requires-clause-other : goal.has_statuses-requires-clause-other
has_statuses-requires-clause-other g c =
    let IsOurs = IsUnconstrainedOut (id_of c.in-Ok.door) in
    let rest =
    All-pop IsOurs c.in-Ok.outs.items c.pop.new.self.items c.pop.result c.pop.ensures.items c.in-Ok.ensures.of in
    (All-pop IsOurs c.pop.new.self.items c.pop-2.new.self.items (Some c.in-Some-pop.other)
    c.in-Some-pop.ensures.items rest.0).1
