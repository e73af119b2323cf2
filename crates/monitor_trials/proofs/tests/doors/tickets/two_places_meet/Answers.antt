use Rattle.std.specs.Prelude.{All}
use Rattle.std.proofs.lemmas.List.Elements.{All-take}
use Rattle.monitor_trials.proofs.Many.{IsUnconstrainedOut, all-and-one}
use Rattle.monitor_trials.proofs.tests.doors.tickets.two_places_meet.Goals as goal

-- both were given out, and both return from the meeting
pub close-requires-clause-of : goal.close-requires-clause-of
close-requires-clause-of g c κs =
    let IsOurs = IsUnconstrainedOut c.in-Ok.door.door in
    let one : All IsOurs c.pop.new.self.items =
    rw c.pop.ensures.rest (All-take IsOurs _ c.in-Ok.outs.items c.in-Ok.ensures.of) in
    let none : All IsOurs c.pop-2.new.self.items =
    rw c.pop-2.ensures.rest (All-take IsOurs _ c.pop.new.self.items one) in
    let first : All IsOurs c.push_reserved.new.self.items =
    rw c.push_reserved.ensures.items
    (all-and-one IsOurs c.pop-2.new.self.items c.two_meet-a.result.0 none c.two_meet-a.ensures.a) in
    rw c.push_reserved-2.ensures.items
    (all-and-one IsOurs c.push_reserved.new.self.items c.two_meet-a.result.1 first c.two_meet-a.ensures.b)
