use Rattle.std.proofs.Common.{rules, ◌⊎◌, map, subst}
use Rattle.std.specs.Prelude.{All}
use Rattle.std.proofs.lemmas.List.Elements.{All-tail}
use Rattle.door_frame.specs.Places.{HasPlace}
use Rattle.ticket_door.specs.Asked.{as_out}
use Rattle.monitor_trials.proofs.Many.{IsUnconstrainedOut, IsUnconstrainedAsking, all-and-one, gives-up-one, all-there}
use Rattle.monitor_trials.proofs.tests.doors.tickets.all_enter.Goals as goal

pub loop-asked-preserved : goal.loop-asked-preserved
loop-asked-preserved g c =
    let inv = c.loop-asked.invariant in
    let outs = c.loop-asked.outs.items in (
      All-tail (IsUnconstrainedAsking c.args.door.now) c.in-Some.asked c.pop_front.new.self.items
          (subst (All (IsUnconstrainedAsking c.args.door.now)) c.in-Some.ensures.items inv.0),
      rw c.push_reserved-in-Some.ensures.items
          (all-and-one (IsUnconstrainedOut c.args.door.now.door) outs c.give_up.result inv.1
          (subst (λ d. IsUnconstrainedOut d.door c.give_up.result) c.deref-in-Some.ensures c.give_up.ensures.of)),
      search rules,
      search rules,
      λ k at. rw c.push_reserved-in-Some.ensures.items
          (gives-up-one k c.pop_front.new.self.items c.in-Some.asked outs c.give_up.result (search rules)
          (subst (λ qs. HasPlace k (map as_out qs) ⊎ HasPlace k outs) c.in-Some.ensures.items (inv.4 k at))),
    )

pub returns-clause-places : goal.returns-clause-places
returns-clause-places g c =
    let there = c.loop-asked.invariant.4 in
    λ k at. all-there k (map as_out c.loop-asked.asks.items) _ (search rules) (there k at)
