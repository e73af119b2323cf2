use Rattle.std.proofs.Common.{rules, ◌⊎◌, map, subst}
use Rattle.std.proofs.lemmas.List.Elements.{All-take}
use Rattle.door_frame.specs.Places.{HasPlace}
use Rattle.ticket_door.specs.Asked.{as_out}
use Rattle.monitor_trials.proofs.Many.{IsUnconstrainedOut, IsUnconstrainedAsking, all-and-one, asks-one, all-there}
use Rattle.monitor_trials.proofs.tests.doors.tickets.all_ask.Goals as goal

pub loop-out-preserved : goal.loop-out-preserved
loop-out-preserved c =
    let inv = c.loop-out.invariant in
    let asks = c.loop-out.asks.items in (
      rw c.pop.ensures.rest (All-take (IsUnconstrainedOut c.args.door.now.door) _ c.loop-out.outs.items inv.0),
      rw c.push_back_reserved.ensures.items
          (all-and-one (IsUnconstrainedAsking c.args.door.now) asks c.ask.result inv.1
          (subst (λ d. IsUnconstrainedAsking d c.ask.result) c.deref.ensures c.ask.ensures.of)),
      search rules,
      search rules,
      λ k at. rw c.push_back_reserved.ensures.items
          (asks-one k c.pop.new.self.items c.in-Some.out asks c.ask.result c.ask.ensures.place
          (subst (λ os. HasPlace k os ⊎ HasPlace k (map as_out asks)) c.in-Some.ensures.items (inv.4 k at))),
    )

pub returns-clause-places : goal.returns-clause-places
returns-clause-places c =
    let there = c.loop-out.invariant.4 in
    λ k at. all-there k c.loop-out.outs.items _ (search rules) (there k at)
