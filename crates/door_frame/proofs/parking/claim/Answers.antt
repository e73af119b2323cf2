use Rattle.std.proofs.Common.{refl, ◌∙◌}
use Rattle.door_frame.proofs.Refusals.{refused_stays, returns_after, stays_on, stays_refl}
use Rattle.door_frame.proofs.parking.claim.Goals as goal

pub loop-init : goal.loop-init
loop-init g c = ((tt, tt), refl, stays_refl)

pub loop-preserved : goal.loop-preserved
loop-preserved g c = (
  (tt, tt),
  c.try_claim.ensures.table ∙ c.loop.invariant.1,
  stays_on c.loop.invariant.2 (refused_stays c.in_default.ensures.refused),
)

pub try_claim-requires-clause-away : goal.try_claim-requires-clause-away
try_claim-requires-clause-away g c =
    let away = c.requires.away in let now = c.loop.invariant.2 away.0 away.1 in (now.0, now.1)

pub returns-in-Some-try_claim-clause-enters_with : goal.returns-in-Some-try_claim-clause-enters_with
returns-in-Some-try_claim-clause-enters_with g c = returns_after c.loop.invariant.2 c.in-Some-try_claim.ensures.enters_with
