use Rattle.std.proofs.Common.{arith, refl, sym}
use Rattle.door_place.specs.States.{notified_all, no_condition, wrong_kind}
use Rattle.door_place.proofs.Acts.{broadcast_begins, from_inside}
use Rattle.door_place.proofs.act.BroadcastAct.perform.Goals as goal

pub returns-then-condition-limits-clause-made : goal.returns-then-condition-limits-clause-made
returns-then-condition-limits-clause-made c =
    let most = c.of-limits.ensures.conditions in
    no_condition c.in-Inside.inside c.in-Inside.is (sym c.in-Inside.is)
    (omega (arith, c.if-condition-limits.true, most)) refl

pub returns-then-condition-limits-2-clause-made : goal.returns-then-condition-limits-2-clause-made
returns-then-condition-limits-2-clause-made c =
    let most = c.of-limits.ensures.conditions in
    let hoare = c.of-limits.ensures.hoare in
    wrong_kind c.in-Inside.inside c.in-Inside.is (sym c.in-Inside.is)
    (omega (arith, c.if-condition-limits-2.true, hoare)) refl

pub returns-clause-made : goal.returns-clause-made
returns-clause-made c =
    let most = c.of-limits.ensures.conditions in
    let hoare = c.of-limits.ensures.hoare in
    let e = c.broadcast-notified.ensures in
    notified_all c.in-Inside.inside _ c.in-Inside.is refl (
      omega (arith, c.if-condition-limits.false, most),
      omega
          (arith, c.if-condition-limits-2.false, hoare),
    ) e.place e.data e.front e.answer

pub returns-clause-front : goal.returns-clause-front
returns-clause-front c =
    from_inside c.in-Inside.is (broadcast_begins c.broadcast-notified.ensures.front)
