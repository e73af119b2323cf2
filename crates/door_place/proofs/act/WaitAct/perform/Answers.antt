use Rattle.std.proofs.Common.{arith, refl, sym}
use Rattle.door_place.specs.States.{waits, no_condition}
use Rattle.door_place.proofs.Acts.{woken, begun, from_inside}
use Rattle.door_place.proofs.act.WaitAct.perform.Goals as goal

pub returns-then-condition-limits-clause-made : goal.returns-then-condition-limits-clause-made
returns-then-condition-limits-clause-made c =
    let most = c.of-limits.ensures.conditions in
    no_condition c.in-Inside.inside c.in-Inside.is (sym c.in-Inside.is)
    (omega (arith, c.if-condition-limits.true, most)) refl

pub returns-clause-made : goal.returns-clause-made
returns-clause-made c =
    let o = c.begin_wait-away.ensures in
    let most = c.of-limits.ensures.conditions in
    waits c.in-Inside.inside _ c.in-Inside.is refl (omega (arith, c.if-condition-limits.false, most)) o.place o.front
    (woken c.args.door.now o.of.sized o.of.stands c.code_of.ensures.few o.next c.code_of.ensures.is)

pub returns-clause-front : goal.returns-clause-front
returns-clause-front c =
    from_inside c.in-Inside.is (begun _ c.begin_wait-away.ensures.front)
