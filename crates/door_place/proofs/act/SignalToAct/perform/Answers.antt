use Rattle.std.proofs.Common.{arith, refl, ap, sym, ◌∙◌}
use Rattle.door_place.specs.declared.state.State.TheVariants.{Inside}
use Rattle.door_place.specs.States.{signals_to, no_waiter, no_condition, wrong_kind}
use Rattle.door_place.proofs.Acts.{woken, begun, from_inside}
use Rattle.door_place.proofs.act.SignalToAct.perform.Goals as goal

pub returns-then-condition-limits-clause-made : goal.returns-then-condition-limits-clause-made
returns-then-condition-limits-clause-made c =
    let most = c.of-limits.ensures.conditions in
    no_condition c.in-Inside.inside c.in-Inside.is (sym c.in-Inside.is)
    (omega (arith, c.if-condition-limits.true, most)) refl

pub returns-then-condition-limits-2-clause-made : goal.returns-then-condition-limits-2-clause-made
returns-then-condition-limits-2-clause-made c =
    let most = c.of-limits.ensures.conditions in
    let hoare = c.of-limits.ensures.hoare in
    wrong_kind c.in-Inside.inside c.in-Inside.is (sym c.in-Inside.is)
    (omega (arith, c.if-condition-limits.false, most), omega (arith, c.if-condition-limits-2.true, hoare)) refl

pub returns-in-Ok-clause-made : goal.returns-in-Ok-clause-made
returns-in-Ok-clause-made c =
    let most = c.of-limits.ensures.conditions in
    let hoare = c.of-limits.ensures.hoare in
    let o = c.in-Ok.ensures in
    signals_to c.in-Inside.inside _ c.in-Inside.is refl (omega (arith, c.if-condition-limits-2.false, hoare)) o.some
    o.place o.front
    (woken c.args.door.now o.of.sized o.of.stands c.code_of.ensures.few o.next c.code_of.ensures.is)

pub returns-in-Ok-clause-front : goal.returns-in-Ok-clause-front
returns-in-Ok-clause-front c =
    from_inside c.in-Inside.is (begun _ c.in-Ok.ensures.front)

pub returns-in-Err-clause-made : goal.returns-in-Err-clause-made
returns-in-Err-clause-made c =
    let most = c.of-limits.ensures.conditions in
    let hoare = c.of-limits.ensures.hoare in
    let o = c.in-Err.ensures in
    no_waiter c.in-Inside.inside c.in-Inside.is (ap (λ i. Inside i) o.same ∙ sym c.in-Inside.is)
    (omega (arith, c.if-condition-limits-2.false, hoare)) o.no_waiter refl
