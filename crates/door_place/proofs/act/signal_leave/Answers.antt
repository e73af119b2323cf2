use Rattle.std.proofs.Common.{arith, refl, sym, ◌∙◌}
use Rattle.door_place.specs.States.{exits, no_condition, wrong_kind}
use Rattle.door_place.proofs.Acts.{bool_code, woken, exit_begins, from_inside}
use Rattle.door_place.proofs.act.signal_leave.Goals as goal

pub returns-then-condition-limits-clause-made : goal.returns-then-condition-limits-clause-made
returns-then-condition-limits-clause-made c =
    let most = c.of-limits.ensures.conditions in
    no_condition c.in-Inside.inside c.in-Inside.is (sym c.in-Inside.is)
    (omega (arith, c.if-condition-limits.true, most)) refl refl

pub returns-then-condition-limits-2-clause-made : goal.returns-then-condition-limits-2-clause-made
returns-then-condition-limits-2-clause-made c =
    let most = c.of-limits.ensures.conditions in
    let hoare = c.of-limits.ensures.hoare in
    wrong_kind c.in-Inside.inside c.in-Inside.is (sym c.in-Inside.is)
    (omega (arith, c.if-condition-limits.false, most), omega (arith, c.if-condition-limits-2.true, hoare)) refl refl

pub returns-clause-made : goal.returns-clause-made
returns-clause-made c =
    let most = c.of-limits.ensures.conditions in
    let hoare = c.of-limits.ensures.hoare in
    let o = c.signal_leave_to-out.ensures in
    exits c.in-Inside.inside _ _ c.in-Inside.is refl (omega (arith, c.if-condition-limits-2.false, hoare)) o.place
    o.front o.answer (c.from.ensures ∙ bool_code c.signal_leave_to-out.result.1)
    (woken c.args.asked.0.now o.of.sized o.of.stands c.code_of.ensures.few o.next c.code_of.ensures.is)

pub returns-clause-front : goal.returns-clause-front
returns-clause-front c =
    from_inside c.in-Inside.is (exit_begins c.signal_leave_to-out.ensures.front)
