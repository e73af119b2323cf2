use Rattle.std.proofs.Common.{sym, ap, ◌∙◌, arith}
use Rattle.door_frame.specs.Places.{PlaceOut}
use Rattle.door_place.specs.States.{Carried}
use Rattle.door_place.proofs.Lists.{has_at, lacks, none_before_next}
use Rattle.door_place.proofs.keeper.has.Goals as goal

pub returns-then-number-clause-has : goal.returns-then-number-clause-has
returns-then-number-clause-has c = λ _.
    has_at c.args.number c.loop-i.i c.args.outs.now c.index-outs-i.result c.loop-i-test.true
    (sym (ap (λ (o : PlaceOut Carried). o.place) c.index-outs-i.is) ∙ sym c.number.ensures ∙ c.if-number.true)

pub loop-i-preserved : goal.loop-i-preserved
loop-i-preserved c =
    none_before_next c.args.number c.loop-i.i c.args.outs.now c.index-outs-i.result c.loop-i-test.true c.loop-i.invariant
    (λ same. c.if-number.false
    (c.number.ensures ∙ ap (λ (o : PlaceOut Carried). o.place) c.index-outs-i.is ∙ same))

pub returns-clause-lacks : goal.returns-clause-lacks
returns-clause-lacks c = λ _.
    lacks c.args.number c.args.outs.now
    (λ j e below short. c.loop-i.invariant j e (omega (arith, short, c.loop-i-test.false)) short)
