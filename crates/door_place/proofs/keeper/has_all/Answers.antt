use Rattle.std.proofs.Common.{refl}
use Rattle.door_place.proofs.Lists.{one_more}
use Rattle.door_place.proofs.keeper.has_all.Goals as goal

pub loop-number-preserved : goal.loop-number-preserved
loop-number-preserved c =
    one_more c.args.outs.now c.loop-number.number c.loop-number.invariant (c.if-not-has.ensures.has refl)

pub returns-then-not-has-clause-lacks : goal.returns-then-not-has-clause-lacks
returns-then-not-has-clause-lacks c = λ _. record {
  place = c.loop-number.number;
  below = c.loop-number-test.true;
  lacks = c.if-not-has.ensures.lacks refl;
}
