use Rattle.door_place.proofs.Lists.{none_yet, one_collected}
use Rattle.door_place.proofs.keeper.Keeper.collect.Goals as goal

pub loop-number-init : goal.loop-number-init
loop-number-init c = none_yet c.args.self.now

pub loop-number-preserved : goal.loop-number-preserved
loop-number-preserved c =
    one_collected c.loop-number.number c.args.self.now c.loop-number.self c.collect_one.new.self c.loop-number.invariant
    c.collect_one.ensures
