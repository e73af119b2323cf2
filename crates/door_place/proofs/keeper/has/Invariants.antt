use Rattle.door_place.proofs.Lists.{NoneBefore}
use Rattle.door_place.proofs.keeper.has.Given as goal

abbrev pub invariant-loop-i : goal.invariant-loop-i
invariant-loop-i l = NoneBefore l.number l.i l.outs
