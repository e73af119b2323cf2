use Rattle.door_place.specs.Returns.{Collects}
use Rattle.door_place.proofs.keeper.Keeper.collect.Given as goal

abbrev pub invariant-loop-number : goal.invariant-loop-number
invariant-loop-number l = Collects l.number l.initial.self l.self
