use Rattle.std.proofs.Common.{ℕ, ◌<◌}
use Rattle.door_frame.specs.Places.{HasPlace}
use Rattle.door_place.proofs.keeper.has_all.Given as goal

abbrev pub invariant-loop-number : goal.invariant-loop-number
invariant-loop-number l = (k : ℕ) → k < l.number → HasPlace k l.outs
