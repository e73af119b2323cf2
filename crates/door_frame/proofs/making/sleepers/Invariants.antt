use Rattle.std.proofs.Common.{◌≡◌, vec_len}
use Rattle.door_frame.proofs.making.sleepers.Given as goal

abbrev pub invariant-loop-made : goal.invariant-loop-made
invariant-loop-made l = (vec_len l.sleepers ≡ l.made) × (vec_len l.wakers ≡ l.made)
    × (l.wakers.items ≡ l.sleepers.items)
