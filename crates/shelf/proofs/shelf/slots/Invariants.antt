use Rattle.std.proofs.Common.{◌≡◌, ◌≤◌, None, replicate, vec_capacity}
use Rattle.shelf.proofs.shelf.slots.Given as goal

abbrev pub invariant-loop-made : goal.invariant-loop-made
invariant-loop-made g l = (l.slots.items ≡ replicate l.made None) × (l.spots ≤ vec_capacity l.slots)
