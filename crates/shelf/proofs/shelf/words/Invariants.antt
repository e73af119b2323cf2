use Rattle.std.proofs.Common.{◌≡◌, ◌≤◌, replicate, vec_capacity}
use Rattle.shelf.proofs.shelf.words.Given as goal

abbrev pub invariant-loop-made : goal.invariant-loop-made
invariant-loop-made l = (l.words.items ≡ replicate l.made 1) × (l.spots ≤ vec_capacity l.words)
