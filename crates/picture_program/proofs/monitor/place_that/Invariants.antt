use Rattle.std.proofs.Common.{◌≡◌, ◌<◌, ℕ, slice_index_or}
use Rattle.picture_program.specs.declared.monitor.Lane.TheVariants as states
use Rattle.picture_program.proofs.monitor.place_that.Given as goal

abbrev pub invariant-places : goal.invariant-places
invariant-places l = (k : ℕ) → k < l.place → slice_index_or l.lanes k states.Outside ≡ l.lane → ⊥
