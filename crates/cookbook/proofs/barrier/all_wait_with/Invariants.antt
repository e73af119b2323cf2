use Rattle.std.proofs.Common.{◌≡◌, ◌<◌, ℕ}
use Rattle.std.specs.Prelude.{slice_index_or}
use Rattle.cookbook.proofs.barrier.all_wait_with.Given as goal

-- the first i waiters on condition 0 have this priority
abbrev pub invariant-loop-i : goal.invariant-loop-i
invariant-loop-i g l = (k d : ℕ) → k < l.i → slice_index_or (g.W.Waits.waiting_priorities l.lists 0) k d ≡ l.priority
