use Rattle.std.proofs.Common.{◌≡◌, ◌<◌, ◌*◌, ℕ}
use Rattle.timed_schedulers.specs.Marks.{mark_of}
use Rattle.timed_schedulers.proofs.pool.marks.least_unmarked.Given as goal

-- all numbers of the words so far are marked
abbrev pub invariant-loop-j : goal.invariant-loop-j
invariant-loop-j l = (i : ℕ) → i < 64 * l.j → mark_of l.words i ≡ 1
