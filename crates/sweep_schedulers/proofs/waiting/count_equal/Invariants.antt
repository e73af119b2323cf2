use Rattle.std.proofs.Common.{◌≡◌, ◌==◌, count_by, take}
use Rattle.sweep_schedulers.proofs.waiting.count_equal.Given as goal

-- the number of equal priorities so far
abbrev pub invariant-loop-i : goal.invariant-loop-i
invariant-loop-i g l =
    l.equal ≡ count_by (λ q. q == l.priority) (take l.i (g.W.Waits.waiting_priorities l.lists l.condition))
