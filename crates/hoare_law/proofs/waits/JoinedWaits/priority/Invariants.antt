use Rattle.std.proofs.Common.{ℕ, ◌≤◌, ◌<◌, get_or}
use Rattle.hoare_law.proofs.waits.JoinedWaits.priority.Given as goal

-- the priorities so far are no higher than the one put in
abbrev pub invariant-loop-j : goal.invariant-loop-j
invariant-loop-j g l =
    (k : ℕ) → k < l.j → get_or (g.W.Waits.waiting_priorities l.self.lists.now l.self.condition) k 0 ≤ l.self.priority
