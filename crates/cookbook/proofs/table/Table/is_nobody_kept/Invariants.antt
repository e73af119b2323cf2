use Rattle.std.proofs.Common.{◌≢◌, ◌<◌, ℕ, []}
use Rattle.cookbook.specs.Tables.{CanEat}
use Rattle.cookbook.proofs.table.Table.is_nobody_kept.Given as goal

-- no waiter at the seats so far can eat
abbrev pub invariant-loop-seat : goal.invariant-loop-seat
invariant-loop-seat g l = (c : ℕ) → c < l.seat → g.W.Waits.waiting_priorities l.lists c ≢ [] → CanEat l.self c → ⊥
