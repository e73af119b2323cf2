use Rattle.std.proofs.Common.{◌≢◌, ◌<◌, ℕ, []}
use Rattle.hoare_law.specs.Waiting.{waiting}
use Rattle.cookbook.specs.Tables.{CanEat}
use Rattle.cookbook.proofs.table.Table.next_seat.Given as goal

-- no waiter at the seats so far can eat
abbrev pub invariant-loop-seat : goal.invariant-loop-seat
invariant-loop-seat g l = record {
  lists : (c : ℕ) → c < l.seat → g.M.Monitor.lists_in l.inside c ≢ [] → CanEat (g.M.Monitor.data_in l.inside) c → ⊥;
  front : (c : ℕ) → c < l.seat → waiting c (g.M.Monitor.front_in l.inside).events ≢ []
      → CanEat (g.M.Monitor.data_in l.inside) c → ⊥;
}
