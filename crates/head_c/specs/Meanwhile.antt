-- How long a request of C's head waits: what the steps may do meanwhile.
use Rattle.std.specs.Prelude.{ℕ, suc, ◌≤◌, ◌≡◌, ◌≢◌, List, [], None}
use Rattle.std.specs.List.Sorted.{IsNonDecreasing}
use Rattle.hoare_law.specs.Priorities.{joined, taken}
use Rattle.sweep_schedulers.specs.declared.direction.Direction.{Direction}
use Rattle.sweep_schedulers.specs.Heads.{Disk, sweep, toward, priority_at, put, sent}
use Rattle.sweep_schedulers.specs.Sweeps.{AtMost, KeepsOrTurns, IsPassed, first}

-- A request waits for the sweep in the direction own with priority p, after k others of that sweep and priority, which
-- came earlier. From this head and these lists on, n grants are made to other requests, and at most m requests wait at
-- a time. Either a request for a cylinder joins, as `ask` determines. Or the drive is given back, the head keeps its
-- direction or turns, as by `give_back`, and the first request of the sweep gets the drive, as by `grant`
pub data Meanwhile (m : ℕ) (own : Direction) (p : ℕ) : Disk (Unit {0}) → (ℕ → List ℕ) → ℕ → ℕ → Type 0 where
  none : (d : Disk (Unit {0})) (q : ℕ → List ℕ) (k : ℕ) → Meanwhile m own p d q k 0
  asks : (d : Disk (Unit {0})) (q : ℕ → List ℕ) (k n cylinder : ℕ) → d.drive ≡ None → cylinder ≤ d.cylmax
      → AtMost m (joined q (sweep (toward cylinder d)) (priority_at d.cylmax (toward cylinder d) cylinder))
      → Meanwhile m own p d
      (joined q (sweep (toward cylinder d)) (priority_at d.cylmax (toward cylinder d) cylinder)) k n
      → Meanwhile m own p d q k n
  grants : (d e : Disk (Unit {0})) (q : ℕ → List ℕ) (k j n cylinder : ℕ) → KeepsOrTurns (put d tt) q e
      → q (sweep e.direction) ≢ [] → ((i : ℕ) → IsNonDecreasing (q i))
      → first e.direction q ≡ priority_at e.cylmax e.direction cylinder → cylinder ≤ e.cylmax
      → IsPassed own p e.direction (first e.direction q) k j
      → Meanwhile m own p (sent e cylinder) (taken q (sweep e.direction)) j n → Meanwhile m own p d q k (suc n)
