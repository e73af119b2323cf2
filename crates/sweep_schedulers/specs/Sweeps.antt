-- How long a request of a disk head waits: what may happen meanwhile, and how many other grants come before its own.
use Rattle.std.specs.Prelude.{ℕ, suc, ◌+◌, ◌-◌, ◌*◌, ◌<◌, ◌≤◌, ◌==◌, if◌then◌else◌, ◌≡◌, ◌≢◌}
use Rattle.std.specs.Prelude.{List, [], length, slice_index, count_by}
use Rattle.hoare_law.specs.Priorities.{joined, taken}
use Rattle.sweep_schedulers.specs.declared.direction.Direction.{Direction}
use Rattle.sweep_schedulers.specs.Heads.{Disk, HeadRests, sweep, turned, put, sent, counted, priority_at, cylinder_of}

-- at most m requests wait
abbrev pub AtMost : ℕ → (ℕ → List ℕ) → Type 0
AtMost m q = length (q 0) + length (q 1) ≤ m

-- the priority of the first request of the sweep in this direction
abbrev pub first : Direction → (ℕ → List ℕ) → ℕ
first dir q = slice_index (q (sweep dir)) 0

-- the same disk, after its drive was put in and handed off to the first request of the present sweep: the head is at
-- the cylinder of that request
abbrev pub granted_first : {T : Type 0} → Disk T → T → (ℕ → List ℕ) → Disk T
granted_first d drive q =
    let found = counted (put d drive) (q 0) (q 1) in
    let left = taken q (sweep d.direction) in
    counted (sent found (cylinder_of d.cylmax d.direction (first d.direction q))) (left 0) (left 1)

-- the head keeps its direction if a request waits for the present sweep, and else turns
pub data KeepsOrTurns {T : Type 0} (d : Disk T) (q : ℕ → List ℕ) : Disk T → Type 0 where
  keeps : q (sweep d.direction) ≢ [] → KeepsOrTurns d q d
  turns : q (sweep d.direction) ≡ [] → KeepsOrTurns d q (turned d)

-- A request waits for the sweep in the direction own with priority p, after k others of that sweep and priority, which
-- came earlier. The first request of the sweep in the direction dir, of priority s, is another: if that is granted the
-- drive, the request waits after j others
pub data IsPassed (own : Direction) (p : ℕ) (dir : Direction) (s : ℕ) : ℕ → ℕ → Type 0 where
  by_equal : (j : ℕ) → dir ≡ own → s ≡ p → IsPassed own p dir s (suc j) j
  by_other : (k : ℕ) → (dir ≡ own → s ≢ p) → IsPassed own p dir s k k

-- From this disk and these lists on, n grants are made to other requests, while that request waits, after k others at
-- first, and at most m requests wait at a time. The lists rest after each step
pub data Awaits {T : Type 0} (m : ℕ) (own : Direction) (p : ℕ) : Disk T → (ℕ → List ℕ) → ℕ → ℕ → Type 0 where
  none : (d : Disk T) (q : ℕ → List ℕ) (k : ℕ) → Awaits m own p d q k 0
  joins : (d : Disk T) (q : ℕ → List ℕ) (k n c s : ℕ) → HeadRests d (joined q c s 0) (joined q c s 1)
      → AtMost m (joined q c s) → Awaits m own p d (joined q c s) k n → Awaits m own p d q k n
  grants : (d e : Disk T) (q : ℕ → List ℕ) (k j n : ℕ) (drive : T) → KeepsOrTurns d q e
      → IsPassed own p e.direction (first e.direction q) k j
      → HeadRests (granted_first e drive q) (taken q (sweep e.direction) 0) (taken q (sweep e.direction) 1)
      → Awaits m own p (granted_first e drive q) (taken q (sweep e.direction)) j n → Awaits m own p d q k (suc n)

-- the lists rest, at most m requests wait, and more than k of them wait with priority p for the sweep in the direction
-- own: so one of these waits after k others
pub record IsWaiting {T : Type 0} (m : ℕ) (own : Direction) (p k : ℕ) (d : Disk T) (q : ℕ → List ℕ) : Type 0 where
  pub rests : HeadRests d (q 0) (q 1)
  pub few : AtMost m q
  pub among : k < count_by (λ s. s == p) (q (sweep own))

-- how far the head is on the present sweep: the priority of a request for the cylinder under it and this sweep
abbrev pub reached : {T : Type 0} → Disk T → ℕ
reached d = priority_at d.cylmax d.direction d.headpos

-- the number of cylinders at which the head may stop before it reaches that of the request. If the request waits for
-- the present sweep: those in between; else those to the end of this sweep, and those from there on the way back
abbrev pub stops : {T : Type 0} → Disk T → Direction → ℕ → ℕ
stops d own p = if sweep d.direction == sweep own then p - reached d - 1 else d.cylmax - reached d + p

-- the most grants that are made to others first: those due at the cylinder under the head; at each stop as many as
-- wait, without the request and the k others before it; and those k
abbrev pub grants_before : {T : Type 0} → ℕ → Disk T → Direction → ℕ → ℕ → ℕ
grants_before m d own p k = d.stay + stops d own p * (m - suc k) + k
