-- How long a head stays: what may happen while it is at a cylinder, the drive is out, and it keeps its direction.
use Rattle.std.specs.Prelude.{ℕ, suc, List, slice_index, ◌≡◌, ◌≢◌, []}
use Rattle.hoare_law.specs.Priorities.{joined, taken}
use Rattle.sweep_schedulers.specs.Heads.{Disk, HeadRests, sweep, put, sent, counted, cylinder_of}

-- the same disk, after its drive was put in and handed off to the first request of the present sweep, which waits for
-- the cylinder under the head
abbrev pub handed : {T : Type 0} → Disk T → T → (ℕ → List ℕ) → Disk T
handed d drive q =
    let left = taken q (sweep d.direction) in
    counted (sent (counted (put d drive) (q 0) (q 1)) d.headpos) (left 0) (left 1)

-- from the disk d with the lists q on, n grants were made at the cylinder under the head; e and r are the disk and the
-- lists after them. Each request that began to wait, and each that was granted the drive, kept rest
pub data Stays {T : Type 0} (d : Disk T) (q : ℕ → List ℕ) : Disk T → (ℕ → List ℕ) → ℕ → Type 0 where
  none : Stays d q d q 0
  joins : (e : Disk T) (r : ℕ → List ℕ) (n c p : ℕ) → Stays d q e r n
      → HeadRests e (joined r c p 0) (joined r c p 1) → Stays d q e (joined r c p) n
  grants : (e : Disk T) (r : ℕ → List ℕ) (n : ℕ) (drive : T) → Stays d q e r n → r (sweep e.direction) ≢ []
      → cylinder_of e.cylmax e.direction (slice_index (r (sweep e.direction)) 0) ≡ e.headpos
      → HeadRests (handed e drive r) (taken r (sweep e.direction) 0) (taken r (sweep e.direction) 1)
      → Stays d q (handed e drive r) (taken r (sweep e.direction)) (suc n)
