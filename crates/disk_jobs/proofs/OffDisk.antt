-- The first job that is off the disk, from a position on.
use Rattle.std.proofs.Common.{◌≡◌, ℕ, zero, suc, ◌<◌, ◌≤◌, List, [], ◌∷◌, length, get_or, drop, Some, None, refl, arith}
use Rattle.std.proofs.lemmas.Bool.{lt-ltb, le-ltb}
use Rattle.disk_jobs.specs.JobLists.{off_disk}

pub off_disk-here : (m j : ℕ) (cs : List ℕ) (i : ℕ) → i < length cs → m < get_or cs i 0
    → off_disk m j (drop i cs) ≡ Some j
off_disk-here m j [] i h o = absurd (omega arith)
off_disk-here m j (c ∷ cs) zero h o = rw (lt-ltb m c o) refl
off_disk-here m j (c ∷ cs) (suc i) h o = off_disk-here m j cs i (omega arith) o

pub off_disk-later : (m j : ℕ) (cs : List ℕ) (i : ℕ) → i < length cs → get_or cs i 0 ≤ m
    → off_disk m j (drop i cs) ≡ off_disk m (suc j) (drop (suc i) cs)
off_disk-later m j [] i h o = absurd (omega arith)
off_disk-later m j (c ∷ cs) zero h o = rw (le-ltb m c o) refl
off_disk-later m j (c ∷ cs) (suc i) h o = off_disk-later m j cs i (omega arith) o

pub off_disk-none : (m j : ℕ) (cs : List ℕ) (i : ℕ) → length cs ≤ i → off_disk m j (drop i cs) ≡ None
off_disk-none m j [] zero h = refl
off_disk-none m j [] (suc i) h = refl
off_disk-none m j (c ∷ cs) zero h = absurd (omega arith)
off_disk-none m j (c ∷ cs) (suc i) h = off_disk-none m j cs i (omega arith)
