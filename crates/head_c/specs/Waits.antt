-- What holds of C's head and the requests that wait for it.
use Rattle.std.specs.Prelude.{ℕ, List}
use Rattle.sweep_schedulers.specs.Heads.{Disk, HeadRests, HeadFree, counted}

-- q has the waiting priorities of each condition. While no place is inside the caller's monitor, each waiting request
-- finds the drive out, and its cylinder is ahead of the head in its sweep, or under it. This is the `rest` of a `Head`
-- whose due grants are counted
abbrev pub Rests : Disk (Unit {0}) → (ℕ → List ℕ) → Type 0
Rests d q = HeadRests (counted d (q 0) (q 1)) (q 0) (q 1)

-- the drive is in, to be handed off, and each cylinder is ahead of the head, or under it
abbrev pub IsFree : Disk (Unit {0}) → (ℕ → List ℕ) → Type 0
IsFree d q = HeadFree d (q 0) (q 1)
