-- What holds of a disk head and its waiting requests. Condition 0 is upsweep, condition 1 is downsweep.
use Rattle.std.specs.Prelude.{ℕ, zero, suc, ◌-◌, ◌==◌, ◌≤◌, nat_le, if◌then◌else◌, List, [], All, count_by, ◌≡◌, ◌≢◌}
use Rattle.std.specs.Prelude.{Option, Some, None, IsSome}
use Rattle.hoare_law.specs.Priorities.{put_in}
use Rattle.sweep_schedulers.specs.declared.direction.Direction.{Direction}
use Rattle.sweep_schedulers.specs.declared.direction.Direction.TheVariants.{Up, Down}

-- the drive, if it is in; the cylinder under the head; the direction in which the head sweeps; the last cylinder; the
-- number of grants that are still due at the cylinder under the head
pub record Disk (T : Type 0) : Type 0 where
  pub drive : Option T
  pub headpos : ℕ
  pub direction : Direction
  pub cylmax : ℕ
  pub stay : ℕ

-- a disk with its drive in and the head at cylinder 0, sweeping up, with no grant due there
abbrev pub idle : {T : Type 0} → T → ℕ → Disk T
idle drive cylmax = record { drive = Some drive; headpos = 0; direction = Up; cylmax = cylmax; stay = 0 }

-- the condition of the sweep in this direction
abbrev pub sweep : Direction → ℕ
sweep Up = 0
sweep Down = 1

abbrev pub opposite : Direction → Direction
opposite Up = Down
opposite Down = Up

-- the same disk, with the head sweeping in the other direction
abbrev pub turned : {T : Type 0} → Disk T → Disk T
turned d = record d { direction = opposite d.direction }

-- the same disk, with this drive in
abbrev pub put : {T : Type 0} → Disk T → T → Disk T
put d drive = record d { drive = Some drive }

-- the same disk, with the drive out
abbrev pub given_out : {T : Type 0} → Disk T → Disk T
given_out d = record d { drive = None }

-- the same disk, with the head at dest
abbrev pub moved : {T : Type 0} → Disk T → ℕ → Disk T
moved d dest = record d { headpos = dest }

-- the same disk, with the drive out and the head at dest
abbrev pub sent : {T : Type 0} → Disk T → ℕ → Disk T
sent d dest = moved (given_out d) dest

-- the direction of the sweep that reaches dest: if the head is there, the other direction
abbrev pub toward : {T : Type 0} → ℕ → Disk T → Direction
toward dest d = if nat_le d.headpos dest then (if nat_le dest d.headpos then opposite d.direction else Up) else Down

-- the priority with which a request for dest waits for the sweep in this direction: the cylinder on the way up, its
-- distance from the last one on the way down
abbrev pub priority_at : ℕ → Direction → ℕ → ℕ
priority_at cylmax Up dest = dest
priority_at cylmax Down dest = cylmax - dest

-- the cylinder of a request that waits for the sweep in this direction with priority q
abbrev pub cylinder_of : ℕ → Direction → ℕ → ℕ
cylinder_of cylmax Up q = q
cylinder_of cylmax Down q = cylmax - q

-- the waiting priorities of the sweep in this direction
abbrev pub of_sweep : Direction → List ℕ → List ℕ → List ℕ
of_sweep Up ups downs = ups
of_sweep Down ups downs = downs

-- the number of requests that wait for the present sweep and the cylinder under the head
abbrev pub waiting_here : {T : Type 0} → Disk T → List ℕ → List ℕ → ℕ
waiting_here d ups downs =
    count_by (λ q. cylinder_of d.cylmax d.direction q == d.headpos) (of_sweep d.direction ups downs)

-- the same disk, with n grants due
abbrev pub due : {T : Type 0} → Disk T → ℕ → Disk T
due d n = record d { stay = n }

-- the same disk, with one grant due for each request that waits for the present sweep and the cylinder under the head
abbrev pub counted : {T : Type 0} → Disk T → List ℕ → List ℕ → Disk T
counted d ups downs = due d (waiting_here d ups downs)

-- the same disk, after a request that waited for the present sweep with priority p resumed: one grant less is due if it
-- waited for the cylinder under the head
abbrev pub one_granted : {T : Type 0} → Disk T → ℕ → Disk T
one_granted d p = due d (if p == priority_at d.cylmax d.direction d.headpos then d.stay - 1 else d.stay)

-- what always holds: the head is on the disk
abbrev pub HeadHolds : {T : Type 0} → Disk T → Type 0
HeadHolds d = d.headpos ≤ d.cylmax

-- each request that waits for the upsweep waits for a cylinder at the head or ahead of it on the way up, each that
-- waits for the downsweep on the way down
pub record OnSweeps {T : Type 0} (d : Disk T) (ups downs : List ℕ) : Type 0 where
  pub ups_on_disk : All (λ p. p ≤ d.cylmax) ups
  pub downs_on_disk : All (λ p. p ≤ d.cylmax) downs
  pub above : All (λ p. d.headpos ≤ p) ups
  pub below : All (λ p. d.cylmax - p ≤ d.headpos) downs

-- each waiting request finds the drive out, and its cylinder is ahead of the head or under it. While the drive is out,
-- as many grants are due as requests wait for the present sweep and the cylinder under the head
pub record HeadRests {T : Type 0} (d : Disk T) (ups downs : List ℕ) : Type 0 where
  pub inv : HeadHolds d
  pub up_busy : ups ≢ [] → d.drive ≡ None
  pub down_busy : downs ≢ [] → d.drive ≡ None
  pub sweeps : OnSweeps d ups downs
  pub stay : d.drive ≡ None → d.stay ≡ waiting_here d ups downs

-- while the drive is handed off: the drive is in, and the cylinder of each waiting request is ahead of the head or
-- under it
pub record HeadFree {T : Type 0} (d : Disk T) (ups downs : List ℕ) : Type 0 where
  pub inv : HeadHolds d
  pub is_in : IsSome d.drive
  pub sweeps : OnSweeps d ups downs

-- a request that waited for the upsweep finds the drive in and the head sweeping up to it, before the others. The
-- grants due at the cylinder under the head are those of the waiting requests, this one counted among them
pub record UpReady {T : Type 0} (p : ℕ) (d : Disk T) (ups downs : List ℕ) : Type 0 where
  pub free : HeadFree d ups downs
  pub on_disk : p ≤ d.cylmax
  pub first : All (λ q. p ≤ q) ups
  pub direction : d.direction ≡ Up
  pub above : d.headpos ≤ p
  pub stay : d.stay ≡ waiting_here d (put_in (λ n. n) p ups) downs

-- a request that waited for the downsweep finds the drive in and the head sweeping down to it, before the others; the
-- due grants are counted in the same way
pub record DownReady {T : Type 0} (p : ℕ) (d : Disk T) (ups downs : List ℕ) : Type 0 where
  pub free : HeadFree d ups downs
  pub on_disk : p ≤ d.cylmax
  pub first : All (λ q. p ≤ q) downs
  pub direction : d.direction ≡ Down
  pub below : d.cylmax - p ≤ d.headpos
  pub stay : d.stay ≡ waiting_here d ups (put_in (λ n. n) p downs)

-- what a request that waited for the sweep finds
abbrev pub HeadReady : {T : Type 0} → ℕ → ℕ → Disk T → List ℕ → List ℕ → Type 0
HeadReady zero p d ups downs = UpReady p d ups downs
HeadReady (suc c) p d ups downs = DownReady p d ups downs

-- if ready holds, what always holds does too
pub inv_of_ready : {T : Type 0} (c p : ℕ) (d : Disk T) (ups downs : List ℕ) → HeadReady c p d ups downs → HeadHolds d
inv_of_ready zero p d ups downs h = h.free.inv
inv_of_ready (suc c) p d ups downs h = h.free.inv
