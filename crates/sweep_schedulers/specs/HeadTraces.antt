-- What the procedures of a disk head add to the history.
use Rattle.std.specs.Prelude.{ℕ, ◌+◌, ◌<◌, ◌≤◌, [], ◌≡◌, ◌≢◌, Some, None, IsSome, Result, Ok, Err}
use Rattle.hoare_law.specs.declared.event.History.{History}
use Rattle.hoare_law.specs.declared.event.Event.TheVariants.{Admit, Wait, Leave, Resume}
use Rattle.hoare_law.specs.Events.{with_event}
use Rattle.hoare_law.specs.Waiting.{waiting}
use Rattle.hoare_law.specs.Priorities.{priorities}
use Rattle.hoare_law.specs.Growth.{AddsLast, AddsTwo, Finishes}
use Rattle.sweep_schedulers.specs.declared.head.OffDisk.{OffDisk}
use Rattle.sweep_schedulers.specs.declared.not_out.NotOut.{NotOut}
use Rattle.sweep_schedulers.specs.Heads.{Disk, sweep, opposite, turned, put, sent, counted, toward, priority_at}

-- the same disk, with the grants counted as due for the requests that wait after g for the present sweep and the
-- cylinder under the head
abbrev pub counted_after : {T : Type 0} → History (Disk T) → Disk T → Disk T
counted_after g d = counted d (priorities g.events 0) (priorities g.events 1)

-- k requested dest, found a, and continued with what it then found: a itself if the drive was in; else it waited once,
-- for the sweep that reaches dest
pub data Reaches {T : Type 0} (k dest : ℕ) (a : Disk T) (e : History (Disk T)) : History
    (Disk T) → Disk T → Type 0 where
  at_once : IsSome a.drive → Reaches k dest a e e a
  waited : (g : History (Disk T)) (found : Disk T) → a.drive ≡ None
      → (let c = sweep (toward dest a) in
      AddsTwo e (Wait k c (priority_at a.cylmax (toward dest a) dest) a) (Resume k c found) g)
      → Reaches k dest a e g found

-- k's last act, with d: a signal on the present sweep if a request waits there; else the head turns, and the signal is
-- on the other sweep. Before it, the grants due at the cylinder under the head are counted
pub data HandsOn {T : Type 0} (k : ℕ) (d : Disk T) (g h : History (Disk T)) : Type 0 where
  keeps : waiting (sweep d.direction) g.events ≢ [] → Finishes k (sweep d.direction) (counted_after g d) g h
      → HandsOn k d g h
  turns : waiting (sweep d.direction) g.events ≡ []
      → Finishes k (sweep (opposite d.direction)) (counted_after g (turned d)) g h → HandsOn k d g h

-- k has the drive, with the head at dest and the grants due there counted: if k waited and found the head at dest, they
-- are one less than it found. Or dest is off the disk. Or k waited, found another disk, and handed off what it found
pub data Requests {T : Type 0} (k dest : ℕ) (f h : History (Disk T)) : Result T OffDisk → Type 0 where
  off_disk : (a : Disk T) (g : History (Disk T)) (o : OffDisk) → AddsLast f (Admit k a) g → a.cylmax < dest
      → h ≡ with_event g (Leave k a) → Requests k dest f h (Err o)
  granted : (a found : Disk T) (e g : History (Disk T)) (drive : T) → AddsLast f (Admit k a) e → dest ≤ a.cylmax
      → Reaches k dest a e g found → found.cylmax ≡ a.cylmax → found.drive ≡ Some drive
      → (a.drive ≡ None → found.headpos ≡ dest → (counted_after g (sent found dest)).stay + 1 ≡ found.stay)
      → h ≡ with_event g (Leave k (counted_after g (sent found dest))) → Requests k dest f h (Ok drive)
  other_disk : (a found : Disk T) (e g : History (Disk T)) (o : OffDisk) → AddsLast f (Admit k a) e → dest ≤ a.cylmax
      → Reaches k dest a e g found → found.cylmax ≢ a.cylmax → HandsOn k found g h → Requests k dest f h (Err o)

-- k put the drive in and handed it off, or was refused and has the drive back
pub data Releases {T : Type 0} (k : ℕ) (drive : T) (f h : History (Disk T)) : Result (Unit {0})
    (NotOut T) → Type 0 where
  put_in : (a : Disk T) (g : History (Disk T)) → AddsLast f (Admit k a) g → a.drive ≡ None
      → HandsOn k (put a drive) g h → Releases k drive f h (Ok tt)
  refused : (a : Disk T) (g : History (Disk T)) → AddsLast f (Admit k a) g → IsSome a.drive
      → h ≡ with_event g (Leave k a) → Releases k drive f h (Err (record { item = drive }))
