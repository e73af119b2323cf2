-- The histories of a disk head that only the procedures of a head use: each place's own events are traces of `request`
-- and `release`, the last of them perhaps unfinished. In this file k is a place, and f has the events before its next
-- one.
use Rattle.std.specs.Prelude.{ℕ, ◌≤◌, ◌==◌, List, [], ◌∷◌, ◌++◌, ◌≡◌, ◌≢◌, Bool, true, false, None, IsSome}
use Rattle.std.specs.Prelude.{length, map, count_by}
use Rattle.std.specs.List.{filter}
use Rattle.hoare_law.specs.declared.event.Event.{Event}
use Rattle.hoare_law.specs.declared.event.History.{History}
use Rattle.hoare_law.specs.declared.event.Event.TheVariants.{Signal, Pass}
use Rattle.hoare_law.specs.Events.{latest_data}
use Rattle.hoare_law.specs.Waiting.{priority_of, is_untouched, waiting}
use Rattle.hoare_law.specs.Priorities.{priorities, in_order}
use Rattle.hoare_law.specs.Lawful.{Rest, Ready}
use Rattle.sweep_schedulers.specs.declared.direction.Direction.{Direction}
use Rattle.sweep_schedulers.specs.Follows.{Procedures, HasEntered, HasResumed, Continues, IsUsed}
use Rattle.sweep_schedulers.specs.Heads.{Disk, HeadRests, HeadReady, sweep, opposite, turned, put, sent, counted}
use Rattle.sweep_schedulers.specs.Heads.{toward, priority_at}

-- `rest` and `ready` of a `Head`
abbrev pub head_rest : {T : Type 0} → Rest (Disk T)
head_rest d q = HeadRests d (q 0) (q 1)

abbrev pub head_ready : {T : Type 0} → Ready (Disk T)
head_ready c p d q = HeadReady c p d (q 0) (q 1)

-- the same disk, with the grants counted as due for the requests that wait then for the present sweep and the cylinder
-- under the head
abbrev pub counted_at : {T : Type 0} → List (Event (Disk T)) → Disk T → Disk T
counted_at f d = counted d (priorities f 0) (priorities f 1)

-- the condition and the priority of a request for dest that finds the disk a with its drive out
abbrev pub sweep_to : {T : Type 0} → ℕ → Disk T → ℕ
sweep_to dest a = sweep (toward dest a)

abbrev pub priority_to : {T : Type 0} → ℕ → Disk T → ℕ
priority_to dest a = priority_at a.cylmax (toward dest a) dest

-- k waited as a request for dest that found a, resumed, found the second disk, and did nothing since
pub record HasReached {T : Type 0} (k dest : ℕ) (f : List (Event (Disk T))) (a found : Disk T) : Type 0 where
  pub on : dest ≤ a.cylmax
  pub resumed : HasResumed k (sweep_to dest a) (priority_to dest a) f a found

-- k has the disk d with its drive in, to hand it off: it was given back, or k resumed and found another last cylinder
pub data IsToHandOn {T : Type 0} (k : ℕ) (f : List (Event (Disk T))) (d : Disk T) : Type 0 where
  released : (a : Disk T) (drive : T) → HasEntered k f a → a.drive ≡ None → d ≡ put a drive → IsToHandOn k f d
  other_disk : (dest : ℕ) (a : Disk T) → HasReached k dest f a d → d.cylmax ≢ a.cylmax → IsToHandOn k f d

-- the disk d is handed off as s by a signal on c: on the present sweep if a request waits there; else the head turns,
-- and the signal is on the other sweep
pub data HandsOff {T : Type 0} (f : List (Event (Disk T))) (d : Disk T) (c : ℕ) (s : Disk T) : Type 0 where
  keeps : waiting (sweep d.direction) f ≢ [] → c ≡ sweep d.direction → s ≡ counted_at f d → HandsOff f d c s
  turns : waiting (sweep d.direction) f ≡ [] → c ≡ sweep (opposite d.direction) → s ≡ counted_at f (turned d)
      → HandsOff f d c s

-- k signals on c with s
pub record Signals {T : Type 0} (k c : ℕ) (f : List (Event (Disk T))) (s : Disk T) : Type 0 where
  pub disk : Disk T
  pub to_hand_on : IsToHandOn k f disk
  pub hands_off : HandsOff f disk c s

-- k waits on c with priority p and s: it is a request for dest that found the drive out
pub record Waits {T : Type 0} (k c p : ℕ) (f : List (Event (Disk T))) (s : Disk T) : Type 0 where
  pub dest : ℕ
  pub entered : HasEntered k f s
  pub busy : s.drive ≡ None
  pub on : dest ≤ s.cylmax
  pub on_sweep : c ≡ sweep_to dest s
  pub priority : p ≡ priority_to dest s

-- k leaves with s: it has the drive, at once or after a wait
pub data Takes {T : Type 0} (k : ℕ) (f : List (Event (Disk T))) (s : Disk T) : Type 0 where
  at_once : (a : Disk T) (dest : ℕ) → HasEntered k f a → IsSome a.drive → dest ≤ a.cylmax
      → s ≡ counted_at f (sent a dest) → Takes k f s
  granted : (a found : Disk T) (dest : ℕ) → HasReached k dest f a found → found.cylmax ≡ a.cylmax
      → IsSome found.drive → s ≡ counted_at f (sent found dest) → Takes k f s

abbrev pub head_procedures : {T : Type 0} → Procedures (Disk T)
head_procedures = record { waits = Waits; signals = Signals; ends = Takes }

abbrev pub ContinuesHead : {T : Type 0} → List (Event (Disk T)) → Event (Disk T) → Type 0
ContinuesHead f e = Continues head_procedures f e

-- h is a legal and lawful history of a head that only the procedures use
abbrev pub IsHeadHistory : {T : Type 0} → History (Disk T) → Type 0
IsHeadHistory h = IsUsed head_procedures head_rest head_ready h

-- the event hands the drive off to a waiting request
abbrev pub hands_drive : {T : Type 0} → Event (Disk T) → Bool
hands_drive (Signal k c w s) = true
hands_drive (Pass k c w s) = true
hands_drive _ = false

-- how often the drive is handed off to a waiting request
unfoldable pub hand_offs : {T : Type 0} → List (Event (Disk T)) → ℕ
hand_offs later = length (filter hands_drive later)

-- After the events of h the request x waits for the sweep in the direction side, and no event of `later` takes it from
-- the waiters. Of those that signals would resume before it, k have its own priority p: these came earlier
pub record KeepsWaiting {T : Type 0} (h : History (Disk T)) (later : List (Event (Disk T))) (x : Event (Disk T))
    (side : Direction) (p k : ℕ) : Type 0 where
  pub before : List (Event (Disk T))
  pub behind : List (Event (Disk T))
  pub is : in_order priority_of (waiting (sweep side) h.events) ≡ before ++ x ∷ behind
  pub priority : priority_of x ≡ p
  pub earlier : count_by (λ s. s == p) (map priority_of before) ≡ k
  pub untouched : is_untouched (sweep side) x later ≡ true
  pub rests : HeadRests (latest_data h) (priorities h.events 0) (priorities h.events 1)
