-- The histories of readers and writers that only the procedures use: each place's own events are traces of the four
-- procedures, the last of them perhaps unfinished. In this file k is a place, f has the events before its next one.
use Rattle.std.specs.Prelude.{ℕ, ◌+◌, ◌-◌, ◌<◌, ◌&&◌, not, nat_lt, if◌then◌else◌, List, [], ◌∷◌, ◌++◌, ◌≡◌, ◌≢◌, ◌⊎◌}
use Rattle.std.specs.Prelude.{true, Some, Result, length, map}
use Rattle.hoare_law.specs.declared.event.Event.{Event}
use Rattle.hoare_law.specs.declared.event.History.{History}
use Rattle.hoare_law.specs.Events.{place_of, data_of, newest, latest_data}
use Rattle.hoare_law.specs.Waiting.{waiting, priority_of}
use Rattle.hoare_law.specs.Priorities.{in_order}
use Rattle.hoare_law.specs.Lawful.{Rest, Ready}
use Rattle.hoare_law.specs.Overtaking.{is_release}
use Rattle.sweep_schedulers.specs.declared.readers_writers.ReadPass.{ReadPass}
use Rattle.sweep_schedulers.specs.declared.readers_writers.TooManyReaders.{TooManyReaders}
use Rattle.sweep_schedulers.specs.Follows.{Procedures, HasEntered, HasResumed, Continues, IsUsed}
use Rattle.sweep_schedulers.specs.ReadersWriters.{Shared, ReadersRest, ReadersReady, IsInUse, with_readers, with_writer}
use Rattle.sweep_schedulers.specs.ReadersWriters.{written}
use Rattle.sweep_schedulers.specs.ReadersWritersTraces.{Admits}
use Rattle.sweep_schedulers.specs.Rounds.{Moment}

-- `rest` and `ready` of `ReadersWriters`
abbrev pub shared_rest : {T : Type 0} → Rest (Shared T)
shared_rest s q = ReadersRest s (q 0) (q 1)

abbrev pub shared_ready : {T : Type 0} → Ready (Shared T)
shared_ready c p s q = ReadersReady c s

-- a reader that finds s has to wait
abbrev pub IsHeldUp : {T : Type 0} → List (Event (Shared T)) → Shared T → Type 0
IsHeldUp f s = (s.busy ≡ true) ⊎ (waiting 1 f ≢ [])

-- k came to read, at once or after a wait, and found this
pub data Reads {T : Type 0} (k : ℕ) (f : List (Event (Shared T))) (found : Shared T) : Type 0 where
  reads_at_once : HasEntered k f found → (IsHeldUp f found → ⊥) → Reads k f found
  reads_resumed : (a : Shared T) → HasResumed k 0 0 f a found → Reads k f found

-- k signals on c with s, or leaves with it if no process waits there: it came to read; or it was the last reader; or
-- its write ended
pub data Ends {T : Type 0} (k c : ℕ) (f : List (Event (Shared T))) (s : Shared T) : Type 0 where
  read_begins : (found : Shared T) (read : Result (ReadPass × T) TooManyReaders) → Reads k f found
      → Admits found s read → c ≡ 0 → Ends k c f s
  last_read : (a : Shared T) → HasEntered k f a → a.readers ≡ 1 → s ≡ with_readers a 0 → c ≡ 1 → Ends k c f s
  to_readers : (a : Shared T) (value : T) → HasEntered k f a → a.busy ≡ true → waiting 0 f ≢ [] → s ≡ written a value
      → c ≡ 0 → Ends k c f s
  to_writers : (a : Shared T) (value : T) → HasEntered k f a → a.busy ≡ true → waiting 0 f ≡ [] → s ≡ written a value
      → c ≡ 1 → Ends k c f s

-- k waits on c with priority p and s: to read, or to write
pub data Waits {T : Type 0} (k c p : ℕ) (f : List (Event (Shared T))) (s : Shared T) : Type 0 where
  to_read : HasEntered k f s → IsHeldUp f s → c ≡ 0 → p ≡ 0 → Waits k c p f s
  to_write : HasEntered k f s → IsInUse s → c ≡ 1 → p ≡ 0 → Waits k c p f s

-- k leaves with s: other readers stay in; or it began to write, at once or after a wait
pub data Goes {T : Type 0} (k : ℕ) (f : List (Event (Shared T))) (s : Shared T) : Type 0 where
  others_read : (a : Shared T) → HasEntered k f a → 1 < a.readers → s ≡ with_readers a (a.readers - 1) → Goes k f s
  writes_at_once : (a : Shared T) → HasEntered k f a → (IsInUse a → ⊥) → s ≡ with_writer a → Goes k f s
  writes_resumed : (a found : Shared T) → HasResumed k 1 0 f a found → s ≡ with_writer found → Goes k f s

abbrev pub sharing_procedures : {T : Type 0} → Procedures (Shared T)
sharing_procedures = record { waits = Waits; signals = Ends; ends = Goes }

abbrev pub ContinuesSharing : {T : Type 0} → List (Event (Shared T)) → Event (Shared T) → Type 0
ContinuesSharing f e = Continues sharing_procedures f e

-- h is a legal and lawful history of readers and writers that only the procedures use
abbrev pub IsSharedHistory : {T : Type 0} → History (Shared T) → Type 0
IsSharedHistory h = IsUsed sharing_procedures shared_rest shared_ready h

-- the last event, if there is one, released the monitor and resumed no process
abbrev pub IsReleased : {T : Type 0} → List (Event (Shared T)) → Type 0
IsReleased {T = T} f = (e : Event (Shared T)) → newest f ≡ Some e → is_release e ≡ true

-- what the bounds count: the reads that began, the places that began to write, in turn, and, the latest first, how many
-- readers waited when a write ended, if any did
pub record Counts : Type 0 where
  pub reads : ℕ
  pub writes : List ℕ
  pub rounds : List ℕ

abbrev pub no_counts : Counts
no_counts = record { reads = 0; writes = []; rounds = [] }

-- after the events f, with the data s, the event e is counted: a read begins if one more reader is in, a write begins
-- if a writer is in and none was
abbrev pub counting : {T : Type 0} → List (Event (Shared T)) → Shared T → Counts → Event (Shared T) → Counts
counting f s n e = record {
  reads = n.reads + (if nat_lt s.readers (data_of e).readers then 1 else 0);
  writes = n.writes ++ (if not s.busy && (data_of e).busy then place_of e ∷ [] else []);
  rounds = if s.busy && (not (data_of e).busy && nat_lt 0 (length (waiting 0 f))) then length (waiting 0 f) ∷ n.rounds
      else n.rounds;
}

-- the events of `later` are counted
abbrev pub counted_in : {T : Type 0} → List (Event (Shared T)) → Shared T → Counts → List (Event (Shared T)) → Counts
counted_in f s n [] = n
counted_in f s n (e ∷ later) = counted_in (f ++ e ∷ []) (data_of e) (counting f s n e) later

-- the model's moment after the events of h, with these counts
abbrev pub moment_of : {T : Type 0} → History (Shared T) → Counts → Moment T
moment_of h n = record {
  state = latest_data h;
  to_read = length (waiting 0 h.events);
  to_write = map place_of (in_order priority_of (waiting 1 h.events));
  reads = n.reads;
  writes = n.writes;
  rounds = n.rounds;
}
