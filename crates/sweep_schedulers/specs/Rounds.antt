-- How many reads and writes begin before a waiting process: the steps of the procedures after a given moment, counted.
-- One step is one call, together with all processes that resume because of it: each of them is resumed by the last act
-- of the process before it, and no process enters in between. The data of a step are those of the procedure's trace
-- (ReadersWritersTraces). All processes wait with priority 0, so the waiting writers begin in the order in which they
-- came. A refused call of end_read or end_write changes nothing, so it is no step. Each history of a monitor that only
-- these procedures use is a run of these steps (`laws::a_sharing_history_is_a_run`).
use Rattle.std.specs.Prelude.{ℕ, suc, ◌+◌, ◌-◌, ◌<◌, List, [], ◌∷◌, ◌++◌, length, replicate, if◌then◌else◌, true}
use Rattle.std.specs.Prelude.{◌≡◌, ◌≢◌, ◌⊎◌, Ok, Err, All}
use Rattle.sweep_schedulers.specs.declared.readers_writers.ReadPass.{ReadPass}
use Rattle.sweep_schedulers.specs.declared.readers_writers.TooManyReaders.{TooManyReaders}
use Rattle.sweep_schedulers.specs.ReadersWriters.{Shared, ReadersRest, IsInUse, with_readers, with_writer, written}
use Rattle.sweep_schedulers.specs.ReadersWritersTraces.{Admits}

-- the data; the number of processes that wait to read; the places that wait to write, in turn. Then the number of reads
-- that have begun, and the places that have begun to write, in turn. Then the rounds, the latest first: for each write
-- that ended while readers waited, how many waited
pub record Moment (T : Type 0) : Type 0 where
  pub state : Shared T
  pub to_read : ℕ
  pub to_write : List ℕ
  pub reads : ℕ
  pub writes : List ℕ
  pub rounds : List ℕ

-- the moment after which reads, writes and rounds are counted
abbrev pub counted_from : {T : Type 0} → Shared T → ℕ → List ℕ → Moment T
counted_from s to_read to_write =
    record { state = s; to_read = to_read; to_write = to_write; reads = 0; writes = []; rounds = [] }

-- the priorities of n waiting processes
abbrev pub plain : ℕ → List ℕ
plain n = replicate n 0

-- what holds of the data and of the waiting processes
abbrev pub Rests : {T : Type 0} → Moment T → Type 0
Rests m = ReadersRest m.state (plain m.to_read) (plain (length m.to_write))

-- the number of writers that are in
abbrev pub writers_in : {T : Type 0} → Shared T → ℕ
writers_in s = if s.busy then 1 else 0

-- a reader that enters at this moment has to wait
abbrev pub HoldsUp : {T : Type 0} → Moment T → Type 0
HoldsUp m = (m.state.busy ≡ true) ⊎ (m.to_write ≢ [])

-- n readers resume, one after another: `begun` of them are admitted, and the others refused
pub data Round {T : Type 0} : Shared T → ℕ → Shared T → ℕ → Type 0 where
  over : (s : Shared T) → Round s 0 s 0
  admitted : (s a e : Shared T) (n begun : ℕ) (read : ReadPass × T) → Admits s a (Ok read) → Round a n e begun
      → Round s (suc n) e (suc begun)
  refused : (s a e : Shared T) (n begun : ℕ) (x : TooManyReaders) → Admits s a (Err x) → Round a n e begun
      → Round s (suc n) e begun

-- the first of the places that wait to write begins, if there is one
abbrev pub writer_resumed : {T : Type 0} → List ℕ → Moment T → Moment T
writer_resumed [] m = m
writer_resumed (k ∷ others) m =
    record m { state = with_writer m.state; to_write = others; writes = m.writes ++ k ∷ [] }

-- from the data s on, when `to_read` processes waited to read and the places `to_write` to write, this moment was
-- reached
pub data Runs {T : Type 0} (s : Shared T) (to_read : ℕ) (to_write : List ℕ) : Moment T → Type 0 where
  none : Runs s to_read to_write (counted_from s to_read to_write)
  -- start_read, and the reader has to wait
  reader_waits : (m : Moment T) → Runs s to_read to_write m → HoldsUp m
      → Runs s to_read to_write (record m { to_read = m.to_read + 1 })
  -- start_read, and the reader needn't wait: by its last act all waiting readers resume
  reader_begins : (m : Moment T) (e : Shared T) (begun : ℕ) → Runs s to_read to_write m → (HoldsUp m → ⊥)
      → Round m.state (suc m.to_read) e begun
      → Runs s to_read to_write (record m { state = e; to_read = 0; reads = m.reads + begun })
  -- end_read, while other readers stay in
  read_ends : (m : Moment T) → Runs s to_read to_write m → 1 < m.state.readers
      → Runs s to_read to_write (record m { state = with_readers m.state (m.state.readers - 1) })
  -- end_read by the last reader
  last_read_ends : (m : Moment T) → Runs s to_read to_write m → m.state.readers ≡ 1
      → Runs s to_read to_write (writer_resumed m.to_write (record m { state = with_readers m.state 0 }))
  -- start_write, while a reader or a writer is in
  writer_waits : (m : Moment T) (k : ℕ) → Runs s to_read to_write m → IsInUse m.state
      → Runs s to_read to_write (record m { to_write = m.to_write ++ k ∷ [] })
  -- start_write, while no reader and no writer is in
  writer_begins : (m : Moment T) (k : ℕ) → Runs s to_read to_write m → (IsInUse m.state → ⊥)
      → Runs s to_read to_write (record m { state = with_writer m.state; writes = m.writes ++ k ∷ [] })
  -- end_write, while readers wait: all of them resume
  round_begins : (m : Moment T) (value : T) (e : Shared T) (begun : ℕ) → Runs s to_read to_write m
      → m.state.busy ≡ true → 0 < m.to_read → Round (written m.state value) m.to_read e begun
      → Runs s to_read to_write (record m {
        state = e;
        to_read = 0;
        reads = m.reads + begun;
        rounds = m.to_read ∷ m.rounds;
      })
  -- end_write, while no reader waits
  write_ends : (m : Moment T) (value : T) → Runs s to_read to_write m → m.state.busy ≡ true → m.to_read ≡ 0
      → Runs s to_read to_write (writer_resumed m.to_write (record m { state = written m.state value }))

-- the place w still waits to write: at first the places `before` waited ahead of it and the places `behind` after it,
-- and it hasn't begun since
pub record WriterWaits {T : Type 0} (s : Shared T) (to_read : ℕ) (before : List ℕ) (w : ℕ) (behind : List ℕ)
    (m : Moment T) : Type 0 where
  pub rests : Rests (counted_from s to_read (before ++ w ∷ behind))
  pub once : All (λ k. k ≢ w) before
  pub runs : Runs s to_read (before ++ w ∷ behind) m
  pub not_yet : All (λ k. k ≢ w) m.writes

-- a reader that waited at first still waits: a round takes all waiting readers, and there was no round
pub record ReaderWaits {T : Type 0} (s : Shared T) (to_read : ℕ) (to_write : List ℕ) (m : Moment T) : Type 0 where
  pub rests : Rests (counted_from s to_read to_write)
  pub waited : 0 < to_read
  pub runs : Runs s to_read to_write m
  pub not_yet : m.rounds ≡ []
