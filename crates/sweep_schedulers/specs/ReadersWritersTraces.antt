-- What the procedures of readers and writers add to the history. That a process waits at a moment is a statement about
-- the front at that moment.
use Rattle.std.specs.Prelude.{ℕ, ◌-◌, ◌+◌, ◌<◌, [], true, false, ◌≡◌, ◌≢◌, ◌⊎◌, Result, Ok, Err}
use Rattle.hoare_law.specs.declared.event.History.{History}
use Rattle.hoare_law.specs.declared.event.Event.TheVariants.{Admit, Leave}
use Rattle.hoare_law.specs.Events.{with_event}
use Rattle.hoare_law.specs.Waiting.{waiting}
use Rattle.hoare_law.specs.Growth.{AddsLast, GetsInside, Finishes}
use Rattle.sweep_schedulers.specs.declared.not_out.NotOut.{NotOut}
use Rattle.sweep_schedulers.specs.declared.readers_writers.ReadPass.{ReadPass}
use Rattle.sweep_schedulers.specs.declared.readers_writers.NoReader.{NoReader}
use Rattle.sweep_schedulers.specs.declared.readers_writers.TooManyReaders.{TooManyReaders}
use Rattle.sweep_schedulers.specs.ReadersWriters.{Shared, IsInUse, with_readers, with_writer, written}

-- a reader has to wait if a writer is in, or a process waits on oktowrite
abbrev pub ReaderHeldUp : {T : Type 0} → History (Shared T) → Shared T → Type 0
ReaderHeldUp g a = (a.busy ≡ true) ⊎ (waiting 1 g.events ≢ [])

-- one more reader is in, with a pass and the value; or 1,024 readers were in already
pub data Admits {T : Type 0} (s : Shared T) : Shared T → Result (ReadPass × T) TooManyReaders → Type 0 where
  room : (pass : ReadPass) → s.readers < 1024 → Admits s (with_readers s (s.readers + 1)) (Ok (pass, s.value))
  full : (e : TooManyReaders) → s.readers ≡ 1024 → Admits s s (Err e)

-- k was admitted or refused, after a wait if it had to wait, and in both cases signalled on oktoread as its last act
pub record StartsRead {T : Type 0} (k : ℕ) (f h : History (Shared T))
    (read : Result (ReadPass × T) TooManyReaders) : Type 0 where
  pub found : Shared T
  pub after : Shared T
  pub front : History (Shared T)
  pub enters : GetsInside k ReaderHeldUp (λ _. 0) (λ _. 0) f front found
  pub admits : Admits found after read
  pub finishes : Finishes k 0 after front h

-- k was the last reader, and signalled on oktowrite as its last act; or it left, and other readers stayed in; or it was
-- refused, and has its pass
pub data EndsRead {T : Type 0} (k : ℕ) (pass : ReadPass) (f h : History (Shared T)) : Result
    (Unit {0}) NoReader → Type 0 where
  no_reader : (a : Shared T) (g : History (Shared T)) → AddsLast f (Admit k a) g → a.readers ≡ 0
      → h ≡ with_event g (Leave k a) → EndsRead k pass f h (Err (record { pass = pass }))
  last : (a : Shared T) (g : History (Shared T)) → AddsLast f (Admit k a) g → a.readers ≡ 1
      → Finishes k 1 (with_readers a 0) g h → EndsRead k pass f h (Ok tt)
  others : (a : Shared T) (g : History (Shared T)) → AddsLast f (Admit k a) g → 1 < a.readers
      → h ≡ with_event g (Leave k (with_readers a (a.readers - 1))) → EndsRead k pass f h (Ok tt)

-- k became the writer, after a wait if it had to wait, and has the value
pub record StartsWrite {T : Type 0} (k : ℕ) (value : T) (f h : History (Shared T)) : Type 0 where
  pub found : Shared T
  pub front : History (Shared T)
  pub enters : GetsInside k (λ _ a. IsInUse a) (λ _. 1) (λ _. 0) f front found
  pub has : value ≡ found.value
  pub leaves : h ≡ with_event front (Leave k (with_writer found))

-- k left its value, and its last act was a signal on oktoread if a process waited there, else on oktowrite; or k was
-- refused
pub data EndsWrite {T : Type 0} (k : ℕ) (value : T) (f h : History (Shared T)) : Result (Unit {0})
    (NotOut T) → Type 0 where
  to_readers : (a : Shared T) (g : History (Shared T)) → AddsLast f (Admit k a) g → a.busy ≡ true
      → waiting 0 g.events ≢ []
      → Finishes k 0 (written a value) g h → EndsWrite k value f h (Ok tt)
  to_writers : (a : Shared T) (g : History (Shared T)) → AddsLast f (Admit k a) g → a.busy ≡ true
      → waiting 0 g.events ≡ []
      → Finishes k 1 (written a value) g h → EndsWrite k value f h (Ok tt)
  refused : (a : Shared T) (g : History (Shared T)) → AddsLast f (Admit k a) g → a.busy ≡ false
      → h ≡ with_event g (Leave k a) → EndsWrite k value f h (Err (record { item = value }))
