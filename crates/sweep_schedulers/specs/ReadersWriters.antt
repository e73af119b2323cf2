-- What holds of readers and writers and of the waiting processes. Condition 0 is oktoread, condition 1 is oktowrite.
use Rattle.std.specs.Prelude.{ℕ, zero, suc, ◌<◌, ◌≤◌, List, [], Bool, true, false, ◌≡◌, ◌≢◌, ◌⊎◌}

-- the value; the number of readers that are in; true if a writer is in
pub record Shared (T : Type 0) : Type 0 where
  pub value : T
  pub readers : ℕ
  pub busy : Bool

-- a value with no reader and no writer in
abbrev pub unused : {T : Type 0} → T → Shared T
unused value = record { value = value; readers = 0; busy = false }

-- the same with this number of readers in
abbrev pub with_readers : {T : Type 0} → Shared T → ℕ → Shared T
with_readers s readers = record s { readers = readers }

-- the same with a writer in
abbrev pub with_writer : {T : Type 0} → Shared T → Shared T
with_writer s = record s { busy = true }

-- as a writer left it: with this value, and no writer in
abbrev pub written : {T : Type 0} → Shared T → T → Shared T
written s value = record s { value = value; busy = false }

-- a reader or a writer is in
abbrev pub IsInUse : {T : Type 0} → Shared T → Type 0
IsInUse s = (0 < s.readers) ⊎ (s.busy ≡ true)

-- what always holds: at most 1,024 readers are in, and no reader is in together with a writer
pub record ReadersHold {T : Type 0} (s : Shared T) : Type 0 where
  pub most : s.readers ≤ 1024
  pub alone : s.busy ≡ true → s.readers ≡ 0

-- if a process waits to write, a reader or a writer is in; if a process waits to read, a writer is in or waits
pub record ReadersRest {T : Type 0} (s : Shared T) (to_read to_write : List ℕ) : Type 0 where
  pub inv : ReadersHold s
  pub writers : to_write ≢ [] → IsInUse s
  pub readers : to_read ≢ [] → (s.busy ≡ true) ⊎ (to_write ≢ [])

-- the process that waited to read finds no writer in
pub record ReadReady {T : Type 0} (s : Shared T) : Type 0 where
  pub inv : ReadersHold s
  pub no_writer : s.busy ≡ false

-- the process that waited to write finds no reader and no writer in
pub record WriteReady {T : Type 0} (s : Shared T) : Type 0 where
  pub inv : ReadersHold s
  pub no_writer : s.busy ≡ false
  pub no_reader : s.readers ≡ 0

-- what a process that waited on the condition finds
abbrev pub ReadersReady : {T : Type 0} → ℕ → Shared T → Type 0
ReadersReady zero s = ReadReady s
ReadersReady (suc c) s = WriteReady s

-- if ready holds, what always holds does too
pub inv_of_ready : {T : Type 0} (c : ℕ) (s : Shared T) → ReadersReady c s → ReadersHold s
inv_of_ready zero s h = h.inv
inv_of_ready (suc c) s h = h.inv
