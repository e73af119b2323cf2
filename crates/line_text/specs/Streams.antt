-- What a watched reader and a watched writer record, and what reading and writing do to known bytes.
use Rattle.std.specs.Prelude.{ℕ, ◌≡◌, ◌+◌, ◌-◌, ◌^◌, ◌≤◌, ◌<◌, ◌==◌, min, List, [], ◌∷◌, length, take, Bool, true}
use Rattle.std.specs.Prelude.{false, Option, Some, None, Result, Ok, Err, ⊤}
use Rattle.std.specs.Io.KnownBytes.{Appends}
use Rattle.line_text.specs.declared.reader.ReadFailed.{ReadFailed}
use Rattle.line_text.specs.declared.reader.WatchedReader.{WatchedReader}
use Rattle.line_text.specs.declared.writer.WatchedWriter.{WatchedWriter}

-- the wrapped reader
abbrev pub reader_inside : {R : Type 0} → WatchedReader R → R
reader_inside r = r.inner.now

-- the name of the reference to the wrapped reader
abbrev pub reader_name : {R : Type 0} → WatchedReader R → ℕ
reader_name r = r.inner.ghost_name

-- a read failed
abbrev pub has_read_failed : {R : Type 0} → WatchedReader R → Bool
has_read_failed r = r.failed

-- how many reads were made
abbrev pub read_calls : {R : Type 0} → WatchedReader R → ℕ
read_calls r = r.calls

-- how many bytes the reads gave
abbrev pub bytes_given : {R : Type 0} → WatchedReader R → ℕ
bytes_given r = r.bytes

-- one more read was made, and gave n bytes; both counts stop at 2^64 - 1
abbrev pub CountsRead : {R : Type 0} → WatchedReader R → WatchedReader R → ℕ → Type 0
CountsRead old new n =
    (read_calls new ≡ min (read_calls old + 1) (2 ^ 64 - 1))
    × (bytes_given new ≡ min (bytes_given old + n) (2 ^ 64 - 1))

-- at most `calls` more reads were made, and gave at most `bytes` bytes
abbrev pub HasRead : {R : Type 0} → WatchedReader R → WatchedReader R → ℕ → ℕ → Type 0
HasRead old new calls bytes =
    (read_calls new ≤ read_calls old + calls) × (bytes_given new ≤ bytes_given old + bytes)

-- the wrapped writer
abbrev pub writer_inside : {W : Type 0} → WatchedWriter W → W
writer_inside w = w.inner.now

-- the name of the reference to the wrapped writer
abbrev pub writer_name : {W : Type 0} → WatchedWriter W → ℕ
writer_name w = w.inner.ghost_name

-- a write failed or took no bytes
abbrev pub has_write_failed : {W : Type 0} → WatchedWriter W → Bool
has_write_failed w = w.failed

-- the result is an error
abbrev pub is_error : {X E : Type 0} → Result X E → Bool
is_error (Ok x) = false
is_error (Err e) = true

-- how many bytes a read gave
abbrev pub count_of : {E : Type 0} → Result ℕ E → ℕ
count_of (Ok n) = n
count_of (Err e) = 0

-- how many bytes a read of one byte gave
abbrev pub byte_count : {E : Type 0} → Result (Option ℕ) E → ℕ
byte_count (Ok (Some b)) = 1
byte_count (Ok None) = 0
byte_count (Err e) = 0

-- a write failed, or took no bytes
abbrev pub is_shortfall : {E : Type 0} → Result ℕ E → Bool
is_shortfall (Ok n) = n == 0
is_shortfall (Err e) = true

-- if the bytes were known they are known still, and P holds of the old and the new ones
abbrev pub Reads : Option (List ℕ) → Option (List ℕ) → (List ℕ → List ℕ → Type 0) → Type 0
Reads None new P = ⊤
Reads (Some t) None P = ⊥
Reads (Some t) (Some x) P = P t x

-- the same of the bytes that a watched reader has left, by what the reader's type says of them
abbrev pub ReadsFrom : {R : Type 0} → (R → Option (List ℕ)) → WatchedReader R → WatchedReader R
    → (List ℕ → List ℕ → Type 0) → Type 0
ReadsFrom remaining old new P = Reads (remaining (reader_inside old)) (remaining (reader_inside new)) P

-- the byte that was read was the first of t, and x is left of t; at the end of the input nothing was left, and if the
-- read failed, t is left as it was
abbrev pub ReadsByte : Result (Option ℕ) ReadFailed → List ℕ → List ℕ → Type 0
ReadsByte (Ok (Some b)) t x = t ≡ b ∷ x
ReadsByte (Ok None) t x = (t ≡ []) × (x ≡ [])
ReadsByte (Err e) t x = x ≡ t

-- if the bytes were known they are known still, and grew by a prefix of bs that isn't all of bs
abbrev pub AppendsPrefix : Option (List ℕ) → Option (List ℕ) → List ℕ → Type 0
AppendsPrefix old new bs = (n : ℕ) × (n < length bs) × Appends old new (take n bs)
