-- What a run reads, writes and returns, by its input; and the exit status of a fault.
use Rattle.std.specs.Prelude.{ℕ, suc, ◌≡◌, ◌≤◌, ◌<◌, ◌-◌, Bool, true, false, List, [], ◌∷◌, ◌++◌, length, take}
use Rattle.std.specs.Prelude.{drop}
use Rattle.std.specs.Prelude.{Option, Some, None, Result, Ok, Err, IsOkAnd, ⊤}
use Rattle.std.specs.List.{slice_split}
use Rattle.std.specs.Option.{IsSomeAnd}
use Rattle.std.specs.Io.KnownBytes.{Appends}
use Rattle.line_text.specs.Line.{after_lines, is_newline}
use Rattle.line_text.specs.Streams.{AppendsPrefix}
use Rattle.wait_book.specs.Contents.{Contents, IsOf, make_refusal}
use Rattle.hoare_script.specs.declared.fault.ScriptFault.{ScriptFault}
use Rattle.hoare_script.specs.declared.fault.ScriptFault.TheVariants as faults
use Rattle.hoare_script.specs.Lines.{header_of, sizes_in}
use Rattle.hoare_script.specs.Scripts.{State, Start, Running, Outcome, Output, output, at_end, at_cut}

-- all that t has as written is appended, and the fault is that of t
abbrev pub Whole : Output → Option (List ℕ) → Option (List ℕ) → Option ScriptFault → Type 0
Whole t old new f = Appends old new t.written × (t.fault ≡ f)

-- after i lines of text the next line is read: the answers to the i lines are written, and not all answers
abbrev pub BreaksOff : ℕ → List ℕ → List ℕ → Option (List ℕ) → Option (List ℕ) → Type 0
BreaksOff i text left old new =
    (read : List ℕ) × (n : ℕ)
    × (text ≡ read ++ after_lines i text) × (left ≡ after_lines (suc i) text)
    × (length (output at_cut read).written ≤ n) × (n < length (output at_end text).written)
    × Appends old new (take n (output at_end text).written)

-- a line is a header, with as many places, conditions and Mesa conditions as a monitor may have
abbrev pub IsGoodHeader : List ℕ → Type 0
IsGoodHeader line = IsSomeAnd (header_of line) (λ h. make_refusal (sizes_in h) ≡ None)

-- the first line of a text is a good header
abbrev pub HasGoodHeader : List ℕ → Type 0
HasGoodHeader text =
    (line : List ℕ) × (lines : List (List ℕ))
    × (slice_split is_newline text ≡ line ∷ lines) × IsGoodHeader line

-- the result of a run
abbrev pub Verdict : Type 0
Verdict = Result (Unit {0}) ScriptFault

-- what a run over text writes, by its result, if it leaves `left` of the text unread
abbrev pub Writes : List ℕ → List ℕ → Option (List ℕ) → Option (List ℕ) → Verdict → Type 0
Writes text left old new (Ok u) = Whole (output at_end text) old new None
-- the answers to the lines that were read whole
Writes text left old new (Err faults.ReadFault) =
    (read : List ℕ) × (text ≡ read ++ left) × Whole (output at_cut read) old new (Some faults.ReadFault)
Writes text left old new (Err faults.WriteFault) = (i : ℕ) × BreaksOff i text left old new
-- nothing, and the first line is a good header: it alone takes memory, and a bad header is returned as its own fault
Writes text left old new (Err faults.Memory) = HasGoodHeader text × Appends old new []
-- the answers to the lines before the fault, which is the fault of the text
Writes text left old new (Err f) = Whole (output at_end text) old new (Some f)

-- what a run leaves unread of a text, by its result: no byte past the one at which the result is fixed is read
abbrev pub Leaves : List ℕ → List ℕ → Verdict → Type 0
Leaves text left (Ok u) = left ≡ []
Leaves text left (Err faults.NoHeader) = left ≡ []
Leaves text left (Err faults.TooMuch) = left ≡ drop (1048577) text
-- the last byte that is read is the first of its line that is too many
Leaves text left (Err (faults.LineTooLong i)) =
    left ≡ drop (257) (after_lines (i - 1) text)
-- its line and the end of that line are read
Leaves text left (Err (faults.BadLine i)) = left ≡ after_lines i text
Leaves text left (Err (faults.BadHeader i)) = left ≡ after_lines i text
-- the header and its end are read
Leaves text left (Err faults.Memory) = left ≡ after_lines 1 text
-- the line whose answer can't be written is the last that was read
Leaves text left (Err faults.WriteFault) = (i : ℕ) × (left ≡ after_lines i text)
Leaves text left (Err faults.ReadFault) = (read : List ℕ) × (text ≡ read ++ left)

-- what a run writes, and what it leaves unread
abbrev pub Tells : List ℕ → List ℕ → Option (List ℕ) → Option (List ℕ) → Verdict → Type 0
Tells text left old new r = Writes text left old new r × Leaves text left r

-- there is a book exactly if the script is running, and the book is then of the script's history
abbrev pub IsAt : Option Contents → State → Type 0
IsAt None Start = ⊤
IsAt None (Running h) = ⊥
IsAt (Some b) Start = ⊥
IsAt (Some b) (Running h) = IsOf b h

-- what is written if a line ends in this fault
abbrev pub OnFault : Outcome → Option (List ℕ) → Option (List ℕ) → ScriptFault → Type 0
OnFault out old new faults.WriteFault = IsOkAnd out (λ p. AppendsPrefix old new p.0)
OnFault out old new faults.Memory = Appends old new []
OnFault out old new faults.NoHeader = ⊥
OnFault out old new (faults.BadLine i) = (out ≡ Err (faults.BadLine i)) × Appends old new []
OnFault out old new (faults.BadHeader i) = (out ≡ Err (faults.BadHeader i)) × Appends old new []
OnFault out old new faults.ReadFault = ⊥
OnFault out old new (faults.LineTooLong i) = ⊥
OnFault out old new faults.TooMuch = ⊥

-- what a line leaves: its answer is written, and the book is at the state after the line
abbrev pub Follows : Outcome → Option (List ℕ) → Option (List ℕ) → Option Contents → Verdict → Type 0
Follows out old new book (Ok u) = IsOkAnd out (λ p. Appends old new p.0 × IsAt book p.1)
Follows out old new book (Err f) = OnFault out old new f

-- true if the result is a read fault; and if it is a write fault
abbrev pub is_read_fault : {X : Type 0} → Result X ScriptFault → Bool
is_read_fault (Err faults.ReadFault) = true
is_read_fault _ = false

abbrev pub is_write_fault : {X : Type 0} → Result X ScriptFault → Bool
is_write_fault (Err faults.WriteFault) = true
is_write_fault _ = false

-- 2 if the text is at fault, 3 if the reader, the writer or memory is
abbrev pub status_of : ScriptFault → ℕ
status_of faults.NoHeader = 2
status_of (faults.BadLine i) = 2
status_of (faults.BadHeader i) = 2
status_of faults.ReadFault = 3
status_of faults.WriteFault = 3
status_of faults.Memory = 3
status_of (faults.LineTooLong i) = 2
status_of faults.TooMuch = 2
