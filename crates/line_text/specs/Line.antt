-- What reading a line does to the bytes of a reader, if these are known.
use Rattle.std.specs.Prelude.{ℕ, zero, suc, ◌≡◌, ◌≢◌, ◌<◌, ◌≤◌, ◌==◌, List, [], ◌∷◌, ◌++◌, length, Bool, true, false}
use Rattle.std.specs.Prelude.{Result, Ok, Err}
use Rattle.std.specs.List.{All}
use Rattle.std.specs.Io.BufRead.{drop_through}
use Rattle.line_text.specs.declared.line.Ended.{Ended}
use Rattle.line_text.specs.declared.line.Ended.TheVariants.{Line, Last}
use Rattle.line_text.specs.declared.line.LineFault.{LineFault}
use Rattle.line_text.specs.declared.line.LineFault.TheVariants as faults

-- the byte is a newline
abbrev pub is_newline : ℕ → Bool
is_newline b = b == 10

-- no byte of the list is a newline
abbrev pub NoNewline : List ℕ → Type 0
NoNewline l = All (λ b. is_newline b ≡ false) l

-- what follows the first n lines of a text
abbrev pub after_lines : ℕ → List ℕ → List ℕ
after_lines zero text = text
after_lines (suc n) text = drop_through 10 (after_lines n text)

-- the bytes l of the line were the beginning of t, and x is left of t; the result says how the line ended, or why it
-- wasn't read
abbrev pub ReadsLine : List ℕ → Result Ended LineFault → List ℕ → List ℕ → Type 0
ReadsLine l (Ok Line) t x = t ≡ l ++ 10 ∷ x
ReadsLine l (Ok Last) t x = (t ≡ l) × (x ≡ [])
ReadsLine l (Err faults.Failed) t x = t ≡ l ++ x
ReadsLine l (Err faults.TooLong) t x = (b : ℕ) × (b ≢ 10) × (t ≡ l ++ b ∷ x)
ReadsLine l (Err faults.TooMuch) t x = (b : ℕ) × (t ≡ l ++ b ∷ x)

-- how many bytes l has, if the line with its end may take `room` bytes
abbrev pub IsLineFor : ℕ → List ℕ → Result Ended LineFault → Type 0
IsLineFor room l (Ok Line) = length l < room
IsLineFor room l (Ok Last) = length l ≤ room
IsLineFor room l (Err faults.Failed) = length l ≤ room
IsLineFor room l (Err faults.TooLong) = (length l ≡ 256) × (256 < room)
IsLineFor room l (Err faults.TooMuch) = length l ≡ room

-- no line was read, because a read failed
abbrev pub is_failed_read : Result Ended LineFault → Bool
is_failed_read (Err faults.Failed) = true
is_failed_read _ = false
