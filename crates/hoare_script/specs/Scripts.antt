-- The answers to a script, line by line, by the history that its commands make.
use Rattle.std.specs.Prelude.{ℕ, ◌+◌, ◌==◌, nat_lt, Bool, if◌then◌else◌, List, [], ◌∷◌, ◌++◌, length, take, Option}
use Rattle.std.specs.Prelude.{Some, None, Result, Ok, Err}
use Rattle.std.specs.List.{slice_split}
use Rattle.hoare_law.specs.declared.event.History.{History}
use Rattle.hoare_law.specs.Events.{opened}
use Rattle.line_text.specs.Line.{is_newline}
use Rattle.wait_book.specs.declared.steps.MakeRefused.{MakeRefused}
use Rattle.wait_book.specs.Contents.{make_refusal}
use Rattle.hoare_script.specs.declared.fault.ScriptFault.{ScriptFault}
use Rattle.hoare_script.specs.declared.fault.ScriptFault.TheVariants as faults
use Rattle.hoare_script.specs.declared.lines.Header.{Header}
use Rattle.hoare_script.specs.declared.lines.Command.{Command}
use Rattle.hoare_script.specs.Lines.{command_of, header_of, sizes_in}
use Rattle.hoare_script.specs.Answers.{answer_line, answer_to, history_after}

-- the state of a script: before its header, or after a history
pub data State : Type 0 where
  Start : State
  Running : (history : History (Unit {0})) → State

-- what one line writes, and the state of the script after it; or its fault
abbrev pub Outcome : Type 0
Outcome = Result (List ℕ × State) ScriptFault

abbrev pub opened_by : ℕ → Header → Option MakeRefused → Outcome
opened_by i h None = Ok ([], Running (opened (sizes_in h) tt))
opened_by i h (Some r) = Err (faults.BadHeader i)

abbrev pub header_line : ℕ → Option Header → Outcome
header_line i None = Err (faults.BadHeader i)
header_line i (Some h) = opened_by i h (make_refusal (sizes_in h))

abbrev pub command_line : History (Unit {0}) → ℕ → List ℕ → Option Command → Outcome
command_line h i line None = Err (faults.BadLine i)
command_line h i line (Some c) = Ok (answer_line line (answer_to h c), Running (history_after h c))

-- the outcome of line i
unfoldable pub one_line : State → ℕ → List ℕ → Outcome
one_line Start i line = header_line i (header_of line)
one_line (Running h) i line = command_line h i line (command_of line)

-- what a script writes, and the fault that ends it, if there is one
pub record Output : Type 0 where
  pub written : List ℕ
  pub fault : Option ScriptFault

abbrev pub stop : ScriptFault → Output
stop f = record { written = []; fault = Some f }

abbrev pub done : Output
done = record { written = []; fault = None }

abbrev pub prepend : List ℕ → Output → Output
prepend w t = record { written = w ++ t.written; fault = t.fault }

abbrev pub then_on : Outcome → (State → Output) → Output
then_on (Err f) go = stop f
then_on (Ok w) go = prepend w.0 (go w.1)

-- what a script writes for the bytes after the last whole line, and its fault; these bytes are line i
abbrev pub Ending : Type 0
Ending = State → ℕ → List ℕ → Output

-- the input ends after these bytes
abbrev pub at_end : Ending
at_end s i [] = if i == 1 then stop faults.NoHeader else done
at_end s i (b ∷ bs) = then_on (one_line s i (b ∷ bs)) (λ _. done)

-- a read fails after these bytes
abbrev pub at_cut : Ending
at_cut s i last = stop faults.ReadFault

-- whole lines, and the bytes after them; over is true if there are bytes past the limit
abbrev pub output_of_lines : Ending → Bool → State → ℕ → List (List ℕ) → Output
output_of_lines e over s i [] = done
output_of_lines e over s i (last ∷ []) =
    if nat_lt 256 (length last) then stop (faults.LineTooLong i)
    else (if over then stop faults.TooMuch else e s i last)
output_of_lines e over s i (line ∷ next ∷ lines) =
    if nat_lt 256 (length line) then stop (faults.LineTooLong i)
    else then_on (one_line s i line) (λ t. output_of_lines e over t (i + 1) (next ∷ lines))

-- from line i on, with room for this number of bytes
unfoldable pub output_from : Ending → State → ℕ → ℕ → List ℕ → Output
output_from e s i room text =
    output_of_lines e (nat_lt room (length text)) s i (slice_split is_newline (take room text))

-- what a script writes, and its fault
abbrev pub output : Ending → List ℕ → Output
output e text = output_from e Start 1 1048576 text
