-- What a job file spells: its jobs, or its earliest fault.
use Rattle.std.specs.Prelude.{ℕ, ◌+◌, nat_lt, nat_le, ◌&&◌, if◌then◌else◌, List, [], ◌∷◌, length, Option, Some, None}
use Rattle.std.specs.Prelude.{Result, Ok, Err, codes}
use Rattle.std.specs.List.{slice_split}
use Rattle.line_text.specs.Forms.{one_number, two_numbers}
use Rattle.line_text.specs.Line.{is_newline}
use Rattle.disk_jobs.specs.declared.fault.ServiceFault.{ServiceFault}
use Rattle.disk_jobs.specs.declared.fault.ServiceFault.TheVariants.{BadLine, NoHeader, ReadFault}
use Rattle.disk_jobs.specs.JobLists.{JobList, job_list, with_job}

-- the jobs so far, or a fault
abbrev pub Outcome : Type 0
Outcome = Result JobList ServiceFault

-- the jobs by line i, which has to be `disk M W`; its two numbers are given, if it has this form
abbrev pub header_line : ℕ → Option (ℕ × ℕ) → Outcome
header_line i None = Err (BadLine i)
header_line i (Some n) =
    if nat_le n.0 65535 && (nat_lt 0 n.1 && nat_le n.1 16) then Ok (job_list n.0 n.1 [])
    else Err (BadLine i)

-- the jobs by line i, which has to be `read C`; its number is given, if it has this form
abbrev pub job_line : JobList → ℕ → Option ℕ → Outcome
job_line j i None = Err (BadLine i)
job_line j i (Some c) =
    if nat_le c j.cylmax && nat_lt (length j.cylinders) 4096 then Ok (with_job j c)
    else Err (BadLine i)

-- the jobs by line i: it is the header if there are no jobs yet, else a job
unfoldable pub one_line : Option JobList → ℕ → List ℕ → Outcome
one_line None i line = header_line i (two_numbers (codes "disk") line)
one_line (Some j) i line = job_line j i (one_number (codes "read") line)

-- continues with the jobs, or keeps the fault
abbrev pub then_on : Outcome → (JobList → Outcome) → Outcome
then_on (Err f) go = Err f
then_on (Ok j) go = go j

-- what becomes of the bytes after the last whole line; they are line i
abbrev pub Ending : Type 0
Ending = Option JobList → ℕ → List ℕ → Outcome

-- the input ends after these bytes
abbrev pub at_end : Ending
at_end None i [] = Err NoHeader
at_end (Some j) i [] = Ok j
at_end s i (b ∷ bs) = one_line s i (b ∷ bs)

-- a read fails after these bytes
abbrev pub at_cut : Ending
at_cut s i last = Err ReadFault

-- what the lines from number i on spell; the last is what follows the last whole line, and e says what becomes of it
abbrev pub outcome_of_lines : Ending → Option JobList → ℕ → List (List ℕ) → Outcome
outcome_of_lines e s i [] = Err NoHeader
outcome_of_lines e s i (last ∷ []) =
    if nat_lt 256 (length last) then Err (BadLine i) else e s i last
outcome_of_lines e s i (line ∷ next ∷ lines) =
    if nat_lt 256 (length line) then Err (BadLine i)
    else then_on (one_line s i line) (λ j. outcome_of_lines e (Some j) (i + 1) (next ∷ lines))

-- what a text spells if it begins with line i
unfoldable pub outcome_from : Ending → Option JobList → ℕ → List ℕ → Outcome
outcome_from e s i text = outcome_of_lines e s i (slice_split is_newline text)

-- what a text spells if e says what becomes of the bytes after its last whole line
abbrev pub outcome : Ending → List ℕ → Outcome
outcome e text = outcome_from e None 1 text

-- the jobs that a text spells, or its earliest fault
abbrev pub jobs_of : List ℕ → Outcome
jobs_of text = outcome at_end text
