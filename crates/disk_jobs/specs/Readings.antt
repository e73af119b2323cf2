-- What reading a job file returns, and what it leaves of the text.
use Rattle.std.specs.Prelude.{ℕ, ◌≡◌, ◌<◌, ◌⊎◌, ◌+◌, ◌-◌, List, [], ◌++◌, length, drop, Option, Some, None, Result, Ok}
use Rattle.std.specs.Prelude.{Err}
use Rattle.line_text.specs.Line.{after_lines}
use Rattle.disk_jobs.specs.declared.fault.ServiceFault.{ServiceFault}
use Rattle.disk_jobs.specs.declared.fault.ServiceFault.TheVariants as faults
use Rattle.disk_jobs.specs.JobLists.{JobList}
use Rattle.disk_jobs.specs.JobTexts.{Outcome, jobs_of, outcome, at_cut}

-- what was read is a beginning of the text with no fault but that it breaks off
abbrev pub BreaksOff : List ℕ → List ℕ → Type 0
BreaksOff text left =
    (read : List ℕ) × (text ≡ read ++ left) × (outcome at_cut read ≡ Err faults.ReadFault)

-- what was read is a good header and at least one good job, and ends with the line of the last job
abbrev pub EndsInJob : List ℕ → List ℕ → Type 0
EndsInJob text left =
    (read : List ℕ) × (j : JobList) × (text ≡ read ++ left) × (jobs_of read ≡ Ok j)
    × (0 < length j.cylinders) × (left ≡ after_lines (length j.cylinders + 1) text)

-- what was read ends with line i and its end, or with byte 257 of line i
abbrev pub BehindLine : ℕ → List ℕ → List ℕ → Type 0
BehindLine i text left =
    (left ≡ after_lines i text) ⊎ (left ≡ drop (257) (after_lines (i - 1) text))

-- what reading may return of a text, if it leaves `left` of it
abbrev pub Gives : List ℕ → List ℕ → Outcome → Type 0
Gives text left (Ok j) = (jobs_of text ≡ Ok j) × (left ≡ [])
Gives text left (Err faults.NoHeader) = (jobs_of text ≡ Err faults.NoHeader) × (left ≡ [])
Gives text left (Err (faults.BadLine i)) =
    (jobs_of text ≡ Err (faults.BadLine i)) × BehindLine i text left
Gives text left (Err faults.ReadFault) = BreaksOff text left
-- the last line that was read is a good job, as are those before it, and there is no memory for it
Gives text left (Err faults.Memory) = EndsInJob text left
Gives text left (Err faults.Spawn) = ⊥
Gives text left (Err faults.Torn) = ⊥
Gives text left (Err faults.WriteFault) = ⊥

-- the jobs, if all their lines were read, or else the fault
abbrev pub shown : Result (Unit {0}) ServiceFault → Option JobList → Outcome
shown (Err f) s = Err f
shown (Ok u) None = Err faults.NoHeader
shown (Ok u) (Some j) = Ok j

-- what reading may return of a text, if it leaves `left` of it, given the jobs and how reading their lines ended
abbrev pub GivesTo : List ℕ → List ℕ → Option JobList → Result (Unit {0}) ServiceFault → Type 0
GivesTo text left s r = Gives text left (shown r s)

-- how many lines the jobs come from, the header included
abbrev pub lines_of : Option JobList → ℕ
lines_of None = 0
lines_of (Some j) = length j.cylinders + 1

-- what reading line i may do, if `out` is what the line spells: it leaves these jobs, or returns a fault
abbrev pub Follows : Outcome → ℕ → Option JobList → Result (Unit {0}) ServiceFault → Type 0
Follows out i None (Ok u) = ⊥
Follows out i (Some j) (Ok u) = out ≡ Ok j
-- the line is a good job, and there is no memory for it
Follows out i s (Err faults.Memory) = (j : JobList) × (out ≡ Ok j) × (0 < length j.cylinders)
Follows out i s (Err (faults.BadLine n)) = (n ≡ i) × (out ≡ Err (faults.BadLine i))
Follows out i s (Err faults.NoHeader) = ⊥
Follows out i s (Err faults.Spawn) = ⊥
Follows out i s (Err faults.Torn) = ⊥
Follows out i s (Err faults.ReadFault) = ⊥
Follows out i s (Err faults.WriteFault) = ⊥
