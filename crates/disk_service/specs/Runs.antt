-- What a run reads of a text, and what it writes.
use Rattle.std.specs.Prelude.{ℕ, ◌≡◌, ◌⊎◌, List, [], Option, Result, Ok, Err}
use Rattle.std.specs.Io.KnownBytes.{Appends}
use Rattle.line_text.specs.Streams.{AppendsPrefix}
use Rattle.disk_jobs.specs.declared.fault.ServiceFault.{ServiceFault}
use Rattle.disk_jobs.specs.declared.fault.ServiceFault.TheVariants as faults
use Rattle.disk_jobs.specs.JobLists.{JobList}
use Rattle.disk_jobs.specs.JobTexts.{jobs_of}
use Rattle.disk_jobs.specs.Readings.{EndsInJob, Gives}
use Rattle.disk_jobs.specs.Reports.{report_text}
use Rattle.disk_jobs.specs.Services.{service}

-- the text spells jobs, and was read to its end
abbrev pub Spells : List ℕ → List ℕ → Type 0
Spells text left = (j : JobList) × (jobs_of text ≡ Ok j) × (left ≡ [])

-- the text spells jobs and was read to its end, and P holds of the report of their service
abbrev pub Reported : List ℕ → List ℕ → (List ℕ → Type 0) → Type 0
Reported text left P = (j : JobList) × (jobs_of text ≡ Ok j) × (left ≡ []) × P (report_text (service j.cylinders))

-- what the run read of the text, of which `left` is left, and how its output grew, by its result
abbrev pub Serves : List ℕ → List ℕ → Option (List ℕ) → Option (List ℕ) → Result (Unit {0}) ServiceFault → Type 0
-- the report is written
Serves text left old new (Ok u) = Reported text left (λ report. Appends old new report)
-- a prefix of the report is written, and not all
Serves text left old new (Err faults.WriteFault) = Reported text left (λ report. AppendsPrefix old new report)
-- nothing is written, as there was no memory for a job or for the service of the jobs
Serves text left old new (Err faults.Memory) = (EndsInJob text left ⊎ Spells text left) × (new ≡ old)
-- nothing is written, though the text spells jobs
Serves text left old new (Err faults.Spawn) = Spells text left × (new ≡ old)
Serves text left old new (Err faults.Torn) = Spells text left × (new ≡ old)
-- nothing is written, and the fault is one of the text or of the reader
Serves text left old new (Err (faults.BadLine i)) = Gives text left (Err (faults.BadLine i)) × (new ≡ old)
Serves text left old new (Err faults.NoHeader) = Gives text left (Err faults.NoHeader) × (new ≡ old)
Serves text left old new (Err faults.ReadFault) = Gives text left (Err faults.ReadFault) × (new ≡ old)
