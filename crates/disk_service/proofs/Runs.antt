-- What a run did, once its report was written, or a prefix of it.
use Rattle.std.proofs.Common.{ℕ, ◌≡◌, List, Option, Some, None, Result, Ok, Err, subst}
use Rattle.std.specs.Prelude.{IfErr, OnErr, OnOk}
use Rattle.std.specs.Io.KnownBytes.{Appends}
use Rattle.line_text.specs.Streams.{AppendsPrefix, Reads}
use Rattle.disk_jobs.specs.declared.fault.ServiceFault.{ServiceFault}
use Rattle.disk_jobs.specs.declared.fault.ServiceFault.TheVariants as faults
use Rattle.disk_jobs.specs.JobLists.{JobList}
use Rattle.disk_jobs.specs.Readings.{Gives}
use Rattle.disk_jobs.specs.Reports.{report_text}
use Rattle.disk_jobs.specs.Services.{Account, service}
use Rattle.disk_service.specs.Runs.{Serves}

-- the jobs were read and served, and the report was written, or a prefix of it
pub report-written : (before after old new : Option (List ℕ)) (j : JobList) (a : Account)
    (r : Result (Unit {0}) ServiceFault) → Reads before after (λ text left. Gives text left (Ok j))
    → a ≡ service j.cylinders → OnOk r (Appends old new (report_text a))
    → OnErr r (AppendsPrefix old new (report_text a)) → IfErr r (λ f. f ≡ faults.WriteFault)
    → Reads before after (λ text left. Serves text left old new r)
report-written None after old new j a r read served ok err fault = tt
report-written (Some text) None old new j a r read served ok err fault = read
report-written (Some text) (Some left) old new j a (Ok u) read served ok err fault =
    (j, read.0, read.1, subst (λ (x : Account). Appends old new (report_text x)) served ok)
report-written (Some text) (Some left) old new j a (Err f) read served ok err fault =
    rw fault (j, read.0, read.1, subst (λ (x : Account). AppendsPrefix old new (report_text x)) served err)
