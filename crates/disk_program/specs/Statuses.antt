-- The exit status of the program.
use Rattle.std.specs.Prelude.{ℕ, Result, Ok, Err}
use Rattle.disk_jobs.specs.Faults.{status_of}
use Rattle.disk_program.specs.declared.no_report.NoReport.{NoReport}
use Rattle.disk_program.specs.declared.no_report.NoReport.TheVariants.{Usage, Fault}

-- 2 if the arguments are at fault, else the status of the fault
abbrev pub status_without_report : NoReport → ℕ
status_without_report Usage = 2
status_without_report (Fault f) = status_of f

-- 0 if there is a report, else the status without one
abbrev pub status_after : Result (Unit {0}) NoReport → ℕ
status_after (Ok u) = 0
status_after (Err end) = status_without_report end
