use Rattle.disk_jobs.specs.Reports.{account_of}
use Rattle.disk_service.proofs.Runs.{report-written}
use Rattle.disk_service.proofs.running.run_watched.Goals as goal

pub returns-clause-served : goal.returns-clause-served
returns-clause-served g c =
    report-written _ _ _ _ _ (account_of c.in_ok-report.report) _ c.in_ok-jobs.ensures.known
    c.in_ok-report.ensures.report
    c.write_report_watched.ensures.ok c.write_report_watched.ensures.err c.write_report_watched.ensures.fault
