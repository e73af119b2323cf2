use Rattle.std.proofs.Common.{ap, arith, refl}
use Rattle.disk_jobs.specs.Services.{Served}
use Rattle.disk_service.specs.Sleeps.{never}
use Rattle.disk_service.specs.Borrows.{not_once}
use Rattle.disk_service.proofs.EachJob.{for-none, for-fewer}
use Rattle.disk_service.proofs.worker.do_listed_job.Goals as goal

pub returns-in_default-clause-sleeps : goal.returns-in_default-clause-sleeps
returns-in_default-clause-sleeps g c = for-none _ _ _ _ never (omega arith)

pub returns-in_default-clause-borrows : goal.returns-in_default-clause-borrows
returns-in_default-clause-borrows g c = for-none _ _ _ _ not_once (omega arith)

pub returns-clause-sleeps : goal.returns-clause-sleeps
returns-clause-sleeps g c =
    for-fewer _ _ _ _ 0 _ _ _ c.serve_job-own.ensures.sleeps refl (omega (arith, c.keep-did.ensures.length))

pub returns-clause-borrows : goal.returns-clause-borrows
returns-clause-borrows g c =
    for-fewer _ _ _ _ 0 _ _ _ c.serve_job-own.ensures.borrows refl (omega (arith, c.keep-did.ensures.length))

pub returns-clause-does : goal.returns-clause-does
returns-clause-does g c = λ did.
    let kept = c.keep-did.ensures.kept did in
    let job = rw kept.1 at c.serve_job-own.ensures.job in
    record {
      job = kept.0;
      number = ap (λ (d : Served). d.job) job;
      does = rw kept.1 at c.serve_job-own.ensures.does;
      after_are = kept.2;
    }
