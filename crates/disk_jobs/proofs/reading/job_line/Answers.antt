use Rattle.std.proofs.Common.{[], ◌∷◌, length-append, sym, ◌∙◌, arith}
use Rattle.disk_jobs.specs.JobLists.{with_job}
use Rattle.disk_jobs.proofs.Limits.{job_line-good}
use Rattle.disk_jobs.proofs.reading.job_line.Goals as goal

pub returns-in-Err-clause-answer : goal.returns-in-Err-clause-answer
returns-in-Err-clause-answer c = (
  with_job c.args.jobs.now c.in-Some.cylinder,
  job_line-good c.args.jobs.now c.args.number c.in-Some.cylinder _ (sym c.one_number.ensures ∙ c.in-Some.is)
      (omega (arith, c.cylmax.ensures, c.from.ensures, c.if-cylinder-from.false))
      (omega (arith, c.len.ensures.value, c.if-len-ge-MOST_JOBS.false)),
  omega (arith, length-append c.args.jobs.now.cylinders (c.in-Some.cylinder ∷ [])),
)
