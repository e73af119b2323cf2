use Rattle.std.proofs.Common.{sym, ◌∙◌, ap, List, ℕ}
use Rattle.disk_jobs.specs.JobLists.{job_list, refusal_of}
use Rattle.disk_jobs.proofs.Limits.{refusal_of-none}
use Rattle.disk_jobs.proofs.jobs.Jobs.make.Goals as goal

pub invariant_of-result : goal.invariant_of-result
invariant_of-result c =
    refusal_of-none (job_list c.args.cylmax c.args.workers c.args.cylinders.items)
    (ap (λ (v : List ℕ). refusal_of (job_list c.args.cylmax c.args.workers v)) (sym c.as_slice.ensures.value)
    ∙ sym c.in-None.ensures)
