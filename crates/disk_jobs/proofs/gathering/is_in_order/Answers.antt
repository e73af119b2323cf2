use Rattle.std.proofs.Common.{refl, arith}
use Rattle.disk_jobs.proofs.Gathered.{length-differs, differs-at, same_at_each}
use Rattle.disk_jobs.proofs.gathering.is_in_order.Goals as goal
use Rattle.disk_jobs.proofs.gathering.is_in_order.Goals.{then-job-i-via-then-job-i}
use Rattle.disk_jobs.proofs.gathering.is_in_order.Goals.{then-job-i-via-else-job-i+then-cylinder-cylinders}

pub returns-then-lines-cylinders : goal.returns-then-lines-cylinders
returns-then-lines-cylinders c = length-differs c.args.cylinders.now c.args.lines.now c.if-lines-cylinders.true

pub returns-then-job-i : goal.returns-then-job-i
returns-then-job-i c =
    let cs = c.args.cylinders.now in
    let lines = c.args.lines.now in
    let i = c.loop-i.i in
    elim c.then-job-i.branch [
      | then-job-i-via-then-job-i w ↦ (
        (λ f. cc),
        differs-at cs lines i c.index-lines-i.result c.if-lines-cylinders.false c.loop-i-test.true c.index-lines-i.is
            (λ j k. absurd (omega (arith, c.job.ensures, w.if-job-i.true, j))),
      )
      | then-job-i-via-else-job-i+then-cylinder-cylinders w ↦ (
        (λ f. cc),
        differs-at cs lines i w.index-lines-i-else-job-i.result c.if-lines-cylinders.false c.loop-i-test.true
            w.index-lines-i-else-job-i.is
            (λ j k. absurd (omega (arith, w.cylinder.ensures, w.if-cylinder-cylinders.true, k))),
      )
    ]

pub returns : goal.returns
returns c = (
  (λ t. same_at_each c.args.cylinders.now c.args.lines.now c.if-lines-cylinders.false
      (λ k d l. c.loop-i.invariant.each k d (omega arith))),
  (λ e. refl),
)
