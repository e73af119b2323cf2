use Rattle.std.proofs.Common.{ap, sym, ◌∙◌, add-one, drop, arith}
use Rattle.disk_jobs.specs.JobLists.{off_disk}
use Rattle.disk_jobs.proofs.OffDisk.{off_disk-here, off_disk-later, off_disk-none}
use Rattle.disk_jobs.proofs.jobs.off_disk.Goals as goal

pub returns-then-cylinder-cylmax : goal.returns-then-cylinder-cylmax
returns-then-cylinder-cylmax c =
    sym
    (c.loop-i.invariant ∙ off_disk-here c.args.cylmax c.loop-i.i c.args.cylinders.now c.loop-i.i (omega arith)
    (omega arith))

pub returns : goal.returns
returns c =
    sym (c.loop-i.invariant ∙ off_disk-none c.args.cylmax c.loop-i.i c.args.cylinders.now c.loop-i.i (omega arith))

pub loop-i-preserved : goal.loop-i-preserved
loop-i-preserved c =
    c.loop-i.invariant
    ∙ off_disk-later c.args.cylmax c.loop-i.i c.args.cylinders.now c.loop-i.i (omega arith) (omega arith)
    ∙ ap (λ n. off_disk c.args.cylmax n (drop n c.args.cylinders.now)) (sym (add-one c.loop-i.i))
