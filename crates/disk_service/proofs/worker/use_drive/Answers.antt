use Rattle.std.proofs.Common.{arith}
use Rattle.disk_service.specs.Sleeps.{never}
use Rattle.disk_service.proofs.EachJob.{for-none}
use Rattle.disk_service.proofs.JobsDone.{used-once}
use Rattle.disk_service.proofs.Sleeping.{asleep-once}
use Rattle.disk_service.proofs.worker.use_drive.Goals as goal

pub returns-in_default-clause-sleeps : goal.returns-in_default-clause-sleeps
returns-in_default-clause-sleeps g c = for-none _ _ 0 0 never (omega arith)

pub returns-in_default-woke-clause-sleeps : goal.returns-in_default-woke-clause-sleeps
returns-in_default-woke-clause-sleeps g c = asleep-once _ _ _ _ 0 c.wakeme-at_clock.ensures.trace (omega arith)

pub returns-then-is_err-clause-sleeps : goal.returns-then-is_err-clause-sleeps
returns-then-is_err-clause-sleeps g c = asleep-once _ _ _ _ 0 c.wakeme-at_clock.ensures.trace (omega arith)

pub returns-clause-sleeps : goal.returns-clause-sleeps
returns-clause-sleeps g c =
    asleep-once _ _ _ _ 1 (rw c.in-Ok-woke.is at c.wakeme-at_clock.ensures.trace) (omega arith)

pub returns-clause-head_once : goal.returns-clause-head_once
returns-clause-head_once g c =
    let releases = rw c.request-at_head.ensures.place at c.release-at_head.ensures.trace in
    used-once _ _ _ _ _ _ _ _ (rw c.in-Ok.is at c.request-at_head.ensures.trace) releases c.is_err.ensures.value
    c.if-is_err.false

pub returns-clause-clock_once : goal.returns-clause-clock_once
returns-clause-clock_once g c = record {
  time = c.in-Ok-woke._time;
  wakes = rw c.in-Ok-woke.is at c.wakeme-at_clock.ensures.trace;
}
