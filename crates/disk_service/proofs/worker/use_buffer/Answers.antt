use Rattle.std.proofs.Common.{arith, refl}
use Rattle.disk_service.specs.Sleeps.{never}
use Rattle.disk_service.proofs.EachJob.{for-none, for-fewer, one-at-most}
use Rattle.disk_service.proofs.Borrowing.{borrowed-once, borrowed-in_vain, back-unless_err}
use Rattle.disk_service.proofs.JobsDone.{lent-once, if-some}
use Rattle.disk_service.proofs.worker.use_buffer.Goals as goal

pub returns-in_default-clause-sleeps : goal.returns-in_default-clause-sleeps
returns-in_default-clause-sleeps g c = for-none _ _ 0 0 never (omega arith)

pub returns-in_default-clause-borrows : goal.returns-in_default-clause-borrows
returns-in_default-clause-borrows g c =
    borrowed-in_vain _ _ _ _ c.in_default.field-0 (rw c.in_default.is at c.take-at_pool.ensures.trace)

pub returns-then-is_err-clause-sleeps : goal.returns-then-is_err-clause-sleeps
returns-then-is_err-clause-sleeps g c =
    for-fewer _ _ _ _ 0 _ 0 0 c.use_drive-at_head.ensures.sleeps refl (omega arith)

pub returns-then-is_err-clause-borrows : goal.returns-then-is_err-clause-borrows
returns-then-is_err-clause-borrows g c =
    let trace = rw c.take-at_pool.ensures.place at c.give-at_pool.ensures.trace in
    borrowed-once _ _ _ _ _ _ _ 0 (rw c.in-Ok.is at c.take-at_pool.ensures.trace) trace (omega arith)

pub returns-clause-borrows : goal.returns-clause-borrows
returns-clause-borrows g c =
    let trace = rw c.take-at_pool.ensures.place at c.give-at_pool.ensures.trace in
    let back = back-unless_err _ _ c.is_err.ensures.value c.if-is_err.false in
    let most = one-at-most c.use_drive-at_head.result.1 in
    borrowed-once _ _ _ _ _ _ _ _ (rw c.in-Ok.is at c.take-at_pool.ensures.trace) trace (omega arith)

pub returns-clause-pool_once : goal.returns-clause-pool_once
returns-clause-pool_once g c =
    let gives = rw c.take-at_pool.ensures.place at c.give-at_pool.ensures.trace in
    if-some _ _ (lent-once _ _ _ _ _ _ _ _ (rw c.in-Ok.is at c.take-at_pool.ensures.trace) gives
    c.is_err.ensures.value c.if-is_err.false)
