use Rattle.std.proofs.Common.{◌∙◌, arith}
use Rattle.std.proofs.lemmas.Bool.{iff_false}
use Rattle.hoare_law.proofs.Growth.{leaves-as, Finishes-exit}
use Rattle.cookbook.specs.WorkTraces.{took, went, went_last}
use Rattle.cookbook.proofs.WorkQueues.{shut_where_busy}
use Rattle.cookbook.proofs.work_queue.WorkQueue.take.Goals as goal

pub returns-then-has_jobs-clause-trace : goal.returns-then-has_jobs-clause-trace
returns-then-has_jobs-clause-trace g c =
    took _ _ _ _ c.come_to_work-inside.ensures.comes (rw c.state_mut.ensures.value at c.pop-job.ensures.oldest)
    (leaves-as c.leave.ensures.front (g.met.M.Monitor.keeps_place _ _ ∙ c.come_to_work-inside.ensures.place)
    (g.met.M.Monitor.takes_data _ _ ∙ (rw c.state_mut.ensures.value at c.pop-job.ensures.others))
    (g.met.M.Monitor.keeps_front _ _))

pub returns-then-has_workers-clause-trace : goal.returns-then-has_workers-clause-trace
returns-then-has_workers-clause-trace g c =
    let place = g.met.M.Monitor.keeps_place _ _ ∙ c.come_to_work-inside.ensures.place in
    let state =
    g.met.M.Monitor.takes_data c.come_to_work-inside.result _ ∙ (rw c.state_mut-2.ensures.value at c.go.ensures) in
    let some = rw c.state.ensures at (iff_false c.has_jobs.ensures c.if-has_jobs.false) in
    let others = rw state at (rw c.state-2.ensures at (c.has_workers.ensures.0 c.if-has_workers.true)) in
    went _ _ c.come_to_work-inside.ensures.comes (omega (arith, some))
    (shut_where_busy _ c.come_to_work-inside.ensures.not_idle (omega (arith, some)))
    (omega (arith, others))
    (leaves-as c.leave-then-has_workers.ensures.front place state (g.met.M.Monitor.keeps_front _ _))

pub returns-clause-trace : goal.returns-clause-trace
returns-clause-trace g c =
    let place = g.met.M.Monitor.keeps_place _ _ ∙ c.come_to_work-inside.ensures.place in
    let state =
    g.met.M.Monitor.takes_data c.come_to_work-inside.result _ ∙ (rw c.state_mut-2.ensures.value at c.go.ensures) in
    let some = rw c.state.ensures at (iff_false c.has_jobs.ensures c.if-has_jobs.false) in
    let others = rw state at (rw c.state-2.ensures at (iff_false c.has_workers.ensures c.if-has_workers.false)) in
    went_last _ _ c.come_to_work-inside.ensures.comes (omega (arith, some))
    (shut_where_busy _ c.come_to_work-inside.ensures.not_idle (omega (arith, some)))
    (omega (arith, others))
    (Finishes-exit c.signal_leave-out.ensures.front place state (g.met.M.Monitor.keeps_front _ _))
