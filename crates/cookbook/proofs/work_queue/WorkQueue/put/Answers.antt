use Rattle.std.proofs.Common.{◌∙◌, refl, arith}
use Rattle.std.proofs.lemmas.Bool.{iff_false}
use Rattle.hoare_law.proofs.Growth.{leaves-as}
use Rattle.cookbook.specs.WorkTraces.{put, was_shut, was_full}
use Rattle.cookbook.proofs.WorkQueues.{is_open, Notifies-as}
use Rattle.cookbook.proofs.work_queue.WorkQueue.put.Goals as goal

pub returns-then-is_closed-clause-trace : goal.returns-then-is_closed-clause-trace
returns-then-is_closed-clause-trace g c =
    was_shut _ _ c.enter-inside.ensures.front (rw c.state.ensures at (c.is_closed.ensures.0 c.if-is_closed.true))
    (leaves-as c.leave.ensures.front c.enter-inside.ensures.place refl refl)

pub returns-then-is_full-clause-trace : goal.returns-then-is_full-clause-trace
returns-then-is_full-clause-trace g c =
    was_full _ _ c.enter-inside.ensures.front
    (is_open _ (rw c.state.ensures at (iff_false c.is_closed.ensures c.if-is_closed.false)))
    (rw c.state-2.ensures at (c.is_full.ensures.0 c.if-is_full.true))
    (leaves-as c.leave-then-is_full.ensures.front c.enter-inside.ensures.place refl refl)

pub returns-clause-trace : goal.returns-clause-trace
returns-clause-trace g c =
    let place = g.met.M.Monitor.keeps_place _ _ ∙ c.enter-inside.ensures.place in
    let state = g.met.M.Monitor.takes_data _ _ ∙ (rw c.state_mut.ensures.value at c.push.ensures) in
    let room = rw c.state-2.ensures at (iff_false c.is_full.ensures c.if-is_full.false) in
    put _ _ _ _ c.enter-inside.ensures.front
    (is_open _ (rw c.state.ensures at (iff_false c.is_closed.ensures c.if-is_closed.false)))
    (omega (arith, c.enter-inside.ensures.rest.inv.within, room))
    (Notifies-as c.notify.ensures.front place state (g.met.M.Monitor.keeps_front _ _))
    (leaves-as c.leave-2.ensures.front (c.notify.ensures.place ∙ place) (c.notify.ensures.data ∙ state) refl)
