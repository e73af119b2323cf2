use Rattle.std.proofs.Common.{◌∙◌, refl, ap, arith}
use Rattle.std.proofs.lemmas.Bool.{iff_false}
use Rattle.hoare_law.proofs.Growth.{Finishes-exit}
use Rattle.cookbook.specs.WorkTraces.{at_once, waited}
use Rattle.cookbook.proofs.Traces.{waits-as}
use Rattle.cookbook.proofs.WorkQueues.{Broadcasts-as, IsOver-shut, nobody_waits}
use Rattle.cookbook.proofs.work_queue.WorkQueue.shut_down.Goals as goal
use Rattle.cookbook.proofs.work_queue.WorkQueue.shut_down.Goals.{then-has_workers, else-has_workers}

pub returns-clause-trace : goal.returns-clause-trace
returns-clause-trace g c =
    let entered = g.met.M.Monitor.keeps_place _ _ ∙ c.enter-inside.ensures.place in
    let closed = g.met.M.Monitor.takes_data _ _ ∙ (rw c.state_mut.ensures.value at c.close.ensures) in
    let told = Broadcasts-as c.broadcast.ensures.front entered closed (g.met.M.Monitor.keeps_front _ _) in
    let place = c.broadcast.ensures.place ∙ entered in
    let state = c.broadcast.ensures.data ∙ closed in
    elim c.if-has_workers.branch [
      | then-has_workers w ↦
          let ready = w.wait-inside.ensures.ready (omega arith) in
          waited _ _ _ _ _ c.enter-inside.ensures.front told
          (rw state at (rw c.state.ensures at (c.has_workers.ensures.0 w.if-has_workers.true)))
          (waits-as w.wait-inside.ensures.front place refl state refl) ready.over
          (nobody_waits _ 1 _ (g.met.M.Monitor.lists_are _ _ w.wait-inside.ensures.of) ready.sent_home)
          (Finishes-exit c.signal_leave-out.ensures.front
          (ap g.M.Monitor.place_in w.inside-is ∙ (w.wait-inside.ensures.place ∙ place))
          (ap g.M.Monitor.data_in w.inside-is) (ap g.M.Monitor.front_in w.inside-is))
      | else-has_workers w ↦
          let gone = rw state at (rw c.state.ensures at (iff_false c.has_workers.ensures w.if-has_workers.false)) in
          at_once _ _ _ c.enter-inside.ensures.front told
          (IsOver-shut _ (c.enter-inside.ensures.rest.inv.done (omega (arith, gone))))
          (nobody_waits _ 1 _ (g.met.M.Monitor.lists_are _ _ c.broadcast.ensures.of)
          (rw c.broadcast.ensures.lists refl))
          (Finishes-exit c.signal_leave-out.ensures.front (ap g.M.Monitor.place_in w.inside-is ∙ place)
          (ap g.M.Monitor.data_in w.inside-is ∙ state) (ap g.M.Monitor.front_in w.inside-is))
    ]
