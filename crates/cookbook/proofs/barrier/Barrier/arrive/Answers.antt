use Rattle.std.proofs.Common.{◌≡◌, arith, ap, ◌∙◌}
use Rattle.std.proofs.lemmas.Bool.{iff_false}
use Rattle.hoare_law.proofs.Growth.{Finishes-exit}
use Rattle.cookbook.specs.Barriers.{next}
use Rattle.cookbook.specs.BarrierTraces.{came_last, waited}
use Rattle.cookbook.proofs.Traces.{waits-as}
use Rattle.cookbook.proofs.Barriers.{BarrierRests-come, BarrierReady-opened, BarrierReady-gone}
use Rattle.cookbook.proofs.barrier.Barrier.arrive.Goals as goal

pub signal_leave-out-requires-clause-ready : goal.signal_leave-out-requires-clause-ready
signal_leave-out-requires-clause-ready g c = BarrierReady-opened c.enter-inside.ensures.rest
    (g.met.M.Monitor.takes_data _ _ ∙ (rw c.state_mut.ensures.value at c.open.ensures))
    (ap (λ lists. lists 0) (g.met.M.Monitor.keeps_lists _ _))

pub returns-then-lacks_one-clause-trace : goal.returns-then-lacks_one-clause-trace
returns-then-lacks_one-clause-trace g c =
    let told : c.generation-generation.result ≡ (g.M.Monitor.data_in c.enter-inside.result).generation =
    rw c.state.ensures at c.generation-generation.ensures in
    rw told
    (came_last _ _ c.enter-inside.ensures.front (rw c.state-2.ensures at (c.lacks_one.ensures.0 c.if-lacks_one.true))
    (Finishes-exit c.signal_leave-out.ensures.front
    (g.met.M.Monitor.keeps_place _ _ ∙ c.enter-inside.ensures.place)
    (g.met.M.Monitor.takes_data _ _ ∙ (rw c.state_mut.ensures.value at c.open.ensures))
    (g.met.M.Monitor.keeps_front _ _)))

pub wait-inside-requires-clause-rest : goal.wait-inside-requires-clause-rest
wait-inside-requires-clause-rest g c =
    let more = rw c.state-2.ensures at (iff_false c.lacks_one.ensures c.if-lacks_one.false) in
    BarrierRests-come _ c.enter-inside.ensures.rest (omega (arith, c.enter-inside.ensures.rest.within, more))
    (g.met.M.Monitor.takes_data _ _ ∙ (rw c.state_mut-2.ensures.value at c.come.ensures))
    (ap (λ lists. lists 0) (g.met.M.Monitor.keeps_lists _ _))
    (rw c.state.ensures at c.generation-generation.ensures)

pub signal_leave-out-requires-2-clause-ready : goal.signal_leave-out-requires-2-clause-ready
signal_leave-out-requires-2-clause-ready g c = BarrierReady-gone (c.wait-inside.ensures.ready (omega arith))
    (g.met.M.Monitor.takes_data _ _ ∙ (rw c.state_mut-3.ensures.value at c.go.ensures))
    (ap (λ lists. lists 0) (g.met.M.Monitor.keeps_lists _ _))

pub returns-clause-trace : goal.returns-clause-trace
returns-clause-trace g c =
    let told : c.generation-generation.result ≡ (g.M.Monitor.data_in c.enter-inside.result).generation =
    rw c.state.ensures at c.generation-generation.ensures in
    let more = rw c.state-2.ensures at (iff_false c.lacks_one.ensures c.if-lacks_one.false) in
    let place = g.met.M.Monitor.keeps_place _ _ ∙ c.enter-inside.ensures.place in
    let one_more = g.met.M.Monitor.takes_data _ _ ∙ (rw c.state_mut-2.ensures.value at c.come.ensures) in
    rw told (waited _ _ _ _ c.enter-inside.ensures.front (omega (arith, c.enter-inside.ensures.rest.within, more))
    (waits-as c.wait-inside.ensures.front place told one_more (g.met.M.Monitor.keeps_front _ _))
    ((c.wait-inside.ensures.ready (omega arith)).begun ∙ ap next told)
    (Finishes-exit c.signal_leave-out-2.ensures.front (g.met.M.Monitor.keeps_place _ _
    ∙ (c.wait-inside.ensures.place ∙ place))
    (g.met.M.Monitor.takes_data _ _ ∙ (rw c.state_mut-3.ensures.value at c.go.ensures))
    (g.met.M.Monitor.keeps_front _ _)))
