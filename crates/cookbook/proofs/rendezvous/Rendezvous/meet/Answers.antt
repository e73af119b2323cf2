use Rattle.std.proofs.Common.{arith, ◌≡◌, ◌∙◌, ap, refl}
use Rattle.std.proofs.lemmas.Bool.{iff_false}
use Rattle.hoare_law.proofs.Growth.{leaves-as}
use Rattle.cookbook.specs.declared.rendezvous.Rendezvous.TheVariants.{Empty, Offered, Answered}
use Rattle.cookbook.specs.MeetingTraces.{came_first, came_second}
use Rattle.cookbook.proofs.Traces.{waits-as}
use Rattle.cookbook.proofs.Meetings.{found_empty, MeetingRests-offered, MeetingRests-nobody, one_waits, somebody_waits}
use Rattle.cookbook.proofs.Meetings.{MeetingReady-answered, nobody_else, Exits-resumed}
use Rattle.cookbook.proofs.rendezvous.Rendezvous.meet.Goals as goal

-- the partner, which waits, may resume with the value left for it
pub signal_leave-out-requires-clause-ready : goal.signal_leave-out-requires-clause-ready
signal_leave-out-requires-clause-ready g c =
    let one =
    one_waits _ _ _ _ c.enter-inside.ensures.rest (rw c.state_mut.ensures.value at c.answer-first.ensures.value)
    (ap (λ lists. lists 0) (g.met.M.Monitor.keeps_lists _ _)) in
    λ some. MeetingReady-answered _ _ _ one (g.met.M.Monitor.takes_data _ _ ∙ c.answer-first.ensures.after)

pub signal_leave-out-requires-clause-rest : goal.signal_leave-out-requires-clause-rest
signal_leave-out-requires-clause-rest g c = MeetingRests-nobody _ _
    (one_waits _ _ _ _ c.enter-inside.ensures.rest (rw c.state_mut.ensures.value at c.answer-first.ensures.value)
    (ap (λ lists. lists 0) (g.met.M.Monitor.keeps_lists _ _)))

pub returns-then-is_offered-clause-trace : goal.returns-then-is_offered-clause-trace
returns-then-is_offered-clause-trace g c =
    let offered : g.M.Monitor.data_in c.enter-inside.result ≡ Offered c.answer-first.result =
    rw c.state_mut.ensures.value at c.answer-first.ensures.value in
    let some =
    somebody_waits _
    (one_waits _ _ _ _ c.enter-inside.ensures.rest offered (ap (λ lists. lists 0) (g.met.M.Monitor.keeps_lists _ _))) in
    let passed = Exits-resumed c.signal_leave-out.ensures.front (c.signal_leave-out.ensures.answer.1 some)
    (g.met.M.Monitor.keeps_place _ _ ∙ c.enter-inside.ensures.place)
    (g.met.M.Monitor.takes_data _ _ ∙ c.answer-first.ensures.after) (g.met.M.Monitor.keeps_front _ _) in
    came_second _ passed.to _ (rw offered at c.enter-inside.ensures.front) passed.chooses passed.is

pub offer-requires : goal.offer-requires
offer-requires g c =
    rw c.state_mut-2.ensures.value
    (found_empty _ _ c.enter-inside.ensures.rest
    (rw c.state.ensures at (iff_false c.is_offered.ensures c.if-is_offered.false)))

pub wait-inside-requires-clause-rest : goal.wait-inside-requires-clause-rest
wait-inside-requires-clause-rest g c =
    let empty =
    found_empty _ _ c.enter-inside.ensures.rest
    (rw c.state.ensures at (iff_false c.is_offered.ensures c.if-is_offered.false)) in
    MeetingRests-offered _ _ _ _ _ c.enter-inside.ensures.rest empty (g.met.M.Monitor.takes_data _ _ ∙ c.offer.ensures)
    (ap (λ lists. lists 0) (g.met.M.Monitor.keeps_lists _ _))

pub leave-requires-clause-rest : goal.leave-requires-clause-rest
leave-requires-clause-rest g c = nobody_else _ _ _ _ (c.wait-inside.ensures.ready (omega arith))
    (g.met.M.Monitor.takes_data _ _ ∙ c.collect-second.ensures.after)
    (ap (λ lists. lists 0) (g.met.M.Monitor.keeps_lists _ _))

pub returns-clause-trace : goal.returns-clause-trace
returns-clause-trace g c =
    let empty : g.M.Monitor.data_in c.enter-inside.result ≡ Empty =
    found_empty _ _ c.enter-inside.ensures.rest
    (rw c.state.ensures at (iff_false c.is_offered.ensures c.if-is_offered.false)) in
    let answered : g.M.Monitor.data_in c.wait-inside.result ≡ Answered c.collect-second.result =
    rw c.state_mut-3.ensures.value at c.collect-second.ensures.value in
    let place = g.met.M.Monitor.keeps_place _ _ ∙ c.enter-inside.ensures.place in
    came_first c.collect-second.result (g.M.Monitor.front_in c.enter-inside.result)
    (g.M.Monitor.front_in c.wait-inside.result) (rw empty at c.enter-inside.ensures.front)
    (rw (← answered) (waits-as c.wait-inside.ensures.front place refl (g.met.M.Monitor.takes_data _ _ ∙ c.offer.ensures)
    (g.met.M.Monitor.keeps_front _ _)))
    (leaves-as c.leave.ensures.front (g.met.M.Monitor.keeps_place _ _ ∙ (c.wait-inside.ensures.place ∙ place))
    (g.met.M.Monitor.takes_data _ _ ∙ c.collect-second.ensures.after) (g.met.M.Monitor.keeps_front _ _))
