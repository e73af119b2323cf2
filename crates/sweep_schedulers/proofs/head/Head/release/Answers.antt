use Rattle.std.proofs.Common.{◌≡◌, ◌∙◌, None, refl, rules}
use Rattle.hoare_law.proofs.Growth.{leaves-as}
use Rattle.sweep_schedulers.specs.HeadTraces.{put_in, refused}
use Rattle.sweep_schedulers.proofs.Sweeps.{HandsOn-as}
use Rattle.sweep_schedulers.proofs.head.Head.release.Goals as goal

pub returns-then-not-is_busy-clause-trace : goal.returns-then-not-is_busy-clause-trace
returns-then-not-is_busy-clause-trace g c =
    refused _ _ c.enter-inside.ensures.front (search rules)
    (leaves-as c.leave.ensures.front c.enter-inside.ensures.place refl refl)

pub hand_on-requires-clause-stay : goal.hand_on-requires-clause-stay
hand_on-requires-clause-stay g c =
    let met = g.met.M.Monitor in
    let found = g.M.Monitor.data_in c.enter-inside.result in
    let state = met.takes_data c.enter-inside.result c.put.new.self ∙ (rw c.state_mut.ensures.value at c.put.ensures) in
    let lists = met.keeps_lists c.enter-inside.result c.put.new.self in
    let busy : found.drive ≡ None = search rules in
    λ κs within. rw (state, lists) (c.enter-inside.ensures.rest.stay busy)

pub returns-clause-trace : goal.returns-clause-trace
returns-clause-trace g c =
    put_in _ _ c.enter-inside.ensures.front (search rules)
    (HandsOn-as c.hand_on.ensures.trace (g.met.M.Monitor.keeps_place _ _ ∙ c.enter-inside.ensures.place)
    (g.met.M.Monitor.takes_data _ _ ∙ (rw c.state_mut.ensures.value at c.put.ensures))
    (g.met.M.Monitor.keeps_front _ _))
