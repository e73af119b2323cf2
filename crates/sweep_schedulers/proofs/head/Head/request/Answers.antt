use Rattle.std.proofs.Common.{rules, ◌≡◌, ◌≢◌, ◌+◌, ◌≤◌, ◌∙◌, ℕ, None, ap, sym, refl}
use Rattle.std.proofs.lemmas.Bool.{iff_false}
use Rattle.hoare_law.proofs.Growth.{leaves-as}
use Rattle.hoare_law.specs.Priorities.{priorities}
use Rattle.sweep_schedulers.specs.Heads.{Disk, HeadRests, counted, due, given_out, one_granted, sent}
use Rattle.sweep_schedulers.specs.Heads.{waiting_here}
use Rattle.sweep_schedulers.specs.HeadTraces.{Reaches, at_once, off_disk, granted, other_disk}
use Rattle.sweep_schedulers.proofs.Due.{granted-stay}
use Rattle.sweep_schedulers.proofs.Sweeps.{HeadRests-joined, HeadRests-granted, HeadRests-at_once, HandsOn-as}
use Rattle.sweep_schedulers.proofs.Sweeps.{HandsOn-due, Reaches-waited, HeadReady-free, HeadFree-due, OnSweeps-due}
use Rattle.sweep_schedulers.proofs.Sweeps.{none_due, stay-granted, sweep_hoare}
use Rattle.sweep_schedulers.proofs.head.Head.request.Given.{Over}
use Rattle.sweep_schedulers.proofs.head.Head.request.Goals as goal
use Rattle.sweep_schedulers.proofs.head.Head.request.Goals.{After-take-drive, then-is_busy+else-cylmax, else-is_busy}

pub returns-then-dest-cylmax-clause-trace : goal.returns-then-dest-cylmax-clause-trace
returns-then-dest-cylmax-clause-trace g c =
    off_disk _ _ _ c.enter-inside.ensures.front (search rules)
    (leaves-as c.leave.ensures.front c.enter-inside.ensures.place refl refl)

pub wait-inside-requires-clause-rest : goal.wait-inside-requires-clause-rest
wait-inside-requires-clause-rest g c =
    let busy = rw c.state-2.ensures at (c.is_busy.ensures.0 c.if-is_busy.true) in
    HeadRests-joined (g.M.Monitor.lists_in c.enter-inside.result) c.enter-inside.ensures.rest busy (search rules)
    c.state-then-is_busy.ensures c.stop_at-sweep.ensures.sweep c.stop_at-sweep.ensures.priority

pub hand_on-requires-clause-free : goal.hand_on-requires-clause-free
hand_on-requires-clause-free g c =
    let met = g.met.M.Monitor in
    let grant = rw c.state_mut.ensures.value at c.grant.ensures in
    let state = met.takes_data c.wait-inside.result c.grant.new.self ∙ grant in
    let lists = met.keeps_lists c.wait-inside.result c.grant.new.self in
    let ready = c.wait-inside.ensures.ready (rw c.stop_at-sweep.ensures.sweep (sweep_hoare _)) in
    λ κs within. rw (state, lists) (HeadFree-due _ _ (HeadReady-free _ _ _ _ _ ready))

pub hand_on-requires-clause-stay : goal.hand_on-requires-clause-stay
hand_on-requires-clause-stay g c =
    let met = g.met.M.Monitor in
    let grant = rw c.state_mut.ensures.value at c.grant.ensures in
    let state = met.takes_data c.wait-inside.result c.grant.new.self ∙ grant in
    let lists = met.keeps_lists c.wait-inside.result c.grant.new.self in
    let ready = c.wait-inside.ensures.ready (rw c.stop_at-sweep.ensures.sweep (sweep_hoare _)) in
    λ κs within. rw (state, lists) (granted-stay _ _ _ _ _ ready)

pub returns-then-cylmax-clause-trace : goal.returns-then-cylmax-clause-trace
returns-then-cylmax-clause-trace g c =
    let met = g.met.M.Monitor in
    let busy = rw c.state-2.ensures at (c.is_busy.ensures.0 c.if-is_busy.true) in
    let grant = rw c.state_mut.ensures.value at c.grant.ensures in
    let state = met.takes_data c.wait-inside.result c.grant.new.self ∙ grant in
    let place = c.wait-inside.ensures.place ∙ c.enter-inside.ensures.place in
    let other : (g.M.Monitor.data_in c.wait-inside.result).cylmax ≢ (g.M.Monitor.data_in c.enter-inside.result).cylmax =
    search rules in
    other_disk _ _ _ _ _ c.enter-inside.ensures.front (search rules)
    (Reaches-waited busy c.wait-inside.ensures.front c.enter-inside.ensures.place refl refl
    c.state-then-is_busy.ensures c.stop_at-sweep.ensures.sweep c.stop_at-sweep.ensures.priority)
    other
    (HandsOn-due _ _ (HandsOn-as c.hand_on.ensures.trace (met.keeps_place _ _ ∙ place) state (met.keeps_front _ _)))

-- the request entered and, after a wait or without one, found the drive in, and dest on the disk; the grants are
-- counted that are then due at the cylinder under the head
came : (g : Over) (c : After-take-drive g) →
    let M = g.M.Monitor in
    let out = M.with_data c.if-is_busy.inside c.take-drive.new.self in
    let first = M.data_in c.enter-inside.result in
    record {
      found : Disk g.row.T.Denot;
      counted_as : ℕ;
      place : M.place_in out ≡ M.place c.args.out;
      state : M.data_in out ≡ due (given_out found) counted_as;
      is_in : found.drive ≡ c.take-drive.result;
      lists : M.lists_in out ≡ priorities (M.front_in out).events;
      on : c.args.dest ≤ first.cylmax;
      same : found.cylmax ≡ first.cylmax;
      stay : counted_as ≡ waiting_here found (M.lists_in out 0) (M.lists_in out 1);
      rests : HeadRests (counted (sent found c.args.dest) (M.lists_in out 0) (M.lists_in out 1)) (M.lists_in out 0)
          (M.lists_in out 1);
      less : first.drive ≡ None → found.headpos ≡ c.args.dest
          → (counted (sent found c.args.dest) (M.lists_in out 0) (M.lists_in out 1)).stay + 1 ≡ found.stay;
      reaches : Reaches (M.place c.args.out) c.args.dest first (M.front_in c.enter-inside.result) (M.front_in out)
          found;
    }
came g c =
    let M = g.M.Monitor in
    let met = g.met.M.Monitor in
    let first = M.data_in c.enter-inside.result in
    let on : c.args.dest ≤ first.cylmax = search rules in
    let taken = c.take-drive.new.self in
    let left_lists = met.keeps_lists c.if-is_busy.inside taken in
    let left_front = met.keeps_front c.if-is_busy.inside taken in
    let left_place = met.keeps_place c.if-is_busy.inside taken in
    elim c.if-is_busy.branch [
      | then-is_busy+else-cylmax w ↦
          let found = M.data_in w.wait-inside.result in
          let granted_now = w.grant.new.self in
          let busy = rw c.state-2.ensures at (c.is_busy.ensures.0 w.if-is_busy.true) in
          let ready = w.wait-inside.ensures.ready (rw w.stop_at-sweep.ensures.sweep (sweep_hoare _)) in
          let granted_is : M.data_in (M.with_data w.wait-inside.result granted_now)
          ≡ one_granted found w.stop_at-sweep.result.1 =
          met.takes_data _ _ ∙ (rw w.state_mut.ensures.value at w.grant.ensures) in
          let last : w.cylmax.result ≡ found.cylmax =
          rw (w.state-then-is_busy-2.ensures, granted_is) at w.cylmax.ensures in
          let same : found.cylmax ≡ first.cylmax = search rules in
          let known = ap M.data_in w.inside-is ∙ granted_is in
          let lists = ap M.lists_in w.inside-is ∙ met.keeps_lists w.wait-inside.result granted_now in
          let front = ap M.front_in w.inside-is ∙ met.keeps_front w.wait-inside.result granted_now in
          let place = ap M.place_in w.inside-is ∙ met.keeps_place w.wait-inside.result granted_now in
          rw (left_lists, left_front, left_place) (rw (lists, front, place) (record {
            found = found;
            counted_as = (one_granted found w.stop_at-sweep.result.1).stay;
            place = w.wait-inside.ensures.place ∙ c.enter-inside.ensures.place;
            state = met.takes_data _ _ ∙ (rw (c.state_mut-2.ensures.value, known) at c.take-drive.ensures.after);
            is_in = sym (rw (c.state_mut-2.ensures.value, known) at c.take-drive.ensures.drive);
            lists = met.lists_are _ _ w.wait-inside.ensures.of;
            on = on;
            same = same;
            stay = granted-stay found _ _ _ _ ready;
            rests = HeadRests-granted found _ _ ready
                w.state-then-is_busy.ensures w.stop_at-sweep.ensures.sweep w.stop_at-sweep.ensures.priority on same;
            less = λ out. stay-granted found _ _ ready
                w.state-then-is_busy.ensures w.stop_at-sweep.ensures.sweep w.stop_at-sweep.ensures.priority on same;
            reaches = Reaches-waited busy w.wait-inside.ensures.front c.enter-inside.ensures.place refl refl
                w.state-then-is_busy.ensures w.stop_at-sweep.ensures.sweep w.stop_at-sweep.ensures.priority;
          }))
      | else-is_busy w ↦
          let idle = rw c.state-2.ensures at (iff_false c.is_busy.ensures w.if-is_busy.false) in
          let rest = c.enter-inside.ensures.rest in
          let known : M.data_in c.if-is_busy.inside ≡ due first 0 =
          ap M.data_in w.inside-is
          ∙ (met.takes_data _ _ ∙ (rw w.state_mut-else-is_busy.ensures.value at w.count.ensures)) in
          let lists = ap M.lists_in w.inside-is ∙ met.keeps_lists c.enter-inside.result w.count.new.self in
          let front = ap M.front_in w.inside-is ∙ met.keeps_front c.enter-inside.result w.count.new.self in
          let place = ap M.place_in w.inside-is ∙ met.keeps_place c.enter-inside.result w.count.new.self in
          rw (left_lists, left_front, left_place) (rw (lists, front, place) (record {
            found = first;
            counted_as = 0;
            place = c.enter-inside.ensures.place;
            state = met.takes_data _ _ ∙ (rw (c.state_mut-2.ensures.value, known) at c.take-drive.ensures.after);
            is_in = sym (rw (c.state_mut-2.ensures.value, known) at c.take-drive.ensures.drive);
            lists = met.lists_are _ _ c.enter-inside.ensures.of;
            on = on;
            same = refl;
            stay = none_due first _ _ idle rest;
            rests = HeadRests-at_once first _ _ c.args.dest idle on rest;
            less = λ out here. absurd (idle out);
            reaches = at_once (search rules);
          }))
    ]

pub move_to-inside-requires-clause-on_disk : goal.move_to-inside-requires-clause-on_disk
move_to-inside-requires-clause-on_disk g c =
    let inside = came g (goal.at.move_to-inside-requires-clause-on_disk g c).After-take-drive in
    λ κs within. rw (inside.state, inside.same) inside.on

pub move_to-inside-requires-clause-sweeps : goal.move_to-inside-requires-clause-sweeps
move_to-inside-requires-clause-sweeps g c =
    let inside = came g (goal.at.move_to-inside-requires-clause-sweeps g c).After-take-drive in
    λ κs within. rw inside.state (OnSweeps-due _ inside.counted_as inside.rests.sweeps)

pub move_to-inside-requires-clause-stay : goal.move_to-inside-requires-clause-stay
move_to-inside-requires-clause-stay g c =
    let inside = came g (goal.at.move_to-inside-requires-clause-stay g c).After-take-drive in
    λ κs within. rw inside.state inside.stay

pub leave-requires-in-Some-clause-rest : goal.leave-requires-in-Some-clause-rest
leave-requires-in-Some-clause-rest g c =
    let inside = came g (goal.at.leave-requires-in-Some-clause-rest g c).After-take-drive in
    rw (rw inside.state at c.move_to-inside.ensures.data, c.move_to-inside.ensures.lists) inside.rests

pub returns-clause-trace : goal.returns-clause-trace
returns-clause-trace g c =
    let inside = came g (goal.at.returns-clause-trace g c).After-take-drive in
    let is_in : inside.found.drive ≡ c.take-drive.result = inside.is_in in
    let state = rw inside.state at c.move_to-inside.ensures.data in
    granted _ inside.found _ _ _ c.enter-inside.ensures.front inside.on inside.reaches inside.same (search rules)
    (rw inside.lists at inside.less)
    (leaves-as c.leave-in-Some.ensures.front (c.move_to-inside.ensures.place ∙ inside.place)
    (rw inside.lists at state) c.move_to-inside.ensures.front)
