use Rattle.std.proofs.Common.{◌≡◌, ◌∙◌, [], ap, refl}
use Rattle.hoare_law.specs.declared.event.History.{History}
use Rattle.hoare_law.specs.Growth.{Finishes}
use Rattle.hoare_law.specs.Priorities.{priorities}
use Rattle.hoare_law.proofs.Growth.{Finishes-exit}
use Rattle.sweep_schedulers.specs.Heads.{HeadFree, HeadRests, Disk, sweep, turned, counted, waiting_here}
use Rattle.sweep_schedulers.specs.HeadTraces.{HandsOn, turns}
use Rattle.sweep_schedulers.proofs.Lists.{none_told}
use Rattle.sweep_schedulers.proofs.Sweeps.{HeadReady-first, HeadRests-nobody, HeadFree-turned, HeadFree-due}
use Rattle.sweep_schedulers.proofs.Sweeps.{HandsOn-keeps, sweep_hoare}
use Rattle.sweep_schedulers.proofs.head.Head.hand_on.Given.{Over}
use Rattle.sweep_schedulers.proofs.head.Head.hand_on.Goals as goal
use Rattle.sweep_schedulers.proofs.head.Head.hand_on.Goals.{After-state-2, then-not-queue, else-not-queue}

pub recount-inside-requires-clause-of : goal.recount-inside-requires-clause-of
recount-inside-requires-clause-of g c = λ κs lives. g.met.M.Monitor.keeps_of _ _ _ c.requires.of

pub recount-inside-requires-clause-inv : goal.recount-inside-requires-clause-inv
recount-inside-requires-clause-inv g c =
    let turn = rw c.state_mut.ensures.value at c.turn.ensures in
    let state = g.met.M.Monitor.takes_data c.args.inside c.turn.new.self ∙ turn in
    λ κs lives. rw state c.requires.free.inv

pub recount-inside-requires-clause-sweeps : goal.recount-inside-requires-clause-sweeps
recount-inside-requires-clause-sweeps g c =
    let turn = rw c.state_mut.ensures.value at c.turn.ensures in
    let state = g.met.M.Monitor.takes_data c.args.inside c.turn.new.self ∙ turn in
    let lists = g.met.M.Monitor.keeps_lists c.args.inside c.turn.new.self in
    λ κs lives. rw (state, lists) (HeadFree-turned c.requires.free).sweeps

-- the head kept its direction if a request waits for the present sweep, and else turned
swept : (g : Over) (c : After-state-2 g) →
    let M = g.M.Monitor in
    let inside = c.if-not-queue.inside in
    record {
      of : M.is_of_in c.args.m.now inside;
      place : M.place_in inside ≡ M.place_in c.args.inside;
      front : M.front_in inside ≡ M.front_in c.args.inside;
      free : HeadFree (M.data_in inside) (M.lists_in inside 0) (M.lists_in inside 1);
      stay : (M.data_in inside).stay ≡ waiting_here (M.data_in inside) (M.lists_in inside 0) (M.lists_in inside 1);
      rest : M.lists_in inside (sweep (M.data_in inside).direction) ≡ []
          → HeadRests (M.data_in inside) (M.lists_in inside 0) (M.lists_in inside 1);
      hands : (h : History (Disk g.row.T.Denot))
          → Finishes (M.place_in c.args.inside) (sweep (M.data_in inside).direction) (M.data_in inside)
          (M.front_in c.args.inside) h
          → HandsOn (M.place_in c.args.inside) (M.data_in c.args.inside) (M.front_in c.args.inside) h;
    }
swept g c =
    let M = g.M.Monitor in
    let met = g.met.M.Monitor in
    let found = M.data_in c.args.inside in
    let present : c.sweep.result ≡ sweep found.direction = rw c.state.ensures at c.sweep.ensures in
    let listed = rw present at c.queue.ensures.lists in
    let told = rw present at c.queue.ensures.front in
    let known : M.lists_in c.args.inside ≡ priorities (M.front_in c.args.inside).events =
    met.lists_are _ _ c.requires.of in
    elim c.if-not-queue.branch [
      | then-not-queue w ↦
          let back = M.with_data c.args.inside w.turn.new.self in
          let back_data : M.data_in back ≡ turned found =
          met.takes_data _ _ ∙ (rw w.state_mut.ensures.value at w.turn.ensures) in
          let back_lists : M.lists_in back ≡ M.lists_in c.args.inside = met.keeps_lists _ _ in
          let state : M.data_in c.if-not-queue.inside
          ≡ counted (turned found) (M.lists_in c.args.inside 0) (M.lists_in c.args.inside 1) =
          ap M.data_in w.inside-is ∙ (rw (back_data, back_lists) at w.recount-inside.ensures.data) in
          let lists : M.lists_in c.if-not-queue.inside ≡ M.lists_in c.args.inside =
          ap M.lists_in w.inside-is ∙ (w.recount-inside.ensures.lists ∙ back_lists) in
          let free = HeadFree-due (turned found) _ (HeadFree-turned c.requires.free) in
          record {
            of = rw w.inside-is w.recount-inside.ensures.of;
            place = ap M.place_in w.inside-is ∙ (w.recount-inside.ensures.place ∙ met.keeps_place _ _);
            front = ap M.front_in w.inside-is ∙ (w.recount-inside.ensures.front ∙ met.keeps_front _ _);
            free = rw (state, lists) free;
            stay = rw (state, lists) refl;
            rest = rw (state, lists) (λ other. HeadRests-nobody (M.lists_in c.args.inside) found.direction
                (none_told _ _ listed.1 w.if-not-queue.true) other free);
            hands = rw (state, known) (λ h finishes. turns (none_told _ _ told.1 w.if-not-queue.true) finishes);
          }
      | else-not-queue w ↦ rw w.inside-is (record {
        of = c.requires.of;
        place = refl;
        front = refl;
        free = c.requires.free;
        stay = c.requires.stay;
        rest = λ none. absurd (listed.0 w.if-not-queue.false none);
        hands = λ h finishes. HandsOn-keeps found _ _ (rw known refl) (rw known refl) c.requires.stay
            (told.0 w.if-not-queue.false) finishes;
      })
    ]

pub signal_leave-out-requires-clause-of : goal.signal_leave-out-requires-clause-of
signal_leave-out-requires-clause-of g c = (swept g (goal.at.signal_leave-out-requires-clause-of g c).After-state-2).of

pub signal_leave-out-requires-clause-hoare : goal.signal_leave-out-requires-clause-hoare
signal_leave-out-requires-clause-hoare g c = rw c.sweep-sweep.ensures (sweep_hoare _)

pub signal_leave-out-requires-clause-ready : goal.signal_leave-out-requires-clause-ready
signal_leave-out-requires-clause-ready g c =
    let left = swept g (goal.at.signal_leave-out-requires-clause-ready g c).After-state-2 in
    HeadReady-first (g.M.Monitor.lists_in c.if-not-queue.inside) left.free left.stay
    (λ i. g.met.M.Monitor.rise c.args.m.now c.if-not-queue.inside i left.of) c.state-2.ensures c.sweep-sweep.ensures

pub signal_leave-out-requires-clause-rest : goal.signal_leave-out-requires-clause-rest
signal_leave-out-requires-clause-rest g c =
    rw c.sweep-sweep.ensures
    (rw c.state-2.ensures (swept g (goal.at.signal_leave-out-requires-clause-rest g c).After-state-2).rest)

pub returns-clause-place : goal.returns-clause-place
returns-clause-place g c =
    c.signal_leave-out.ensures.place ∙ (swept g (goal.at.returns-clause-place g c).After-state-2).place

pub returns-clause-trace : goal.returns-clause-trace
returns-clause-trace g c =
    let left = swept g (goal.at.returns-clause-trace g c).After-state-2 in
    let on : c.sweep-sweep.result ≡ sweep (g.M.Monitor.data_in c.if-not-queue.inside).direction =
    rw c.state-2.ensures at c.sweep-sweep.ensures in
    left.hands _ (Finishes-exit (rw on at c.signal_leave-out.ensures.front) left.place refl left.front)
