use Rattle.std.proofs.Common.{arith, ◌∙◌, refl}
use Rattle.std.proofs.lemmas.Bool.{iff_false}
use Rattle.hoare_law.proofs.GotInside.{GotInside, GotInside-at_once, GotInside-waited}
use Rattle.cookbook.specs.Tables.{TableHolds, CanEat}
use Rattle.cookbook.proofs.Tables.{TableHolds-seated, HandsOn-as}
use Rattle.cookbook.proofs.table.Table.sit_down.Given.{Over}
use Rattle.cookbook.proofs.table.Table.sit_down.Goals as goal
use Rattle.cookbook.proofs.table.Table.sit_down.Goals.{After-state_mut, then-not-can_eat, else-not-can_eat}

-- the caller entered and, after a wait or without one, finds that it can eat
came : (g : Over) (c : After-state_mut g)
    → GotInside g.M.Monitor c.args.m.now c.args.out (λ _ t. CanEat t c.args.seat → ⊥) (λ _. c.args.seat) (λ _. 0)
    (λ t _. TableHolds t × CanEat t c.args.seat) c.if-not-can_eat.inside
came g c = elim c.if-not-can_eat.branch [
  | then-not-can_eat w ↦
      let ready = w.wait-inside.ensures.ready (omega (arith, c.requires.seat)) in
      let cannot = rw c.state.ensures at (iff_false c.can_eat.ensures w.if-not-can_eat.true) in
      rw w.inside-is
      (GotInside-waited g.M.Monitor c.enter-inside.ensures.place c.enter-inside.ensures.front cannot
      w.wait-inside.ensures.of
      w.wait-inside.ensures.place
      w.wait-inside.ensures.front refl refl (ready.inv, ready.can))
  | else-not-can_eat w ↦
      let can = rw c.state.ensures at (c.can_eat.ensures.0 w.if-not-can_eat.false) in
      rw w.inside-is
      (GotInside-at_once g.M.Monitor c.enter-inside.ensures.of c.enter-inside.ensures.place c.enter-inside.ensures.front
      (λ cannot. cannot can)
      (c.enter-inside.ensures.rest.inv, can))
]

pub hand_on-requires-clause-of : goal.hand_on-requires-clause-of
hand_on-requires-clause-of g c =
    λ _ _. g.met.M.Monitor.keeps_of _ _ _ (came g (goal.at.hand_on-requires-clause-of g c).After-state_mut).of

pub hand_on-requires-clause-inv : goal.hand_on-requires-clause-inv
hand_on-requires-clause-inv g c = λ _ _.
    let inside = came g (goal.at.hand_on-requires-clause-inv g c).After-state_mut in
    TableHolds-seated
    (g.M.Monitor.data_in c.if-not-can_eat.inside) _ c.args.seat inside.ready.0 c.requires.seat inside.ready.1
    (g.met.M.Monitor.takes_data _ _ ∙ (rw c.state_mut.ensures.value at c.start.ensures))

pub returns-clause-place : goal.returns-clause-place
returns-clause-place g c =
    c.hand_on.ensures.place
    ∙ (g.met.M.Monitor.keeps_place _ _ ∙ (came g (goal.at.returns-clause-place g c).After-state_mut).place)

pub returns-clause-trace : goal.returns-clause-trace
returns-clause-trace g c =
    let inside = came g (goal.at.returns-clause-trace g c).After-state_mut in
    record {
      found = g.M.Monitor.data_in c.if-not-can_eat.inside;
      front = g.M.Monitor.front_in c.if-not-can_eat.inside;
      enters = inside.enters;
      can = inside.ready.1;
      hands_on = HandsOn-as c.hand_on.ensures.trace (g.met.M.Monitor.keeps_place _ _ ∙ inside.place)
          (g.met.M.Monitor.takes_data _ _ ∙ (rw c.state_mut.ensures.value at c.start.ensures))
          (g.met.M.Monitor.keeps_front _ _);
    }
