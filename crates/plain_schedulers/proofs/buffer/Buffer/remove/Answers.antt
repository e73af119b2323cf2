use Rattle.std.proofs.Common.{◌≡◌, ◌∙◌, arith, refl, length}
use Rattle.std.proofs.lemmas.Bool.{iff_false}
use Rattle.hoare_law.proofs.GotInside.{GotInside, GotInside-at_once, GotInside-waited}
use Rattle.hoare_law.proofs.Growth.{Finishes-exit}
use Rattle.plain_schedulers.specs.Buffers.{ReadyNonempty}
use Rattle.plain_schedulers.proofs.Buffers.{ReadyNonempty-at_once, ReadyNonfull-removed, BufferRests-removed, left_of}
use Rattle.plain_schedulers.proofs.buffer.Buffer.remove.Given.{Over}
use Rattle.plain_schedulers.proofs.buffer.Buffer.remove.Goals as goal
use Rattle.plain_schedulers.proofs.buffer.Buffer.remove.Goals.{After-state_mut, then-is_empty, else-is_empty}

-- the process entered and, after a wait or without one, finds an item
came : (g : Over) (c : After-state_mut g)
    → GotInside g.M.Monitor c.args.m.now c.args.out (λ _ a. length a.items ≡ 0) (λ _. 0) (λ _. 0)
    (λ b q. ReadyNonempty b (q 0) (q 1)) c.if-is_empty.inside
came g c = elim c.if-is_empty.branch [
  | then-is_empty w ↦
      let none = rw c.state.ensures at (c.is_empty.ensures.0 w.if-is_empty.true) in
      rw w.inside-is
      (GotInside-waited g.M.Monitor c.enter-inside.ensures.place c.enter-inside.ensures.front none
      w.wait-inside.ensures.of
      w.wait-inside.ensures.place
      w.wait-inside.ensures.front refl refl (w.wait-inside.ensures.ready (omega arith)))
  | else-is_empty w ↦
      let some = rw c.state.ensures at (iff_false c.is_empty.ensures w.if-is_empty.false) in
      rw w.inside-is
      (GotInside-at_once g.M.Monitor c.enter-inside.ensures.of c.enter-inside.ensures.place
      c.enter-inside.ensures.front some
      (ReadyNonempty-at_once c.enter-inside.ensures.rest some))
]

pub pop-item-requires : goal.pop-item-requires
pop-item-requires g c = rw c.state_mut.ensures.value (came g c).ready.some

pub signal_leave-out-requires-clause-ready : goal.signal_leave-out-requires-clause-ready
signal_leave-out-requires-clause-ready g c =
    ReadyNonfull-removed (came g (goal.at.signal_leave-out-requires-clause-ready g c).After-state_mut).ready
    (rw c.state_mut.ensures.value at c.pop-item.ensures.items) (rw c.state_mut.ensures.value at c.pop-item.ensures.size)
    (g.met.M.Monitor.takes_data _ _) (g.met.M.Monitor.keeps_lists _ _)

pub signal_leave-out-requires-clause-rest : goal.signal_leave-out-requires-clause-rest
signal_leave-out-requires-clause-rest g c =
    BufferRests-removed (came g (goal.at.signal_leave-out-requires-clause-rest g c).After-state_mut).ready
    (rw c.state_mut.ensures.value at c.pop-item.ensures.items) (rw c.state_mut.ensures.value at c.pop-item.ensures.size)
    (g.met.M.Monitor.takes_data _ _) (g.met.M.Monitor.keeps_lists _ _)

pub returns-clause-trace : goal.returns-clause-trace
returns-clause-trace g c =
    let inside = came g (goal.at.returns-clause-trace g c).After-state_mut in
    record {
      found = g.M.Monitor.data_in c.if-is_empty.inside;
      others = c.pop-item.new.self.items;
      front = g.M.Monitor.front_in c.if-is_empty.inside;
      enters = inside.enters;
      oldest = rw c.state_mut.ensures.value at c.pop-item.ensures.items;
      finishes = Finishes-exit c.signal_leave-out.ensures.front (g.met.M.Monitor.keeps_place _ _ ∙ inside.place)
          (g.met.M.Monitor.takes_data _ _ ∙ left_of (g.M.Monitor.data_in c.if-is_empty.inside)
          (rw c.state_mut.ensures.value at c.pop-item.ensures.size))
          (g.met.M.Monitor.keeps_front _ _);
    }
