use Rattle.std.proofs.Common.{◌≡◌, ◌∙◌, arith, refl, length}
use Rattle.std.proofs.lemmas.Bool.{iff_false}
use Rattle.hoare_law.proofs.GotInside.{GotInside, GotInside-at_once, GotInside-waited}
use Rattle.hoare_law.proofs.Growth.{Finishes-exit}
use Rattle.plain_schedulers.specs.Buffers.{ReadyNonfull}
use Rattle.plain_schedulers.proofs.Buffers.{ReadyNonfull-at_once, ReadyNonempty-added, BufferRests-added}
use Rattle.plain_schedulers.proofs.buffer.Buffer.append.Given.{Over}
use Rattle.plain_schedulers.proofs.buffer.Buffer.append.Goals as goal
use Rattle.plain_schedulers.proofs.buffer.Buffer.append.Goals.{After-state_mut, then-is_full, else-is_full}

-- the process entered and, after a wait or without one, finds room
came : (g : Over) (c : After-state_mut g)
    → GotInside g.M.Monitor c.args.m.now c.args.out (λ _ a. length a.items ≡ a.size) (λ _. 1) (λ _. 0)
    (λ b q. ReadyNonfull b (q 0) (q 1)) c.if-is_full.inside
came g c = elim c.if-is_full.branch [
  | then-is_full w ↦
      let full = rw c.state.ensures at (c.is_full.ensures.0 w.if-is_full.true) in
      rw w.inside-is
      (GotInside-waited g.M.Monitor c.enter-inside.ensures.place c.enter-inside.ensures.front full
      w.wait-inside.ensures.of
      w.wait-inside.ensures.place
      w.wait-inside.ensures.front refl refl (w.wait-inside.ensures.ready (omega arith)))
  | else-is_full w ↦
      let room = rw c.state.ensures at (iff_false c.is_full.ensures w.if-is_full.false) in
      rw w.inside-is
      (GotInside-at_once g.M.Monitor c.enter-inside.ensures.of c.enter-inside.ensures.place
      c.enter-inside.ensures.front room
      (ReadyNonfull-at_once c.enter-inside.ensures.rest room))
]

pub push-requires : goal.push-requires
push-requires g c = rw c.state_mut.ensures.value (came g c).ready.room

pub signal_leave-out-requires-clause-ready : goal.signal_leave-out-requires-clause-ready
signal_leave-out-requires-clause-ready g c =
    ReadyNonempty-added _ (came g (goal.at.signal_leave-out-requires-clause-ready g c).After-state_mut).ready
    (g.met.M.Monitor.takes_data _ _ ∙ (rw c.state_mut.ensures.value at c.push.ensures))
    (g.met.M.Monitor.keeps_lists _ _)

pub signal_leave-out-requires-clause-rest : goal.signal_leave-out-requires-clause-rest
signal_leave-out-requires-clause-rest g c =
    BufferRests-added _ (came g (goal.at.signal_leave-out-requires-clause-rest g c).After-state_mut).ready
    (g.met.M.Monitor.takes_data _ _ ∙ (rw c.state_mut.ensures.value at c.push.ensures))
    (g.met.M.Monitor.keeps_lists _ _)

pub returns-clause-trace : goal.returns-clause-trace
returns-clause-trace g c =
    let inside = came g (goal.at.returns-clause-trace g c).After-state_mut in
    record {
      found = g.M.Monitor.data_in c.if-is_full.inside;
      front = g.M.Monitor.front_in c.if-is_full.inside;
      enters = inside.enters;
      room = inside.ready.room;
      finishes = Finishes-exit c.signal_leave-out.ensures.front (g.met.M.Monitor.keeps_place _ _ ∙ inside.place)
          (g.met.M.Monitor.takes_data _ _ ∙ (rw c.state_mut.ensures.value at c.push.ensures))
          (g.met.M.Monitor.keeps_front _ _);
    }
