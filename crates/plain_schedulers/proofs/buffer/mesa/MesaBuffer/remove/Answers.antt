use Rattle.std.proofs.Common.{◌∙◌, arith}
use Rattle.std.proofs.lemmas.Bool.{iff_false}
use Rattle.plain_schedulers.proofs.Buffers.{left_of}
use Rattle.plain_schedulers.proofs.MesaBuffers.{GotInsideFree, GotInsideFree-at_once, GotInsideFree-waited, Tells-leave}
use Rattle.plain_schedulers.proofs.buffer.mesa.MesaBuffer.remove.Given.{Over}
use Rattle.plain_schedulers.proofs.buffer.mesa.MesaBuffer.remove.Goals as goal
use Rattle.plain_schedulers.proofs.buffer.mesa.MesaBuffer.remove.Goals.{After-state_mut, then-is_empty, else-is_empty}

-- the process entered, waited each time it found no item, and finds an item
came : (g : Over) (c : After-state_mut g) → GotInsideFree g.M.Monitor c.args.m.now c.args.out 0 c.if-is_empty.inside
came g c = elim c.if-is_empty.branch [
  | then-is_empty w ↦
      let waited = w.wait_on-inside.ensures in
      rw w.inside-is
      (GotInsideFree-waited g.M.Monitor c.enter-inside.ensures.place c.enter-inside.ensures.front waited.of waited.place
      waited.holds waited.free (waited.enters (g.M.Monitor.front c.args.out)))
  | else-is_empty w ↦
      rw w.inside-is
      (GotInsideFree-at_once g.M.Monitor c.enter-inside.ensures.of c.enter-inside.ensures.place
      c.enter-inside.ensures.rest
      c.enter-inside.ensures.front (rw c.state.ensures at (iff_false c.is_empty.ensures w.if-is_empty.false)))
]

pub pop-item-requires : goal.pop-item-requires
pop-item-requires g c = let inside = came g c in rw c.state_mut.ensures.value (omega (arith, inside.free))

pub returns-clause-trace : goal.returns-clause-trace
returns-clause-trace g c =
    let inside = came g (goal.at.returns-clause-trace g c).After-state_mut in
    let place = (g.met.M.Monitor.keeps_place _ _ ∙ inside.place) in
    let state =
    (g.met.M.Monitor.takes_data _ _ ∙ left_of (g.M.Monitor.data_in c.if-is_empty.inside)
    (rw c.state_mut.ensures.value at c.pop-item.ensures.size)) in
    record {
      found = g.M.Monitor.data_in c.if-is_empty.inside;
      front = g.M.Monitor.front_in c.if-is_empty.inside;
      enters = inside.enters;
      others = c.pop-item.new.self.items;
      oldest = rw c.state_mut.ensures.value at c.pop-item.ensures.items;
      tells = Tells-leave c.notify.ensures.front place state (g.met.M.Monitor.keeps_front _ _)
          c.leave.ensures.front (c.notify.ensures.place ∙ place) (c.notify.ensures.data ∙ state);
    }
