use Rattle.std.proofs.Common.{◌∙◌, arith}
use Rattle.std.proofs.lemmas.Bool.{iff_false}
use Rattle.plain_schedulers.proofs.MesaBuffers.{GotInsideFree, GotInsideFree-at_once, GotInsideFree-waited, Tells-leave}
use Rattle.plain_schedulers.proofs.buffer.mesa.MesaBuffer.append.Given.{Over}
use Rattle.plain_schedulers.proofs.buffer.mesa.MesaBuffer.append.Goals as goal
use Rattle.plain_schedulers.proofs.buffer.mesa.MesaBuffer.append.Goals.{After-state_mut, then-is_full, else-is_full}

-- the process entered, waited each time it found no room, and finds room
came : (g : Over) (c : After-state_mut g) → GotInsideFree g.M.Monitor c.args.m.now c.args.out 1 c.if-is_full.inside
came g c = elim c.if-is_full.branch [
  | then-is_full w ↦
      let waited = w.wait_on-inside.ensures in
      rw w.inside-is
      (GotInsideFree-waited g.M.Monitor c.enter-inside.ensures.place c.enter-inside.ensures.front waited.of waited.place
      waited.holds waited.free (waited.enters (g.M.Monitor.front c.args.out)))
  | else-is_full w ↦
      rw w.inside-is
      (GotInsideFree-at_once g.M.Monitor c.enter-inside.ensures.of c.enter-inside.ensures.place
      c.enter-inside.ensures.rest
      c.enter-inside.ensures.front (rw c.state.ensures at (iff_false c.is_full.ensures w.if-is_full.false)))
]

pub push-requires : goal.push-requires
push-requires g c =
    let inside = came g c in
    rw c.state_mut.ensures.value (omega (arith, inside.holds.fits, inside.free))

pub returns-clause-trace : goal.returns-clause-trace
returns-clause-trace g c =
    let inside = came g (goal.at.returns-clause-trace g c).After-state_mut in
    let place = (g.met.M.Monitor.keeps_place _ _ ∙ inside.place) in
    let state = (g.met.M.Monitor.takes_data _ _ ∙ (rw c.state_mut.ensures.value at c.push.ensures.items)) in record {
      found = g.M.Monitor.data_in c.if-is_full.inside;
      front = g.M.Monitor.front_in c.if-is_full.inside;
      enters = inside.enters;
      room = omega (arith, inside.holds.fits, inside.free);
      tells = Tells-leave c.notify.ensures.front place state (g.met.M.Monitor.keeps_front _ _)
          c.leave.ensures.front (c.notify.ensures.place ∙ place) (c.notify.ensures.data ∙ state);
    }
