use Rattle.std.proofs.Common.{arith, ◌∙◌, refl}
use Rattle.std.proofs.lemmas.Bool.{iff_false}
use Rattle.hoare_law.proofs.GotInside.{GotInside, GotInside-at_once, GotInside-waited}
use Rattle.hoare_law.proofs.Growth.{leaves-as}
use Rattle.sweep_schedulers.specs.ReadersWriters.{IsInUse, WriteReady}
use Rattle.sweep_schedulers.proofs.Readers.{ReadersRest-writer, WriteReady-at_once, ReadersRest-reserved}
use Rattle.sweep_schedulers.proofs.readers_writers.ReadersWriters.start_write.Given.{Over}
use Rattle.sweep_schedulers.proofs.readers_writers.ReadersWriters.start_write.Goals as goal
use Rattle.sweep_schedulers.proofs.readers_writers.ReadersWriters.start_write.Goals.{After-state_mut, then-is_in_use}
use Rattle.sweep_schedulers.proofs.readers_writers.ReadersWriters.start_write.Goals.{else-is_in_use}

pub wait-inside-requires-clause-rest : goal.wait-inside-requires-clause-rest
wait-inside-requires-clause-rest g c =
    ReadersRest-writer (g.M.Monitor.lists_in c.enter-inside.result) c.enter-inside.ensures.rest
    (rw c.state.ensures at (c.is_in_use.ensures.0 c.if-is_in_use.true))

-- the process entered and, after a wait or without one, finds no reader and no writer in
came : (g : Over) (c : After-state_mut g)
    → GotInside g.M.Monitor c.args.m.now c.args.out (λ _ a. IsInUse a) (λ _. 1) (λ _. 0)
    (λ d _. WriteReady d) c.if-is_in_use.inside
came g c = elim c.if-is_in_use.branch [
  | then-is_in_use w ↦
      let used = rw c.state.ensures at (c.is_in_use.ensures.0 w.if-is_in_use.true) in
      rw w.inside-is
      (GotInside-waited g.M.Monitor c.enter-inside.ensures.place c.enter-inside.ensures.front used
      w.wait-inside.ensures.of
      w.wait-inside.ensures.place
      w.wait-inside.ensures.front refl refl (w.wait-inside.ensures.ready (omega arith)))
  | else-is_in_use w ↦
      let unused = rw c.state.ensures at (iff_false c.is_in_use.ensures w.if-is_in_use.false) in
      rw w.inside-is
      (GotInside-at_once g.M.Monitor c.enter-inside.ensures.of c.enter-inside.ensures.place
      c.enter-inside.ensures.front unused
      (WriteReady-at_once c.enter-inside.ensures.rest unused))
]

pub leave-requires-clause-rest : goal.leave-requires-clause-rest
leave-requires-clause-rest g c =
    ReadersRest-reserved (came g (goal.at.leave-requires-clause-rest g c).After-state_mut).ready
    (g.met.M.Monitor.takes_data _ _ ∙ (rw c.state_mut.ensures.value at c.reserve-value.ensures.after))

pub returns-clause-trace : goal.returns-clause-trace
returns-clause-trace g c =
    let inside = came g (goal.at.returns-clause-trace g c).After-state_mut in
    record {
      found = g.M.Monitor.data_in c.if-is_in_use.inside;
      front = g.M.Monitor.front_in c.if-is_in_use.inside;
      enters = inside.enters;
      has = rw c.state_mut.ensures.value at c.reserve-value.ensures.value;
      leaves = leaves-as c.leave.ensures.front (g.met.M.Monitor.keeps_place _ _ ∙ inside.place)
          (g.met.M.Monitor.takes_data _ _ ∙ (rw c.state_mut.ensures.value at c.reserve-value.ensures.after))
          (g.met.M.Monitor.keeps_front _ _);
    }
