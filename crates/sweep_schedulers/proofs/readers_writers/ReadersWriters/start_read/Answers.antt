use Rattle.std.proofs.Common.{arith, rules, ◌≡◌, ◌∙◌, false, refl}
use Rattle.hoare_law.proofs.GotInside.{GotInside, GotInside-at_once, GotInside-waited}
use Rattle.hoare_law.proofs.Growth.{Finishes-exit}
use Rattle.sweep_schedulers.specs.ReadersWriters.{ReadReady}
use Rattle.sweep_schedulers.specs.ReadersWritersTraces.{ReaderHeldUp}
use Rattle.sweep_schedulers.proofs.Readers.{ReadReady-admitted, ReadersRest-admitted}
use Rattle.sweep_schedulers.proofs.readers_writers.ReadersWriters.start_read.Given.{Over}
use Rattle.sweep_schedulers.proofs.readers_writers.ReadersWriters.start_read.Goals as goal
use Rattle.sweep_schedulers.proofs.readers_writers.ReadersWriters.start_read.Goals.{After-state_mut, then-is_busy}
use Rattle.sweep_schedulers.proofs.readers_writers.ReadersWriters.start_read.Goals.{else-is_busy+else-queue}

-- the process entered and, after a wait or without one, finds no writer in
came : (g : Over) (c : After-state_mut g)
    → GotInside g.M.Monitor c.args.m.now c.args.out ReaderHeldUp (λ _. 0) (λ _. 0) (λ d _. ReadReady d)
    c.if-is_busy.inside
came g c = elim c.if-is_busy.branch [
  | then-is_busy w ↦ rw w.inside-is (GotInside-waited g.M.Monitor c.enter-inside.ensures.place
      c.enter-inside.ensures.front
      (search rules) w.wait-inside.ensures.of w.wait-inside.ensures.place
      w.wait-inside.ensures.front refl refl (w.wait-inside.ensures.ready (omega arith)))
  | else-is_busy+else-queue w ↦
      let free : (g.M.Monitor.data_in c.enter-inside.result).busy ≡ false = search rules in
      rw w.inside-is
      (GotInside-at_once g.M.Monitor c.enter-inside.ensures.of c.enter-inside.ensures.place c.enter-inside.ensures.front
      (search rules)
      (record { inv = c.enter-inside.ensures.rest.inv; no_writer = free }))
]

pub admit-read-requires : goal.admit-read-requires
admit-read-requires g c = rw c.state_mut.ensures.value (came g c).ready.no_writer

pub signal_leave-out-requires-clause-ready : goal.signal_leave-out-requires-clause-ready
signal_leave-out-requires-clause-ready g c =
    λ _. ReadReady-admitted (came g (goal.at.signal_leave-out-requires-clause-ready g c).After-state_mut).ready
    (rw c.state_mut.ensures.value at c.admit-read.ensures) (g.met.M.Monitor.takes_data _ _)

pub signal_leave-out-requires-clause-rest : goal.signal_leave-out-requires-clause-rest
signal_leave-out-requires-clause-rest g c =
    ReadersRest-admitted (came g (goal.at.signal_leave-out-requires-clause-rest g c).After-state_mut).ready
    (rw c.state_mut.ensures.value at c.admit-read.ensures) (g.met.M.Monitor.takes_data _ _)

pub returns-clause-trace : goal.returns-clause-trace
returns-clause-trace g c =
    let inside = came g (goal.at.returns-clause-trace g c).After-state_mut in
    record {
      found = g.M.Monitor.data_in c.if-is_busy.inside;
      after = c.admit-read.new.self;
      front = g.M.Monitor.front_in c.if-is_busy.inside;
      enters = inside.enters;
      admits = rw c.state_mut.ensures.value at c.admit-read.ensures;
      finishes = Finishes-exit c.signal_leave-out.ensures.front (g.met.M.Monitor.keeps_place _ _ ∙ inside.place)
          (g.met.M.Monitor.takes_data _ _) (g.met.M.Monitor.keeps_front _ _);
    }
