use Rattle.std.proofs.Common.{◌∙◌, arith, refl}
use Rattle.cookbook.specs.WorkTraces.{entered}
use Rattle.cookbook.proofs.WorkQueues.{WorkRests-idle, ComesToWork-again}
use Rattle.cookbook.proofs.work_queue.WorkQueue.come_to_work.Goals as goal

pub rounds-init : goal.rounds-init
rounds-init g c = record {
  of = c.enter-inside.ensures.of;
  place = c.enter-inside.ensures.place;
  rests = c.enter-inside.ensures.rest;
  comes = entered _ _ c.enter-inside.ensures.front;
}

pub wait-inside-requires-clause-rest : goal.wait-inside-requires-clause-rest
wait-inside-requires-clause-rest g c =
    WorkRests-idle c.rounds.invariant.rests (rw c.state.ensures at (c.if-not-is_idle.ensures.0 refl))

pub rounds-preserved : goal.rounds-preserved
rounds-preserved g c = record {
  of = c.wait-inside.ensures.of;
  place = c.wait-inside.ensures.place ∙ c.rounds.invariant.place;
  rests = c.wait-inside.ensures.rest (omega arith, omega arith);
  comes =
      let idle = rw c.state.ensures at (c.if-not-is_idle.ensures.0 refl) in
      ComesToWork-again c.rounds.invariant.comes idle c.wait-inside.ensures.front c.rounds.invariant.place;
}
