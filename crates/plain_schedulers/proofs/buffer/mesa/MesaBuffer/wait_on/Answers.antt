use Rattle.std.proofs.Common.{◌∙◌, arith, refl}
use Rattle.plain_schedulers.proofs.MesaBuffers.{Rounds-again}
use Rattle.plain_schedulers.proofs.buffer.mesa.MesaBuffer.wait_on.Goals as goal

pub rounds-preserved : goal.rounds-preserved
rounds-preserved g c = record {
  of = c.wait-inside.ensures.of;
  place = c.wait-inside.ensures.place ∙ c.rounds.invariant.place;
  holds = c.wait-inside.ensures.rest (omega arith, omega (arith, c.requires.in_range));
  held_up = rw c.state.ensures at (c.if-not-holds_up.ensures.0 refl);
  waited = λ f waited. Rounds-again (c.rounds.invariant.waited f waited) c.rounds.invariant.held_up
      c.wait-inside.ensures.front c.rounds.invariant.place;
}

pub returns-then-not-holds_up-clause-enters : goal.returns-then-not-holds_up-clause-enters
returns-then-not-holds_up-clause-enters g c f waited =
    Rounds-again (c.rounds.invariant.waited f waited) c.rounds.invariant.held_up c.wait-inside.ensures.front
    c.rounds.invariant.place
