use Rattle.std.proofs.Common.{◌≡◌}
use Rattle.hoare_law.specs.declared.event.History.{History}
use Rattle.plain_schedulers.specs.Buffers.{Buffered, BufferHolds, HoldsUp}
use Rattle.plain_schedulers.specs.MesaTraces.{Rounds}
use Rattle.plain_schedulers.proofs.buffer.mesa.MesaBuffer.wait_on.Given as goal

abbrev pub invariant-rounds : goal.invariant-rounds
invariant-rounds g l = record {
  of : g.M.Monitor.is_of_in l.m l.inside;
  place : g.M.Monitor.place_in l.inside ≡ g.M.Monitor.place_in l.fn.inside;
  holds : BufferHolds (g.M.Monitor.data_in l.inside);
  held_up : HoldsUp l.condition (g.M.Monitor.data_in l.inside);
  waited :
      (f : History (Buffered _))
      → Rounds (g.M.Monitor.place_in l.fn.inside) l.condition f (g.M.Monitor.front_in l.fn.inside)
      (g.M.Monitor.data_in l.fn.inside)
      → Rounds (g.M.Monitor.place_in l.fn.inside) l.condition f (g.M.Monitor.front_in l.inside)
      (g.M.Monitor.data_in l.inside);
}
