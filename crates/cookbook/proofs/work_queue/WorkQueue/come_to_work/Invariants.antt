use Rattle.std.proofs.Common.{◌≡◌}
use Rattle.cookbook.specs.WorkQueues.{WorkRests}
use Rattle.cookbook.specs.WorkTraces.{ComesToWork}
use Rattle.cookbook.proofs.work_queue.WorkQueue.come_to_work.Given as goal

abbrev pub invariant-rounds : goal.invariant-rounds
invariant-rounds g l = record {
  of : g.M.Monitor.is_of_in l.m l.inside;
  place : g.M.Monitor.place_in l.inside ≡ g.M.Monitor.place l.fn.out;
  rests : WorkRests (g.M.Monitor.data_in l.inside) (g.M.Monitor.lists_in l.inside 0) (g.M.Monitor.lists_in l.inside 1);
  comes :
      ComesToWork (g.M.Monitor.place l.fn.out) (g.M.Monitor.front l.fn.out) (g.M.Monitor.front_in l.inside)
      (g.M.Monitor.data_in l.inside);
}
