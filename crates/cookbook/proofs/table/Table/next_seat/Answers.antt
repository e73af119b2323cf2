use Rattle.std.proofs.Common.{◌≢◌, [], rules, arith}
use Rattle.hoare_law.specs.Waiting.{waiting}
use Rattle.cookbook.specs.Tables.{CanEat}
use Rattle.cookbook.proofs.Tables.{below_more, not_told}
use Rattle.cookbook.proofs.table.Table.next_seat.Goals as goal
use Rattle.cookbook.proofs.table.Table.next_seat.Goals.{else-queue-via-then-queue+else-can_eat}
use Rattle.cookbook.proofs.table.Table.next_seat.Goals.{else-queue-via-else-queue}

pub loop-seat-preserved : goal.loop-seat-preserved
loop-seat-preserved g c = record {
  lists =
      below_more
      (λ k. g.M.Monitor.lists_in c.args.inside.now k ≢ [] → CanEat (g.M.Monitor.data_in c.args.inside.now) k → ⊥)
      c.loop-seat.seat c.loop-seat.invariant.lists
      (elim c.else-queue.branch [
        | else-queue-via-then-queue+else-can_eat w ↦ λ some. search rules
        | else-queue-via-else-queue w ↦ λ some can. not_told c.queue.ensures.lists w.if-queue.false some
      ]);
  front =
      below_more
      (λ k. waiting k (g.M.Monitor.front_in c.args.inside.now).events ≢ []
      → CanEat (g.M.Monitor.data_in c.args.inside.now) k → ⊥) c.loop-seat.seat
      c.loop-seat.invariant.front
      (elim c.else-queue.branch [
        | else-queue-via-then-queue+else-can_eat w ↦ λ some. search rules
        | else-queue-via-else-queue w ↦ λ some can. not_told c.queue.ensures.front w.if-queue.false some
      ]);
}

pub returns-clause-lists : goal.returns-clause-lists
returns-clause-lists g c = λ k lt. c.loop-seat.invariant.lists k (omega (arith, lt, c.loop-seat-test.false))
