use Rattle.std.proofs.Common.{◌≢◌, [], arith}
use Rattle.hoare_law.proofs.Joined.{length-some}
use Rattle.cookbook.specs.Tables.{CanEat}
use Rattle.cookbook.proofs.Tables.{below_more, not_told}
use Rattle.cookbook.proofs.table.Table.is_nobody_kept.Goals as goal
use Rattle.cookbook.proofs.table.Table.is_nobody_kept.Goals.{else-count-gt0-via-then-count-gt0+else-can_eat}
use Rattle.cookbook.proofs.table.Table.is_nobody_kept.Goals.{else-count-gt0-via-else-count-gt0}

pub loop-seat-preserved : goal.loop-seat-preserved
loop-seat-preserved g c =
    below_more
    (λ k. g.W.Waits.waiting_priorities c.args.lists.now k ≢ [] → CanEat c.args.self.now k → ⊥) c.loop-seat.seat
    c.loop-seat.invariant
    (elim c.else-count-gt0.branch [
      | else-count-gt0-via-then-count-gt0+else-can_eat w ↦ λ some can. not_told w.can_eat.ensures w.if-can_eat.false can
      | else-count-gt0-via-else-count-gt0 w ↦ λ some can. absurd
          (omega (arith, length-some _ some, c.count.ensures, w.if-count-gt0.false))
    ])
