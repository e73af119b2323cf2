use Rattle.std.proofs.Common.{◌≡◌, replicate, None}
use Rattle.plain_schedulers.proofs.buffer.ring.empty_cells.Given as goal

-- there are as many cells as the loop counted, all empty
abbrev pub invariant-loop : goal.invariant-loop
invariant-loop g l = l.cells.items ≡ replicate l.counter None
