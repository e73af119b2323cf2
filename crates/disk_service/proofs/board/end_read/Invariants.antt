use Rattle.std.specs.Prelude.{◌≡◌}
use Rattle.disk_service.proofs.board.end_read.Given as goal

-- the place belongs to this monitor, and its number is the same
abbrev pub invariant-loop : goal.invariant-loop
invariant-loop g l = g.M.Monitor.is_of l.m l.out × (g.M.Monitor.place l.out ≡ g.M.Monitor.place l.fn.out)
