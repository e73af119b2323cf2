use Rattle.std.proofs.Common.{◌≡◌, ℕ, ◌<◌, ◌≤◌, length, get_or}
use Rattle.disk_jobs.specs.Services.{Served, served}
use Rattle.disk_jobs.proofs.gathering.is_in_order.Given as goal

abbrev pub invariant-loop-i : goal.invariant-loop-i
invariant-loop-i l = record {
  so_far : l.i ≤ length l.lines;
  each : (k : ℕ) (d : Served) → k < l.i → get_or l.lines k d ≡ served k (get_or l.cylinders k 0);
}
