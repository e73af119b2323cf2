use Rattle.std.proofs.Common.{◌≡◌, ◌*◌, ◌≤◌, length, take}
use Rattle.disk_jobs.specs.Services.{sum_of}
use Rattle.disk_jobs.proofs.gathering.sum_of.Given as goal

abbrev pub invariant-loop-i : goal.invariant-loop-i
invariant-loop-i l = record {
  so_far : l.i ≤ length l.lines;
  sum : l.sum ≡ sum_of (take l.i l.lines);
  small : l.sum ≤ l.i * 65535;
}
