-- How often a worker was woken by the alarm clock, compared with how many jobs it has done.
use Rattle.std.specs.Prelude.{ℕ, ◌+◌, ◌≡◌, Result, Ok, Err}
use Rattle.hoare_law.specs.declared.event.History.{History}
use Rattle.timed_schedulers.specs.declared.alarm.TooFar.{TooFar}
use Rattle.timed_schedulers.specs.AlarmTraces.{Wakes}
use Rattle.disk_service.specs.EachJob.{ForEach}

-- 1 if the worker was woken, else 0
abbrev pub woken : Result ℕ TooFar → ℕ
woken (Ok time) = 1
woken (Err e) = 0

-- since its front was f, place k has asked again and again to be woken after one tick; the number is how often it was
-- woken
pub data Sleeps (k : ℕ) (f : History ℕ) : ℕ → History ℕ → Type 0 where
  never : Sleeps k f 0 f
  again : (n m : ℕ) (g h : History ℕ) (r : Result ℕ TooFar) → Sleeps k f n g → Wakes k 1 g h r → m ≡ n + woken r
      → Sleeps k f m h

-- place k, whose front was f and is h, slept for a tick at least once for each job by which `after` exceeds `before`
abbrev pub SleepsForEach : ℕ → History ℕ → History ℕ → ℕ → ℕ → Type 0
SleepsForEach k f h before after = ForEach (Sleeps k) f h before after
