-- Sleeps for the jobs that are done: one, and one after another.
use Rattle.std.proofs.Common.{ℕ, ◌≡◌, ◌+◌, ◌≤◌, Result, refl, arith}
use Rattle.hoare_law.specs.declared.event.History.{History}
use Rattle.timed_schedulers.specs.declared.alarm.TooFar.{TooFar}
use Rattle.timed_schedulers.specs.AlarmTraces.{Wakes}
use Rattle.disk_service.specs.Sleeps.{woken, Sleeps, never, again, SleepsForEach}

-- one sleep is enough for one job
pub asleep-once : (k : ℕ) (f h : History ℕ) (r : Result ℕ TooFar) (m : ℕ) → Wakes k 1 f h r → m ≤ woken r
    → SleepsForEach k f h 0 m
asleep-once k f h r m w l = record {
  times = woken r;
  done = again 0 (woken r) f h r never w (omega arith);
  enough = omega (arith, l);
}

joined : (k : ℕ) (f g h : History ℕ) (a b c : ℕ) → Sleeps k f a g → Sleeps k g b h → c ≡ a + b → Sleeps k f c h
joined k f g h a b c s never e = let same : c ≡ a = omega arith in rw same s
joined k f g h a b c s (again n m e h1 r t w is) sum =
    again (a + n) c e h1 r (joined k f g e a n (a + n) s t refl) w (omega (arith, is, sum))

-- the sleeps between f and g, and after them those between g and h
pub Sleeps-joined : (k : ℕ) (f g h : History ℕ) (a b : ℕ) → Sleeps k f a g → Sleeps k g b h → Sleeps k f (a + b) h
Sleeps-joined k f g h a b s t = joined k f g h a b (a + b) s t refl
