-- How often a worker has taken a buffer from the pool and given it back, compared with how many jobs it has done.
use Rattle.std.specs.Prelude.{ℕ, ◌+◌, ◌≡◌, Result, Ok, Err}
use Rattle.hoare_law.specs.declared.event.History.{History}
use Rattle.timed_schedulers.specs.declared.pool.NoStream.{NoStream}
use Rattle.timed_schedulers.specs.declared.pool.GiveRefused.{GiveRefused}
use Rattle.timed_schedulers.specs.Pools.{Pooled}
use Rattle.timed_schedulers.specs.PoolTraces.{Takes, Gives}
use Rattle.disk_service.specs.EachJob.{ForEach}

-- 1 if the pool took the buffer back, else 0
abbrev pub given_back : Result (Unit {0}) GiveRefused → ℕ
given_back (Ok u) = 1
given_back (Err e) = 0

-- since its front was f, place k has asked for buffers for stream s, and gave back each that it got before it asked for
-- the next; the number is how often the pool took one back
pub data Borrows (k s : ℕ) (f : History Pooled) : ℕ → History Pooled → Type 0 where
  not_once : Borrows k s f 0 f
  in_vain : (n : ℕ) (g h : History Pooled) (e : NoStream) → Borrows k s f n g → Takes k s g h (Err e)
      → Borrows k s f n h
  once_more : (n m buffer : ℕ) (d g h : History Pooled) (r : Result (Unit {0}) GiveRefused) → Borrows k s f n d
      → Takes k s d g (Ok buffer) → Gives k s buffer g h r → m ≡ n + given_back r → Borrows k s f m h

-- place k, whose front was f and is h, took a buffer for stream s and gave it back at least once for each job by which
-- `after` exceeds `before`
abbrev pub BorrowsForEach : ℕ → ℕ → History Pooled → History Pooled → ℕ → ℕ → Type 0
BorrowsForEach k s f h before after = ForEach (Borrows k s) f h before after
