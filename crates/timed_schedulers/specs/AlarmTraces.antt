-- What the procedures of an alarm clock add to the history. The data is the time.
use Rattle.std.specs.Prelude.{ℕ, ◌+◌, ◌-◌, ◌^◌, ◌<◌, ◌≤◌, ◌≡◌, Result, Ok, Err}
use Rattle.hoare_law.specs.declared.event.History.{History}
use Rattle.hoare_law.specs.declared.event.Event.TheVariants.{Admit, Wait, Leave, Resume}
use Rattle.hoare_law.specs.Events.{with_event}
use Rattle.hoare_law.specs.Growth.{AddsLast, AddsTwo, Finishes}
use Rattle.timed_schedulers.specs.declared.alarm.TooFar.{TooFar}
use Rattle.timed_schedulers.specs.declared.alarm.ClockFull.{ClockFull}

-- k was inside with the front e and found the time a; it waited on wakeup with its setting each time it found an
-- earlier time. g is its front after that, and found the time that it finds then
pub data Rounds (k setting : ℕ) (e : History ℕ) (a : ℕ) : History ℕ → ℕ → Type 0 where
  none : Rounds k setting e a e a
  more : (g h : History ℕ) (found now : ℕ) → Rounds k setting e a g found → found < setting
      → AddsTwo g (Wait k 0 setting found) (Resume k 0 now) h → Rounds k setting e a h now

-- k was refused, since its setting is past the last time; or it waited until its setting, which is the time that it
-- found plus n, signalled on wakeup as its last act, and returns its setting
pub data Wakes (k n : ℕ) (f h : History ℕ) : Result ℕ TooFar → Type 0 where
  too_far : (a : ℕ) (g : History ℕ) (e : TooFar) → AddsLast f (Admit k a) g → 2 ^ 64 ≤ a + n
      → h ≡ with_event g (Leave k a) → Wakes k n f h (Err e)
  woke : (a : ℕ) (e g : History ℕ) → AddsLast f (Admit k a) e → a + n < 2 ^ 64 → Rounds k (a + n) e a g (a + n)
      → Finishes k 0 (a + n) g h → Wakes k n f h (Ok (a + n))

-- k was refused, since the time is the last; or it set the next time, signalled on wakeup as its last act, and returns
-- the time that it set
pub data Ticks (k : ℕ) (f h : History ℕ) : Result ℕ ClockFull → Type 0 where
  full : (a : ℕ) (g : History ℕ) (e : ClockFull) → AddsLast f (Admit k a) g → a ≡ 2 ^ 64 - 1
      → h ≡ with_event g (Leave k a) → Ticks k f h (Err e)
  ticked : (a : ℕ) (g : History ℕ) → AddsLast f (Admit k a) g → a < 2 ^ 64 - 1
      → Finishes k 0 (a + 1) g h → Ticks k f h (Ok (a + 1))
