-- What the procedures of a latch add to the history. The data is the number of counts left until it opens.
use Rattle.std.specs.Prelude.{ℕ, ◌≡◌, ◌<◌, ◌≤◌, ◌-◌}
use Rattle.hoare_law.specs.declared.event.History.{History}
use Rattle.hoare_law.specs.declared.event.Event.TheVariants.{Admit, Leave}
use Rattle.hoare_law.specs.Events.{with_event}
use Rattle.hoare_law.specs.Growth.{AddsLast, GetsInside, Finishes}

-- k counted the latch down and left it shut; or k opened it or found it open, and resumed a waiter if there was one
pub data CountsDown (k : ℕ) (f h : History ℕ) : Type 0 where
  stays_shut : (a : ℕ) (g : History ℕ) → AddsLast f (Admit k a) g → 1 < a → h ≡ with_event g (Leave k (a - 1))
      → CountsDown k f h
  is_open : (a : ℕ) (g : History ℕ) → AddsLast f (Admit k a) g → a ≤ 1 → Finishes k 0 0 g h → CountsDown k f h

-- k found the latch open, after a wait if it was shut first, and resumed the next waiter if there was one
pub record Passes (k : ℕ) (f h : History ℕ) : Type 0 where
  pub found : ℕ
  pub front : History ℕ
  pub enters : GetsInside k (λ _ a. 0 < a) (λ _. 0) (λ _. 0) f front found
  pub open_then : found ≡ 0
  pub finishes : Finishes k 0 found front h
