-- What the procedures of a drain add to the history. The data is the number of pieces of work under way.
use Rattle.std.specs.Prelude.{ℕ, ◌≡◌, ◌<◌, ◌≤◌, ◌+◌, ◌-◌, Result, Ok, Err}
use Rattle.hoare_law.specs.declared.event.History.{History}
use Rattle.hoare_law.specs.declared.event.Event.TheVariants.{Admit, Leave}
use Rattle.hoare_law.specs.Events.{with_event}
use Rattle.hoare_law.specs.Growth.{AddsLast, GetsInside, Finishes}
use Rattle.cookbook.specs.declared.drain.TooMuchWork.{TooMuchWork}

-- k began a piece of work; or it was refused, since 1,000,000 were under way, and nothing changed
pub data Begins (k : ℕ) (f h : History ℕ) : Result (Unit {0}) TooMuchWork → Type 0 where
  begun : (a : ℕ) (g : History ℕ) → AddsLast f (Admit k a) g → a < 1000000 → h ≡ with_event g (Leave k (a + 1))
      → Begins k f h (Ok tt)
  refused : (a : ℕ) (g : History ℕ) (e : TooMuchWork) → AddsLast f (Admit k a) g → 1000000 ≤ a
      → h ≡ with_event g (Leave k a) → Begins k f h (Err e)

-- k ended a piece of work and others are still under way; or k ended the last or found none, and resumed a waiter if
-- there was one
pub data Ends (k : ℕ) (f h : History ℕ) : Type 0 where
  goes_on : (a : ℕ) (g : History ℕ) → AddsLast f (Admit k a) g → 1 < a → h ≡ with_event g (Leave k (a - 1)) → Ends k f h
  is_over : (a : ℕ) (g : History ℕ) → AddsLast f (Admit k a) g → a ≤ 1 → Finishes k 0 0 g h → Ends k f h

-- k found no work under way, after a wait if it first found some, and resumed the next waiter if there was one
pub record Drains (k : ℕ) (f h : History ℕ) : Type 0 where
  pub found : ℕ
  pub front : History ℕ
  pub enters : GetsInside k (λ _ a. 0 < a) (λ _. 0) (λ _. 0) f front found
  pub dry : found ≡ 0
  pub finishes : Finishes k 0 found front h
