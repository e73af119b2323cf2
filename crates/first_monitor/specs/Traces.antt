-- What the procedures add to the history, with the data found and left.
use Rattle.std.specs.Prelude.{ℕ, ◌+◌, ◌-◌, ◌<◌, ◌≡◌, Result, Ok, Err}
use Rattle.hoare_law.specs.declared.event.History.{History}
use Rattle.hoare_law.specs.declared.event.Event.TheVariants.{Admit, Leave}
use Rattle.hoare_law.specs.Events.{with_event}
use Rattle.hoare_law.specs.Growth.{AddsLast, GetsInside, Finishes}
use Rattle.first_monitor.specs.declared.permits.Class.{Class}
use Rattle.first_monitor.specs.declared.permits.Class.TheVariants.{Express, Standard}
use Rattle.first_monitor.specs.declared.permits.NoneTaken.{NoneTaken}
use Rattle.first_monitor.specs.declared.permits.Permits.{Permits}

-- the priority of a class: the least goes first
abbrev pub priority_of : Class → ℕ
priority_of Express = 0
priority_of Standard = 1

-- the pool a with n permits free
abbrev pub with_free : Permits → ℕ → Permits
with_free a n = record { total = a.total; free = n }

-- k found a free permit, after a wait with the priority of its class if none was free first, and took it
pub record Takes (k : ℕ) (class : Class) (f h : History Permits) : Type 0 where
  pub found : Permits
  pub front : History Permits
  pub enters : GetsInside k (λ _ a. a.free ≡ 0) (λ _. 0) (λ _. priority_of class) f front found
  pub some : 0 < found.free
  pub leaves : h ≡ with_event front (Leave k (with_free found (found.free - 1)))

-- k put a permit back and resumed a waiter if there was one; or it was refused, since all permits were free, and
-- nothing changed
pub data Gives (k : ℕ) (f h : History Permits) : Result (Unit {0}) NoneTaken → Type 0 where
  put_back : (a : Permits) (g : History Permits) → AddsLast f (Admit k a) g → a.free < a.total
      → Finishes k 0 (with_free a (a.free + 1)) g h → Gives k f h (Ok tt)
  refused : (a : Permits) (g : History Permits) (e : NoneTaken) → AddsLast f (Admit k a) g → a.free ≡ a.total
      → h ≡ with_event g (Leave k a) → Gives k f h (Err e)

-- k entered, found n permits free, and left
pub record Looks (k : ℕ) (f h : History Permits) (n : ℕ) : Type 0 where
  pub found : Permits
  pub front : History Permits
  pub enters : AddsLast f (Admit k found) front
  pub free : found.free ≡ n
  pub leaves : h ≡ with_event front (Leave k found)
