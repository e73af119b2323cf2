-- What the procedures of the philosophers' table add to the history.
use Rattle.std.specs.Prelude.{ℕ, List, [], Bool, ◌≡◌, ◌≢◌, ◌<◌, Result, Ok, Err}
use Rattle.hoare_law.specs.declared.event.History.{History}
use Rattle.hoare_law.specs.declared.event.Event.TheVariants.{Admit, Leave}
use Rattle.hoare_law.specs.Events.{with_event}
use Rattle.hoare_law.specs.Waiting.{waiting}
use Rattle.hoare_law.specs.Growth.{AddsLast, GetsInside, Finishes}
use Rattle.cookbook.specs.declared.table.NotEating.{NotEating}
use Rattle.cookbook.specs.Tables.{IsEating, CanEat, seated, risen}

-- k released the monitor with the data t: to a waiter that can eat if there is one, else by a plain leave
pub data HandsOn (k : ℕ) (t : List Bool) (f h : History (List Bool)) : Type 0 where
  to_one : (c : ℕ) → c < 5 → waiting c f.events ≢ [] → CanEat t c → Finishes k c t f h → HandsOn k t f h
  to_nobody : ((c : ℕ) → c < 5 → waiting c f.events ≢ [] → CanEat t c → ⊥) → h ≡ with_event f (Leave k t)
      → HandsOn k t f h

-- k took both forks beside the seat, after a wait on the condition of the seat if it couldn't eat first, and then
-- released the monitor
pub record SitsDown (k seat : ℕ) (f h : History (List Bool)) : Type 0 where
  pub found : List Bool
  pub front : History (List Bool)
  pub enters : GetsInside k (λ _ t. CanEat t seat → ⊥) (λ _. seat) (λ _. 0) f front found
  pub can : CanEat found seat
  pub hands_on : HandsOn k (seated found seat) front h

-- k put down the forks beside the seat, and then released the monitor; or it was refused, since no philosopher eats at
-- the seat, and nothing changed
pub data GetsUp (k seat : ℕ) (f h : History (List Bool)) : Result (Unit {0}) NotEating → Type 0 where
  got_up : (a : List Bool) (g : History (List Bool)) → AddsLast f (Admit k a) g → IsEating a seat
      → HandsOn k (risen a seat) g h → GetsUp k seat f h (Ok tt)
  refused : (a : List Bool) (g : History (List Bool)) (e : NotEating) → AddsLast f (Admit k a) g → (IsEating a seat → ⊥)
      → h ≡ with_event g (Leave k a) → GetsUp k seat f h (Err e)
