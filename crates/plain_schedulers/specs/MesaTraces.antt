-- What the procedures of a buffer with Mesa conditions add to the history.
use Rattle.std.specs.Prelude.{ℕ, Bool, List, ◌∷◌, ◌≡◌, ◌<◌, length}
use Rattle.hoare_law.specs.declared.event.History.{History}
use Rattle.hoare_law.specs.declared.event.Event.TheVariants.{Admit, Wait, Leave, Resume}
use Rattle.hoare_law.specs.Events.{with_event}
use Rattle.hoare_law.specs.Growth.{AddsLast, AddsTwo, Notifies}
use Rattle.plain_schedulers.specs.Buffers.{Buffered, HoldsUp, added, with_items}

-- k entered, and waited on c each time it found that it had to; g is its front after that, and found the data that it
-- finds then
pub data Rounds {T : Type 0} (k c : ℕ) (f : History (Buffered T)) : History (Buffered T) → Buffered T → Type 0 where
  entered : (g : History (Buffered T)) (found : Buffered T) → AddsLast f (Admit k found) g → Rounds k c f g found
  again : (g h : History (Buffered T)) (found now : Buffered T) → Rounds k c f g found → HoldsUp c found
      → AddsTwo g (Wait k c 0 found) (Resume k c now) h → Rounds k c f h now

-- k notified a waiter on c, if there was one, and left with the data s
pub record Tells {S : Type 0} (k c : ℕ) (s : S) (f h : History S) : Type 0 where
  pub answer : Bool
  pub front : History S
  pub notifies : Notifies k c s f front answer
  pub leaves : h ≡ with_event front (Leave k s)

-- k put x in as the newest, notified a waiter on nonempty, if there was one, and left; before that it waited on nonfull
-- each time it found no room
pub record MesaAppends {T : Type 0} (k : ℕ) (x : T) (f h : History (Buffered T)) : Type 0 where
  pub found : Buffered T
  pub front : History (Buffered T)
  pub enters : Rounds k 1 f front found
  pub room : length found.items < found.size
  pub tells : Tells k 0 (added found x) front h

-- k took out x, the oldest, notified a waiter on nonfull, if there was one, and left; before that it waited on nonempty
-- each time it found no item
pub record MesaRemoves {T : Type 0} (k : ℕ) (x : T) (f h : History (Buffered T)) : Type 0 where
  pub found : Buffered T
  pub others : List T
  pub front : History (Buffered T)
  pub enters : Rounds k 0 f front found
  pub oldest : found.items ≡ x ∷ others
  pub tells : Tells k 1 (with_items found others) front h
