-- What the procedures of a buffer add to the history.
use Rattle.std.specs.Prelude.{ℕ, List, ◌∷◌, ◌≡◌, ◌<◌, length}
use Rattle.hoare_law.specs.declared.event.History.{History}
use Rattle.hoare_law.specs.Growth.{GetsInside, Finishes}
use Rattle.plain_schedulers.specs.Buffers.{Buffered, added, with_items}

-- k put x in as the newest and signalled on nonempty as its last act; before that it waited on nonfull, once, if it
-- found no room
pub record Appends {T : Type 0} (k : ℕ) (x : T) (f h : History (Buffered T)) : Type 0 where
  pub found : Buffered T
  pub front : History (Buffered T)
  pub enters : GetsInside k (λ _ a. length a.items ≡ a.size) (λ _. 1) (λ _. 0) f front found
  pub room : length found.items < found.size
  pub finishes : Finishes k 0 (added found x) front h

-- k took out x, the oldest, and signalled on nonfull as its last act; before that it waited on nonempty, once, if it
-- found no item
pub record Removes {T : Type 0} (k : ℕ) (x : T) (f h : History (Buffered T)) : Type 0 where
  pub found : Buffered T
  pub others : List T
  pub front : History (Buffered T)
  pub enters : GetsInside k (λ _ a. length a.items ≡ 0) (λ _. 0) (λ _. 0) f front found
  pub oldest : found.items ≡ x ∷ others
  pub finishes : Finishes k 1 (with_items found others) front h
