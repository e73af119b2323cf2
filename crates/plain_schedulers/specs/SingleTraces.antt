-- What the procedures of a single item add to the history. The data is the item, if it is in.
use Rattle.std.specs.Prelude.{ℕ, ◌≡◌, Option, Some, None, IsSome, Result, Ok, Err}
use Rattle.hoare_law.specs.declared.event.History.{History}
use Rattle.hoare_law.specs.declared.event.Event.TheVariants.{Admit, Leave}
use Rattle.hoare_law.specs.Events.{with_event}
use Rattle.hoare_law.specs.Growth.{AddsLast, GetsInside, Finishes}
use Rattle.plain_schedulers.specs.declared.single.NotOut.{NotOut}

-- k took the item that it found and left; before that it waited on nonbusy, once, if it found the item out
pub record Acquires {T : Type 0} (k : ℕ) (item : T) (f h : History (Option T)) : Type 0 where
  pub found : Option T
  pub front : History (Option T)
  pub enters : GetsInside k (λ _ a. a ≡ None) (λ _. 0) (λ _. 0) f front found
  pub is_in : found ≡ Some item
  pub leaves : h ≡ with_event front (Leave k None)

-- k put the item in and signalled on nonbusy as its last act; or it was refused, left, and has the item back
pub data Releases {T : Type 0} (k : ℕ) (item : T) (f h : History (Option T)) : Result (Unit {0})
    (NotOut T) → Type 0 where
  put_in : (a : Option T) (g : History (Option T)) → AddsLast f (Admit k a) g → a ≡ None
      → Finishes k 0 (Some item) g h → Releases k item f h (Ok tt)
  refused : (a : Option T) (g : History (Option T)) → AddsLast f (Admit k a) g → IsSome a
      → h ≡ with_event g (Leave k a) → Releases k item f h (Err (record { item = item }))
