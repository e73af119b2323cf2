-- How a book's fields represent its contents.
use Rattle.std.specs.Prelude.{ℕ, ◌≡◌, ◌<◌, ◌≤◌, nat_lt, if◌then◌else◌, List, [], ◌∷◌, map, All, Option, Some, None, ⊤}
use Rattle.std.specs.Prelude.{◌⊎◌}
use Rattle.hoare_law.specs.declared.turn.Turn.{Turn}
use Rattle.hoare_law.specs.declared.turn.Turn.TheVariants.{Free, Held, Owed, Return}
use Rattle.hoare_law.specs.Sizes.{IsMesa}
use Rattle.hoare_law.specs.Priorities.{in_order}
use Rattle.wait_book.specs.declared.book.TheConstants.{MOST_CONDITIONS}
use Rattle.wait_book.specs.declared.chains.TheConstants.{CALLED, SIGNALLERS}
use Rattle.wait_book.specs.declared.waiter.Waiter.{Waiter}
use Rattle.wait_book.specs.declared.book.Book.TheInside.{Inside}
use Rattle.wait_book.specs.declared.chains.Link.{Link}
use Rattle.wait_book.specs.Contents.{Contents, hoare_of, times_in, waiters_on}
use Rattle.wait_book.specs.Lists.{all_below, list_at, places_in}

-- a link in the chain of the condition c, as a waiter on c
abbrev pub waiter_on : ℕ → Link → Waiter
waiter_on c x = record { place = x.place; condition = c; priority = x.priority }

-- a link in the chain of the called, as a waiter on the condition on which it waited
abbrev pub waiter_of : Link → Waiter
waiter_of x = record { place = x.place; condition = x.condition; priority = x.priority }

-- the called of that chain
abbrev pub called_in : List Link → List Waiter
called_in xs = map waiter_of xs

-- the waiters in the first n chains
abbrev pub waiting_below : ℕ → (ℕ → List Link) → List Waiter
waiting_below n at = all_below waiter_on n at

-- the contents by the fields: the first chains are those of the conditions, and those of the signallers and of the
-- called follow
abbrev pub view_of : Inside → Contents
view_of a = record {
  sizes = a.sizes;
  room_to_wait = a.chains.room;
  room_to_signal = a.chains.room;
  waiters = waiting_below MOST_CONDITIONS (list_at a.chains);
  signallers = places_in (list_at a.chains SIGNALLERS);
  called = called_in (list_at a.chains CALLED);
  turn = a.turn;
}

-- the chain of the place that is to resume, if it is in a chain; the first m conditions are Hoare's
abbrev pub chain_of : Turn → ℕ → Option ℕ
chain_of Free m = None
chain_of (Held k) m = None
chain_of (Owed k c) m = if nat_lt c m then None else Some CALLED
chain_of (Return k) m = Some SIGNALLERS

-- place k, which waited on c, is the first of the called
abbrev pub IsCalledFirst : ℕ → ℕ → List Waiter → Type 0
IsCalledFirst k c [] = ⊥
IsCalledFirst k c (w ∷ ws) = (w.place ≡ k) × (w.condition ≡ c)

-- the turn agrees with the signallers us and the called ws, if the first m conditions are Hoare's
abbrev pub IsTurnBeside : List ℕ → List Waiter → ℕ → Turn → Type 0
IsTurnBeside us ws m Free = us ≡ []
IsTurnBeside us ws m (Held k) = ⊤
IsTurnBeside us ws m (Owed k c) = (c < m) ⊎ IsCalledFirst k c ws
IsTurnBeside [] ws m (Return k) = ⊥
IsTurnBeside (u ∷ us) ws m (Return k) = u ≡ k

-- The sizes are in range, and there is room for each place. Each place in the book is below the number of places, and
-- is there once. The waiters on a condition are in order. No process waits on a condition that isn't the book's: no
-- call requires this (`on_conditions`), but it says that a signal can reach each waiter. Each of the called waited on a
-- Mesa condition. The turn agrees with the lists.
pub record IsSound (b : Contents) : Type 0 where
  pub some_places : 0 < b.sizes.places
  pub few_places : b.sizes.places ≤ 64
  pub some_conditions : 0 < b.sizes.conditions
  pub few_conditions : b.sizes.conditions ≤ 8
  pub few_mesa : b.sizes.mesa ≤ b.sizes.conditions
  pub waiters_fit : b.sizes.places ≤ b.room_to_wait
  pub signallers_fit : b.sizes.places ≤ b.room_to_signal
  pub once : (k : ℕ) → times_in k b ≤ 1
  pub in_range : (k : ℕ) → 0 < times_in k b → k < b.sizes.places
  pub on_conditions : (c : ℕ) → b.sizes.conditions ≤ c → waiters_on c b ≡ []
  pub ordered : (c : ℕ) → in_order (λ (w : Waiter). w.priority) (waiters_on c b) ≡ waiters_on c b
  pub on_mesa : All (λ (w : Waiter). IsMesa b.sizes.conditions b.sizes.mesa w.condition) b.called
  pub turn_fits : IsTurnBeside b.signallers b.called (hoare_of b) b.turn

-- the contents by the fields are sound
abbrev pub IsGood : Inside → Type 0
IsGood a = IsSound (view_of a)
