-- What a book contains, and of which histories it is.
use Rattle.std.specs.Prelude.{ℕ, ◌≡◌, ◌<◌, ◌+◌, ◌-◌, ◌==◌, nat_le, nat_lt, ◌&&◌, if◌then◌else◌, List, [], ◌∷◌, map}
use Rattle.std.specs.Prelude.{Option, Some, None, ⊤}
use Rattle.std.specs.List.{filter}
use Rattle.hoare_law.specs.declared.event.Event.{Event}
use Rattle.hoare_law.specs.declared.event.History.{History}
use Rattle.hoare_law.specs.declared.event.Sizes.{Sizes}
use Rattle.hoare_law.specs.declared.event.Event.TheVariants.{Wait}
use Rattle.hoare_law.specs.declared.turn.Turn.{Turn}
use Rattle.hoare_law.specs.declared.turn.Turn.TheVariants.{Free, Held, Owed, Return}
use Rattle.hoare_law.specs.Waiting.{waiting, priority_of}
use Rattle.hoare_law.specs.Called.{called}
use Rattle.hoare_law.specs.Turns.{urgent, turn, outside}
use Rattle.hoare_law.specs.Priorities.{in_order}
use Rattle.hoare_law.specs.Legal.{IsLegal}
use Rattle.wait_book.specs.declared.waiter.Waiter.{Waiter}
use Rattle.wait_book.specs.declared.steps.Next.{Next}
use Rattle.wait_book.specs.declared.steps.Next.TheVariants as next
use Rattle.wait_book.specs.declared.steps.MakeRefused.{MakeRefused}
use Rattle.wait_book.specs.declared.steps.MakeRefused.TheVariants.{BadPlaces, BadConditions}

-- What a book contains. `room_to_wait` and `room_to_signal` say for how many waiters and waiting signallers it has
-- memory (it may be one memory for both). The waiters on each condition are by rising priority, and equal ones by time.
-- The signallers have the longest waiting first, and the called, which are the notified, the first notified first.
pub record Contents : Type 0 where
  pub sizes : Sizes
  pub room_to_wait : ℕ
  pub room_to_signal : ℕ
  pub waiters : List Waiter
  pub signallers : List ℕ
  pub called : List Waiter
  pub turn : Turn

-- the sizes and the memory are as they were: no more memory was taken
abbrev pub SameSizes : Contents → Contents → Type 0
SameSizes old new =
    (new.sizes ≡ old.sizes) × (new.room_to_wait ≡ old.room_to_wait) × (new.room_to_signal ≡ old.room_to_signal)

-- the waiters on c, in the order in which signals would resume them
abbrev pub waiters_on : ℕ → Contents → List Waiter
waiters_on c b = filter (λ w. w.condition == c) b.waiters

-- the waiters on c whose place is w: one, if w waits there, or none
abbrev pub waits_of : ℕ → ℕ → Contents → List Waiter
waits_of w c b = filter (λ (v : Waiter). v.place == w) (waiters_on c b)

-- the waiting priorities of c
abbrev pub priorities_on : Contents → ℕ → List ℕ
priorities_on b c = in_order (λ p. p) (map (λ (w : Waiter). w.priority) (waiters_on c b))

-- 1 if both are the same place, else 0
unfoldable pub one : ℕ → ℕ → ℕ
one k j = if k == j then 1 else 0

-- how often place k is in a list
abbrev pub times : ℕ → List ℕ → ℕ
times k [] = 0
times k (j ∷ js) = one k j + times k js

-- 1 if place k has the turn by hand, else 0, if the first m conditions are Hoare's: it is inside, or a signal resumed
-- it. (A notified place is in the list of the called until it resumes, and a signaller in that of the signallers until
-- it returns.)
abbrev pub times_in_hand : ℕ → ℕ → Turn → ℕ
times_in_hand k m Free = 0
times_in_hand k m (Held j) = one k j
times_in_hand k m (Owed j c) = if nat_lt c m then one k j else 0
times_in_hand k m (Return j) = 0

-- the number of Hoare's conditions
abbrev pub hoare_of : Contents → ℕ
hoare_of b = b.sizes.conditions - b.sizes.mesa

-- how often place k is in the book: in its lists, or by its turn
abbrev pub times_in : ℕ → Contents → ℕ
times_in k b =
    times k (map (λ (w : Waiter). w.place) b.waiters) +
    (times k b.signallers + (times k (map (λ (w : Waiter). w.place) b.called) + times_in_hand k (hoare_of b) b.turn))

-- the event by which the waiter began to wait
abbrev pub wait_of : Waiter → Event (Unit {0})
wait_of w = Wait w.place w.condition w.priority tt

-- the book is of the history: the history is legal, and the book's sizes, lists and turn and the places that are
-- outside are what the history says
pub record IsOf (b : Contents) (h : History (Unit {0})) : Type 0 where
  pub legal : IsLegal h
  pub sizes : h.sizes ≡ b.sizes
  pub waiters : (c : ℕ) → map wait_of (waiters_on c b) ≡ in_order priority_of (waiting c h.events)
  pub signallers : urgent h.events ≡ b.signallers
  pub called_are : called h.events ≡ map wait_of b.called
  pub turn_is : turn h.events ≡ b.turn
  pub outside_are : (k : ℕ) → outside k h.events ≡ (times_in k b == 0)

-- the turn as callers see it: which place is inside or resumes next
abbrev pub next_of : Turn → Next
next_of Free = next.Free
next_of (Held k) = next.Held k
next_of (Owed k c) = next.For k
next_of (Return k) = next.For k

-- the place that is returned, if there is one, is below n, the number of places
abbrev pub IsPlaceBelow : ℕ → Next → Type 0
IsPlaceBelow n next.Free = ⊤
IsPlaceBelow n (next.For k) = k < n
IsPlaceBelow n (next.Held k) = k < n

-- the first refusal of these sizes, if the memory can be allocated
abbrev pub make_refusal : Sizes → Option MakeRefused
make_refusal n =
    if nat_le 1 n.places && nat_le n.places 64 then
    (if nat_le 1 n.conditions && (nat_le n.conditions 8 && nat_le n.mesa n.conditions) then None else Some
    BadConditions)
    else Some BadPlaces
