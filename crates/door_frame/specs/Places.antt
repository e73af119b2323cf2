-- What a contract sees of a door, of a place, and of all places of a door.
use Rattle.std.specs.Prelude.{◌≡◌, ◌⊎◌, ◌<◌, ℕ, zero, suc, true, List, [], ◌∷◌, All, slice_index, slice_index_or}
use Rattle.std.specs.Prelude.{Option}
use Rattle.std.specs.Prelude.{Some, ⊤}
use Rattle.atomic_table.specs.Seated.{TableId}
use Rattle.hoare_law.specs.declared.event.Event.{Event}
use Rattle.hoare_law.specs.declared.event.History.{History}
use Rattle.hoare_law.specs.Sizes.{IsHoare, IsMesa, Kinds, sizes_at}
use Rattle.hoare_law.specs.declared.event.Event.TheVariants.{Admit, Wait, Signal, Resume, Back}
use Rattle.hoare_law.specs.declared.turn.Turn.TheVariants.{Held}
use Rattle.hoare_law.specs.Events.{own, place_of, latest_data, with_event}
use Rattle.hoare_law.specs.Turns.{is_signal, turn, outside}
use Rattle.hoare_law.specs.Growth.{Begins, Grows, AddsLast, AddsTwo}
use Rattle.hoare_law.specs.Lawful.{Rest, Ready, Stands}
use Rattle.hoare_law.specs.Priorities.{priorities, taken, left_by}
use Rattle.hoare_law.specs.Waiting.{Chooses, priority_of, wait_by}
use Rattle.wait_book.specs.declared.steps.Next.{Next}
use Rattle.wait_book.specs.declared.steps.Next.TheVariants.{For}
use Rattle.door_frame.specs.Refusals.{NotOwed}

-- a door: its table, how many places it has, and what they park on, in their order
pub record DoorId : Type 0 where
  pub table : TableId
  pub places : ℕ
  pub sleepers : List TableId

abbrev pub door_of : TableId → ℕ → List TableId → DoorId
door_of z n ws = record { table = z; places = n; sleepers = ws }

-- what place k of the door parks on (if there is no such place, the table, on which nobody parks)
abbrev pub sleeper_at : DoorId → ℕ → TableId
sleeper_at d k = slice_index_or d.sleepers k d.table

-- what a place has of its door: the table, and what the place parks on
pub record PlaceId : Type 0 where
  pub table : TableId
  pub sleeper : TableId

abbrev pub place_id : TableId → TableId → PlaceId
place_id z w = record { table = z; sleeper = w }

-- the place id of place k: what wakes place k wakes the thread that parks on this sleeper
abbrev pub place_id_at : DoorId → ℕ → PlaceId
place_id_at d k = place_id d.table (sleeper_at d k)

-- the place that resumes next, if there is one, was woken
abbrev pub IsWoken : DoorId → Next → Option TableId → Type 0
IsWoken d (For k) woken = woken ≡ Some (sleeper_at d k)
IsWoken d _ woken = ⊤

-- a place outside, with its front
pub record PlaceOut (D : Type 0) : Type 0 where
  pub place_id : PlaceId
  pub place : ℕ
  pub front : History D

-- a place inside, with the data in hand
pub record PlaceIn (D : Type 0) : Type 0 where
  pub place_id : PlaceId
  pub place : ℕ
  pub front : History D
  pub state : D

module _ {D : Type 0} where
  abbrev pub place_out : PlaceId → ℕ → History D → PlaceOut D
  place_out b k f = record { place_id = b; place = k; front = f }

  abbrev pub place_in : PlaceId → ℕ → History D → D → PlaceIn D
  place_in b k f s = record { place_id = b; place = k; front = f; state = s }

  abbrev pub with_state : PlaceIn D → D → PlaceIn D
  with_state i s = place_in i.place_id i.place i.front s

  -- ready holds for the first waiter on c, of the data of the place inside and of the lists without that waiter
  abbrev pub Handed : Ready D → ℕ → PlaceIn D → Type 0
  Handed ready c i = ready c (slice_index (priorities i.front.events c) 0) i.state (taken (priorities i.front.events) c)

  -- ready holds for w, if w waits on c, of the data of the place inside and of the lists without that waiter
  abbrev pub HandedTo : Ready D → ℕ → ℕ → PlaceIn D → Type 0
  HandedTo ready c w i =
      (x : Event D) → wait_by w c i.front.events ≡ Some x
      → ready c (priority_of x) i.state (left_by (priorities i.front.events) c (priority_of x))

  -- the places k, .., k + n - 1 of the door, with one front
  abbrev pub places_from : DoorId → ℕ → ℕ → History D → List (PlaceOut D)
  places_from d k zero f = []
  places_from d k (suc n) f = place_out (place_id_at d k) k f ∷ places_from d (suc k) n f

  -- place k is in the list
  abbrev pub HasPlace : ℕ → List (PlaceOut D) → Type 0
  HasPlace k [] = ⊥
  HasPlace k (o ∷ os) = (o.place ≡ k) ⊎ HasPlace k os

  -- the history begins with what the place knows, and has no other events of it
  pub record IsInHistory (h : History D) (o : PlaceOut D) : Type 0 where
    pub begins : Begins o.front h
    pub own_are : own o.place h.events ≡ own o.place o.front.events

  -- the place i handed the monitor off to the chosen waiter on c, by a signal; its front is then g
  pub record HandsTo (c : ℕ) (i : PlaceIn D) (g : History D) : Type 0 where
    pub goes_on : ℕ
    pub is_chosen : Chooses c i.front.events goes_on
    pub front : g ≡ with_event i.front (Signal i.place c goes_on i.state)

  -- the last event of the place k, by which it released the monitor and is away: a wait, or a signal e. After it g has
  -- events of other places alone
  pub data Released (k : ℕ) (g : History D) : Type 0 where
    waits : (f : History D) (c p : ℕ) (s : D) → Grows k [] (with_event f (Wait k c p s)) g → Released k g
    signalled : (f : History D) (e : Event D) → is_signal e ≡ true → place_of e ≡ k → Grows k [] (with_event f e) g
        → Released k g

  module _ (rest : Rest D) (ready : Ready D) (kinds : Kinds) where
    -- the place outside is of the door: it parks where it is woken, and what it knows is legal and lawful, and has it
    -- outside
    pub record IsOut (door : DoorId) (o : PlaceOut D) : Type 0 where
      pub of : o.place_id ≡ place_id_at door o.place
      pub sized : o.front.sizes ≡ sizes_at kinds door.places
      pub below : o.place < door.places
      pub stands : Stands rest ready o.front
      pub is_outside : outside o.place o.front.events ≡ true

    -- the place inside is of the door: it parks where it is woken, and what it knows is legal and lawful, and has it
    -- inside
    pub record IsIn (door : DoorId) (i : PlaceIn D) : Type 0 where
      pub of : i.place_id ≡ place_id_at door i.place
      pub sized : i.front.sizes ≡ sizes_at kinds door.places
      pub stands : Stands rest ready i.front
      pub is_inside : turn i.front.events ≡ Held i.place

    -- the place o, which was outside, is inside as i
    pub record Entered (door : DoorId) (o : PlaceOut D) (i : PlaceIn D) : Type 0 where
      pub of : IsIn door i
      pub place : i.place ≡ o.place
      pub rests : rest i.state (priorities i.front.events)
      pub front : AddsLast o.front (Admit o.place i.state) i.front

    -- the place that is away is of the door: it parks where it is woken, and what it knows is legal and lawful, and the
    -- last event of the place there is its wait or its signal
    pub record IsAway (door : DoorId) (o : PlaceOut D) : Type 0 where
      pub of : o.place_id ≡ place_id_at door o.place
      pub sized : o.front.sizes ≡ sizes_at kinds door.places
      pub below : o.place < door.places
      pub stands : Stands rest ready o.front
      pub went : Released o.place o.front

    -- the place k, whose front was f before it waited on c with the data s, is inside again as i
    pub record IsResumed (k : ℕ) (f : History D) (c p : ℕ) (s : D) (i : PlaceIn D) : Type 0 where
      pub front : AddsTwo f (Wait k c p s) (Resume k c i.state) i.front
      pub is_ready : IsHoare kinds.conditions kinds.mesa c → ready c p i.state (priorities i.front.events)
      pub rests : IsMesa kinds.conditions kinds.mesa c → rest i.state (priorities i.front.events)

    -- the place k, whose front was f before its signal e, is inside again as i
    pub record IsReturned (k : ℕ) (f : History D) (e : Event D) (i : PlaceIn D) : Type 0 where
      pub front : AddsTwo f e (Back k i.state) i.front
      pub rests : rest i.state (priorities i.front.events)

    -- the place o, which was away, is inside again as i: it returned from its last event, and i begins with what o knew
    pub record IsBack (door : DoorId) (o : PlaceOut D) (i : PlaceIn D) : Type 0 where
      pub of : IsIn door i
      pub place : i.place ≡ o.place
      pub begins : Begins o.front i.front
      pub resumed : (f : History D) (c p : ℕ) (s : D) → Grows o.place [] (with_event f (Wait o.place c p s)) o.front
          → IsResumed o.place f c p s i
      pub returned : (f : History D) (e : Event D) → is_signal e ≡ true → place_of e ≡ o.place
          → Grows o.place [] (with_event f e) o.front → IsReturned o.place f e i

    -- the place o, which was away, is still away, as p: it learned events of other places, and a history in which the
    -- monitor isn't owed to it
    pub record IsStillAway (door : DoorId) (o p : PlaceOut D) : Type 0 where
      pub of : IsAway door p
      pub place : p.place ≡ o.place
      pub front : Grows o.place [] o.front p.front
      pub cause : NotOwed o.place p.front

    -- one legal and lawful history of all places of the door ends with these data
    pub record Closes (door : DoorId) (os : List (PlaceOut D)) (s : D) : Type 0 where
      pub history : History D
      pub sized : history.sizes ≡ sizes_at kinds door.places
      pub stands : Stands rest ready history
      pub fronts : All (IsInHistory history) os
      pub latest : s ≡ latest_data history
