-- The state of a place of a door, and what each act makes of it.
use Rattle.std.specs.Prelude.{◌≡◌, ◌<◌, ◌≤◌, ℕ, [], ⊤, Bool, IsTrue, if◌then◌else◌}
use Rattle.std.specs.Prelude.{◌≢◌, ◌↔◌, length, slice_index, Option, Some, None}
use Rattle.hoare_law.specs.declared.event.Event.TheVariants.{Admit, Wait, Leave, SignalTo}
use Rattle.hoare_law.specs.declared.event.History.{History}
use Rattle.hoare_law.specs.declared.unconstrained.Unconstrained.{Unconstrained}
use Rattle.hoare_law.specs.Events.{opened, with_event}
use Rattle.hoare_law.specs.Growth.{AddsLast, Exits, Grows}
use Rattle.hoare_law.specs.Growth as growth
use Rattle.hoare_law.specs.Lawful.{Rest, Ready}
use Rattle.hoare_law.specs.Priorities.{priorities}
use Rattle.hoare_law.specs.Sizes.{IsHoare, IsMesa, sizes_of}
use Rattle.hoare_law.specs.Turns.{turn}
use Rattle.hoare_law.specs.Waiting.{IsWaiting}
use Rattle.wait_book.specs.Contents.{IsPlaceBelow, next_of}
use Rattle.door_frame.specs.Places.{PlaceIn, PlaceOut, IsAway, IsBack, IsIn, IsOut, IsStillAway, HandsTo, with_state}
use Rattle.door_frame.specs.Refusals.{NotFree}
use Rattle.baton_door.specs.StepDoors.{StepId}
use Rattle.door_place.specs.Codes.{code_of}
use Rattle.door_place.specs.declared.state.State.{State}
use Rattle.door_place.specs.declared.state.State.TheVariants.{Outside, Inside, Away, Nowhere}

-- the data: one word of the caller's
abbrev pub Carried : Type 0
Carried = Unconstrained ℕ 1

-- rest and ready ask nothing of the data
abbrev pub calm : Rest Carried
calm s q = ⊤

abbrev pub any : Ready Carried
any c p s q = ⊤

-- the place is of the door; what it knows of the one history of all places is legal, and has the place in this state
abbrev pub IsState : StepId → State → Type 0
IsState d (Outside o) = IsOut calm any d.kinds d.door o
IsState d (Inside i) = IsIn calm any d.kinds d.door i
IsState d (Away o) = IsAway calm any d.kinds d.door o
IsState d Nowhere = ⊤

-- what the place knows of that history; a place that isn't here knows nothing
abbrev pub front_of : State → History Carried
front_of (Outside o) = o.front
front_of (Inside i) = i.front
front_of (Away o) = o.front
front_of Nowhere = opened (sizes_of 0 0 0) (record { value = 0 })

-- the number of the place, if it is here
abbrev pub place_of : State → Option ℕ
place_of (Outside o) = Some o.place
place_of (Inside i) = Some i.place
place_of (Away o) = Some o.place
place_of Nowhere = None

-- the number of the place; 0 if it isn't here
abbrev pub number_of : State → ℕ
number_of (Outside o) = o.place
number_of (Inside i) = i.place
number_of (Away o) = o.place
number_of Nowhere = 0

abbrev pub IsOutside : State → Type 0
IsOutside (Outside o) = ⊤
IsOutside _ = ⊥

abbrev pub NotOutside : State → Type 0
NotOutside (Outside o) = ⊥
NotOutside _ = ⊤

abbrev pub NotInside : State → Type 0
NotInside (Inside i) = ⊥
NotInside _ = ⊤

abbrev pub NotAway : State → Type 0
NotAway (Away o) = ⊥
NotAway _ = ⊤

-- the code is the place that resumes next or is inside after this history, below 64, or 64 if there is none
pub record Wakes (h : History Carried) (code : ℕ) : Type 0 where
  pub is : code ≡ code_of (next_of (turn h.events))
  pub below : IsPlaceBelow 64 (next_of (turn h.events))

-- an attempt to enter: the place is inside, with what it found (64); it is still outside, and learned events of other
-- places, and a history in which the monitor isn't free (102); it isn't outside (103)
pub data TriesToEnter (old new : State) (code : ℕ) : Type 0 where
  entered : (o : PlaceOut Carried) (i : PlaceIn Carried) → old ≡ Outside o → new ≡ Inside i → code ≡ 64
      → i.place ≡ o.place → AddsLast o.front (Admit o.place i.state) i.front → TriesToEnter old new code
  not_now : (o p : PlaceOut Carried) → old ≡ Outside o → new ≡ Outside p → p.place ≡ o.place
      → Grows o.place [] o.front p.front → NotFree p.front → code ≡ 102 → TriesToEnter old new code
  not_outside : NotOutside old → new ≡ old → code ≡ 103 → TriesToEnter old new code

-- a leave: the place is outside, and the code is the place to wake; it isn't inside (104)
pub data Leaves (old new : State) (code : ℕ) : Type 0 where
  left : (i : PlaceIn Carried) (o : PlaceOut Carried) → old ≡ Inside i → new ≡ Outside o → o.place ≡ i.place
      → o.front ≡ with_event i.front (Leave i.place i.state) → Wakes o.front code → Leaves old new code
  not_inside : NotInside old → new ≡ old → code ≡ 104 → Leaves old new code

-- a wait: the place is away, and the code is the place to wake; it isn't inside (104); there is no such condition (105)
pub data Waits (d : StepId) (old : State) (c p : ℕ) (new : State) (code : ℕ) : Type 0 where
  waits : (i : PlaceIn Carried) (o : PlaceOut Carried) → old ≡ Inside i → new ≡ Away o → c < d.kinds.conditions
      → o.place ≡ i.place → o.front ≡ with_event i.front (Wait i.place c p i.state) → Wakes o.front code
      → Waits d old c p new code
  not_inside : NotInside old → new ≡ old → code ≡ 104 → Waits d old c p new code
  no_condition : (i : PlaceIn Carried) → old ≡ Inside i → new ≡ old → d.kinds.conditions ≤ c → code ≡ 105
      → Waits d old c p new code

-- a signal: the place is away, and the code is the place that it resumed; no place waits on the condition (64); the
-- place isn't inside (104); there is no such condition (105); it is a Mesa condition (106)
pub data Signals (d : StepId) (old : State) (c : ℕ) (new : State) (code : ℕ) : Type 0 where
  signals : (i : PlaceIn Carried) (o : PlaceOut Carried) → old ≡ Inside i → new ≡ Away o
      → IsHoare d.kinds.conditions d.kinds.mesa c → o.place ≡ i.place → HandsTo c i o.front → Wakes o.front code
      → Signals d old c new code
  nobody : (i : PlaceIn Carried) → old ≡ Inside i → new ≡ old → IsHoare d.kinds.conditions d.kinds.mesa c
      → priorities i.front.events c ≡ [] → code ≡ 64 → Signals d old c new code
  not_inside : NotInside old → new ≡ old → code ≡ 104 → Signals d old c new code
  no_condition : (i : PlaceIn Carried) → old ≡ Inside i → new ≡ old → d.kinds.conditions ≤ c → code ≡ 105
      → Signals d old c new code
  wrong_kind : (i : PlaceIn Carried) → old ≡ Inside i → new ≡ old → IsMesa d.kinds.conditions d.kinds.mesa c
      → code ≡ 106 → Signals d old c new code

-- a signal to place w: the place is away, and the code is w, which waited on the condition; w doesn't wait there (64);
-- the place isn't inside (104); there is no such condition (105); it is a Mesa condition (106)
pub data SignalsTo (d : StepId) (old : State) (c w : ℕ) (new : State) (code : ℕ) : Type 0 where
  signals_to : (i : PlaceIn Carried) (o : PlaceOut Carried) → old ≡ Inside i → new ≡ Away o
      → IsHoare d.kinds.conditions d.kinds.mesa c → IsWaiting c i.front.events w → o.place ≡ i.place
      → o.front ≡ with_event i.front (SignalTo i.place c w i.state) → Wakes o.front code → SignalsTo d old c w new code
  no_waiter : (i : PlaceIn Carried) → old ≡ Inside i → new ≡ old → IsHoare d.kinds.conditions d.kinds.mesa c
      → (IsWaiting c i.front.events w → ⊥) → code ≡ 64 → SignalsTo d old c w new code
  not_inside : NotInside old → new ≡ old → code ≡ 104 → SignalsTo d old c w new code
  no_condition : (i : PlaceIn Carried) → old ≡ Inside i → new ≡ old → d.kinds.conditions ≤ c → code ≡ 105
      → SignalsTo d old c w new code
  wrong_kind : (i : PlaceIn Carried) → old ≡ Inside i → new ≡ old → IsMesa d.kinds.conditions d.kinds.mesa c
      → code ≡ 106 → SignalsTo d old c w new code

-- a signal joined with the exit: the place is outside, the code is the place to wake, and the word `resumed` is 1 if a
-- place waited on the condition, else 0; it isn't inside (104); there is no such condition (105); it is a Mesa
-- condition (106). A refusal leaves the word as it was before
pub data SignalLeaves (d : StepId) (old : State) (c before : ℕ) (new : State) (resumed code : ℕ) : Type 0 where
  exits : (i : PlaceIn Carried) (o : PlaceOut Carried) (b : Bool) → old ≡ Inside i → new ≡ Outside o
      → IsHoare d.kinds.conditions d.kinds.mesa c → o.place ≡ i.place → Exits i.place c i.state i.front o.front b
      → (IsTrue b ↔ (priorities i.front.events c ≢ [])) → resumed ≡ (if b then 1 else 0) → Wakes o.front code
      → SignalLeaves d old c before new resumed code
  not_inside : NotInside old → new ≡ old → resumed ≡ before → code ≡ 104 → SignalLeaves d old c before new resumed code
  no_condition : (i : PlaceIn Carried) → old ≡ Inside i → new ≡ old → d.kinds.conditions ≤ c → resumed ≡ before
      → code ≡ 105 → SignalLeaves d old c before new resumed code
  wrong_kind : (i : PlaceIn Carried) → old ≡ Inside i → new ≡ old → IsMesa d.kinds.conditions d.kinds.mesa c
      → resumed ≡ before → code ≡ 106 → SignalLeaves d old c before new resumed code

-- a notify: the place is inside as it was, and the code is the number of notified places; it isn't inside (104); there
-- is no such condition (105); it is one of Hoare's (106)
pub data Notifies (d : StepId) (old : State) (c : ℕ) (new : State) (code : ℕ) : Type 0 where
  notified : (i j : PlaceIn Carried) (b : Bool) → old ≡ Inside i → new ≡ Inside j
      → IsMesa d.kinds.conditions d.kinds.mesa c → j.place ≡ i.place → j.state ≡ i.state
      → growth.Notifies i.place c i.state i.front j.front b → code ≡ (if b then 1 else 0) → Notifies d old c new code
  not_inside : NotInside old → new ≡ old → code ≡ 104 → Notifies d old c new code
  no_condition : (i : PlaceIn Carried) → old ≡ Inside i → new ≡ old → d.kinds.conditions ≤ c → code ≡ 105
      → Notifies d old c new code
  wrong_kind : (i : PlaceIn Carried) → old ≡ Inside i → new ≡ old → IsHoare d.kinds.conditions d.kinds.mesa c
      → code ≡ 106 → Notifies d old c new code

-- a broadcast: the same, and all places that waited on the condition were notified
pub data Broadcasts (d : StepId) (old : State) (c : ℕ) (new : State) (code : ℕ) : Type 0 where
  notified_all : (i j : PlaceIn Carried) → old ≡ Inside i → new ≡ Inside j
      → IsMesa d.kinds.conditions d.kinds.mesa c → j.place ≡ i.place → j.state ≡ i.state
      → growth.Broadcasts i.place c i.state i.front j.front → code ≡ length (priorities i.front.events c)
      → Broadcasts d old c new code
  not_inside : NotInside old → new ≡ old → code ≡ 104 → Broadcasts d old c new code
  no_condition : (i : PlaceIn Carried) → old ≡ Inside i → new ≡ old → d.kinds.conditions ≤ c → code ≡ 105
      → Broadcasts d old c new code
  wrong_kind : (i : PlaceIn Carried) → old ≡ Inside i → new ≡ old → IsHoare d.kinds.conditions d.kinds.mesa c
      → code ≡ 106 → Broadcasts d old c new code

-- the place wrote the word that it has in hand (0); it isn't inside (104)
pub data Sets (old : State) (value : ℕ) (new : State) (code : ℕ) : Type 0 where
  set : (i : PlaceIn Carried) → old ≡ Inside i → new ≡ Inside (with_state i (record { value = value })) → code ≡ 0
      → Sets old value new code
  not_inside : NotInside old → new ≡ old → code ≡ 104 → Sets old value new code

-- an attempt to return: the place is inside again, back from its wait or its signal (64); it is still away, and learned
-- a history in which the monitor isn't owed to it (102); it is not away (113)
pub data TriesToReturn (d : StepId) (old new : State) (code : ℕ) : Type 0 where
  returned : (o : PlaceOut Carried) (i : PlaceIn Carried) → old ≡ Away o → new ≡ Inside i → code ≡ 64
      → IsBack calm any d.kinds d.door o i → TriesToReturn d old new code
  not_now : (o p : PlaceOut Carried) → old ≡ Away o → new ≡ Away p → IsStillAway calm any d.kinds d.door o p → code ≡ 102
      → TriesToReturn d old new code
  not_away : NotAway old → new ≡ old → code ≡ 113 → TriesToReturn d old new code

-- the word that the place has in hand (0); it isn't inside (104)
pub data Gets (state : State) (before value code : ℕ) : Type 0 where
  got : (i : PlaceIn Carried) → state ≡ Inside i → value ≡ i.state.value → code ≡ 0 → Gets state before value code
  not_inside : NotInside state → value ≡ before → code ≡ 104 → Gets state before value code

-- the number of places that wait on a condition; the place isn't inside (104); there is no such condition (105)
pub data Counts (d : StepId) (state : State) (c code : ℕ) : Type 0 where
  counted : (i : PlaceIn Carried) → state ≡ Inside i → c < d.kinds.conditions
      → code ≡ length (priorities i.front.events c) → Counts d state c code
  not_inside : NotInside state → code ≡ 104 → Counts d state c code
  no_condition : (i : PlaceIn Carried) → state ≡ Inside i → d.kinds.conditions ≤ c → code ≡ 105 → Counts d state c code

-- 1 if a place waits on the condition, else 0; the place isn't inside (104); there is no such condition (105)
pub data AsksQueue (d : StepId) (state : State) (c code : ℕ) : Type 0 where
  somebody : (i : PlaceIn Carried) → state ≡ Inside i → c < d.kinds.conditions → priorities i.front.events c ≢ []
      → code ≡ 1 → AsksQueue d state c code
  nobody : (i : PlaceIn Carried) → state ≡ Inside i → c < d.kinds.conditions → priorities i.front.events c ≡ []
      → code ≡ 0 → AsksQueue d state c code
  not_inside : NotInside state → code ≡ 104 → AsksQueue d state c code
  no_condition : (i : PlaceIn Carried) → state ≡ Inside i → d.kinds.conditions ≤ c → code ≡ 105
      → AsksQueue d state c code

-- the same, and if a place waits, the priority of the place that a signal would resume
pub data AsksFirst (d : StepId) (state : State) (c before priority code : ℕ) : Type 0 where
  somebody : (i : PlaceIn Carried) → state ≡ Inside i → c < d.kinds.conditions → priorities i.front.events c ≢ []
      → priority ≡ slice_index (priorities i.front.events c) 0 → code ≡ 1 → AsksFirst d state c before priority code
  nobody : (i : PlaceIn Carried) → state ≡ Inside i → c < d.kinds.conditions → priorities i.front.events c ≡ []
      → priority ≡ before → code ≡ 0 → AsksFirst d state c before priority code
  not_inside : NotInside state → priority ≡ before → code ≡ 104 → AsksFirst d state c before priority code
  no_condition : (i : PlaceIn Carried) → state ≡ Inside i → d.kinds.conditions ≤ c → priority ≡ before → code ≡ 105
      → AsksFirst d state c before priority code

-- the state of the place: outside (0), inside (1) or away (2); it isn't here (107)
abbrev pub where_is : State → ℕ
where_is (Outside o) = 0
where_is (Inside i) = 1
where_is (Away o) = 2
where_is Nowhere = 107
