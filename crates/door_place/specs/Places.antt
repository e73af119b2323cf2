-- A place with its door, and the keeper of a door.
use Rattle.std.specs.Prelude.{◌≡◌, ◌<◌, ◌≢◌, ℕ, List, [], ◌∷◌, ◌++◌, Some, None}
use Rattle.hoare_law.specs.declared.event.Sizes.{Sizes}
use Rattle.hoare_law.specs.Events.{opened}
use Rattle.hoare_law.specs.Sizes.{kinds_of}
use Rattle.wait_book.specs.Contents.{make_refusal}
use Rattle.wait_book.specs.declared.steps.MakeRefused.TheVariants.{BadPlaces, BadConditions}
use Rattle.door_frame.specs.Places.{HasPlace, PlaceOut, places_from}
use Rattle.hoare_law.specs.Growth.{Begins}
use Rattle.atomic_table.specs.Seated.{TableId}
use Rattle.shelf.specs.Shelves.{ShelfId}
use Rattle.baton_door.specs.StepDoors.{StepId}
use Rattle.door_place.specs.declared.state.State.{State}
use Rattle.door_place.specs.Deeds.{Deed}
use Rattle.door_place.specs.Returns.{KeeperOf, Refills}
use Rattle.door_place.specs.States.{IsState, Carried, NotOutside, front_of, place_of}
use Rattle.door_place.specs.declared.state.State.TheVariants.{Outside, Nowhere}

-- the act was done or refused: the place is still that of the same door; what it knows is legal, and begins with what
-- it knew
pub record Acts (d : StepId) (act : Deed) (old new : State) (code : ℕ) : Type 0 where
  pub made : act d old new code
  pub of : IsState d new
  pub place : place_of new ≡ place_of old
  pub front : Begins (front_of old) (front_of new)

-- a place with its door and the shelf of that door
pub record PlaceAt : Type 0 where
  pub door : StepId
  pub shelf : TableId
  pub state : State

abbrev pub place_at : ShelfId StepId → State → PlaceAt
place_at d s = record { door = d.tag; shelf = d.table; state = s }

-- the number of a place that is outside, below 64; else 64
pub data NumberIs (state : State) (n : ℕ) : Type 0 where
  outside : (o : PlaceOut Carried) → state ≡ Outside o → n ≡ o.place → n < 64 → NumberIs state n
  elsewhere : NotOutside state → n ≡ 64 → NumberIs state n

-- the place was given back (0), and isn't here then; or it isn't outside (103), and is as it was
pub data GivesBack (old new : State) (code : ℕ) : Type 0 where
  given_back : (o : PlaceOut Carried) → old ≡ Outside o → new ≡ Nowhere → code ≡ 0 → GivesBack old new code
  not_outside : NotOutside old → new ≡ old → code ≡ 103 → GivesBack old new code

-- a new door of these sizes, opened with the value, with all of its places in hand, and none given back yet
pub record IsNew (sizes : Sizes) (value : ℕ) (k : KeeperOf) : Type 0 where
  pub allowed : make_refusal sizes ≡ None
  pub places : k.door.door.places ≡ sizes.places
  pub kinds : k.door.kinds ≡ kinds_of sizes.conditions sizes.mesa
  pub outs : k.outs ≡ places_from k.door.door 0 sizes.places (opened sizes (record { value = value }))
  pub log : k.log ≡ []

-- why a door wasn't made: bad places (109), bad conditions (110), no memory (111), in this order
pub data MadeNot (sizes : Sizes) (code : ℕ) : Type 0 where
  bad_places : make_refusal sizes ≡ Some BadPlaces → code ≡ 109 → MadeNot sizes code
  bad_conditions : make_refusal sizes ≡ Some BadConditions → code ≡ 110 → MadeNot sizes code
  no_memory : make_refusal sizes ≡ None → code ≡ 111 → MadeNot sizes code

-- the keeper gave out a place, the last in hand after it had collected, if it had none
pub record GaveOut (old new : KeeperOf) (state : State) : Type 0 where
  pub refilled : KeeperOf
  pub refills : Refills old refilled
  pub out : PlaceOut Carried
  pub is : state ≡ Outside out
  pub outs : refilled.outs ≡ new.outs ++ out ∷ []
  pub log : new.log ≡ refilled.log

-- why the keeper gave no place out: none is in hand after it had collected (114), or no memory (111), in this order. It
-- still has what it had in hand, or, if it had none, what was given back
pub data GaveNone (old new : KeeperOf) (code : ℕ) : Type 0 where
  none_left : Refills old new → old.outs ≡ [] → new.outs ≡ [] → code ≡ 114 → GaveNone old new code
  no_memory : Refills old new → new.outs ≢ [] → code ≡ 111 → GaveNone old new code

-- one of the first n places isn't in hand
pub record LacksPlace (n : ℕ) (outs : List (PlaceOut Carried)) : Type 0 where
  pub place : ℕ
  pub below : place < n
  pub lacks : HasPlace place outs → ⊥

-- why the keeper of n places didn't close its door: a place isn't in hand (112); or all are, and a `Place` of the door
-- still exists (102), as in a give back that hasn't returned
pub data NotClosed (n : ℕ) (outs : List (PlaceOut Carried)) (code : ℕ) : Type 0 where
  lacks_place : LacksPlace n outs → code ≡ 112 → NotClosed n outs code
  not_yet : ((k : ℕ) → k < n → HasPlace k outs) → code ≡ 102 → NotClosed n outs code
