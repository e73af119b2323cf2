-- What a call made of a door or a place that C holds.
use Rattle.std.specs.Prelude.{◌≡◌, ◌<◌, ℕ, Option, None, Some}
use Rattle.hoare_law.specs.declared.event.Sizes.{Sizes}
use Rattle.door_frame.specs.Places.{PlaceOut}
use Rattle.door_place.specs.Places.{Acts, GaveNone, GaveOut, GivesBack, IsNew, MadeNot, PlaceAt}
use Rattle.door_place.specs.Returns.{KeeperOf}
use Rattle.door_place.specs.States.{Carried, IsState, number_of}
use Rattle.door_place.specs.Deeds.{Deed}
use Rattle.door_place.specs.declared.state.State.TheVariants.{Outside}

-- a new door is held (0); else there is none, as before, for the first reason that applies
pub data Made (sizes : Sizes) (value live : ℕ) (new : Option KeeperOf) (code : ℕ) : Type 0 where
  made : (k : KeeperOf) → live ≡ 1 → new ≡ Some k → IsNew sizes value k → code ≡ 0 → Made sizes value live new code
  refused : live ≡ 0 → MadeNot sizes code → Made sizes value live new code

-- the keeper gave out the place, at its door, and the code is its number, below 64
pub data GaveHeld (old new : Option KeeperOf) (p : PlaceAt) (code : ℕ) : Type 0 where
  gave : (k l : KeeperOf) → old ≡ Some k → new ≡ Some l → l.door ≡ k.door → p.door ≡ k.door
      → GaveOut k l p.state → IsState p.door p.state → code ≡ number_of p.state → code < 64
      → GaveHeld old new p code

-- the keeper is still there and gave no place out: no door is held (107), or as `GaveNone` states. So if memory was
-- refused, each place that it had in hand still is
pub data GaveNothing (old new : Option KeeperOf) (code : ℕ) : Type 0 where
  no_door : old ≡ None → new ≡ None → code ≡ 107 → GaveNothing old new code
  refused_by : (k l : KeeperOf) → old ≡ Some k → new ≡ Some l → l.door ≡ k.door → GaveNone k l code
      → GaveNothing old new code

-- the place is still held, at its door, and the act was done or refused
pub record Acted (act : Deed) (old : PlaceAt) (live : ℕ) (new : PlaceAt) (code : ℕ) : Type 0 where
  pub live_is : live ≡ 1
  pub door : new.door ≡ old.door
  pub acts : Acts old.door act old.state new.state code

-- the place is still held, as it was
pub record IsSame (old : PlaceAt) (live : ℕ) (new : PlaceAt) : Type 0 where
  pub live_is : live ≡ 1
  pub same : new ≡ old

-- the place was outside and was given back (0), and none is held; or it isn't outside (103), and is held as it was
pub data GivenBack (old : PlaceAt) (live : ℕ) (new : PlaceAt) (code : ℕ) : Type 0 where
  given_back : (o : PlaceOut Carried) → old.state ≡ Outside o → live ≡ 0 → code ≡ 0 → GivenBack old live new code
  refused_as : IsSame old live new → GivesBack old.state old.state code → GivenBack old live new code
