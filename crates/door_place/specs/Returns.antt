-- The shelf of a door: the places that were given back, and not collected since.
use Rattle.std.specs.Prelude.{◌≡◌, ◌≢◌, ◌⊎◌, ◌<◌, ℕ, List, [], ◌∷◌, ◌++◌, All, Some, None, map}
use Rattle.shelf.specs.declared.view.Change.TheVariants.{Take}
use Rattle.shelf.specs.Log as shelf
use Rattle.shelf.specs.Log.{Begins, shelved, taken}
use Rattle.shelf.specs.Steps.{Moment}
use Rattle.door_frame.specs.Places.{HasPlace, IsOut, PlaceOut}
use Rattle.baton_door.specs.StepDoors.{StepId}
use Rattle.door_place.specs.declared.shared.Returned.{Returned}
use Rattle.door_place.specs.States.{Carried, any, calm}

-- the log of the shelf: which place was given back, with its front, and which was collected, in order
abbrev pub Log : Type 0
Log = shelf.Log Returned

abbrev pub returned : PlaceOut Carried → Returned
returned o = record { out = o }

-- the place k is on the shelf, as o: it was given back so, and was not collected since
abbrev pub IsOnShelf : ℕ → PlaceOut Carried → Log → Type 0
IsOnShelf k o log = shelved k log ≡ Some (returned o)

-- the place k is not on the shelf: it was not given back since it was last collected, or was never given back
abbrev pub IsAbsent : ℕ → Log → Type 0
IsAbsent k log = shelved k log ≡ None

-- the numbers of the places, the last first
abbrev pub numbers_onto : List ℕ → List (PlaceOut Carried) → List ℕ
numbers_onto ks [] = ks
numbers_onto ks (o ∷ os) = numbers_onto (o.place ∷ ks) os

-- a door with those of its places that the keeper has in hand, and the log of the shelf as far as the keeper knows it
pub record KeeperOf : Type 0 where
  pub door : StepId
  pub outs : List (PlaceOut Carried)
  pub log : Log

abbrev pub keeper_of : StepId → List (PlaceOut Carried) → Log → KeeperOf
keeper_of d os log = record { door = d; outs = os; log = log }

-- the place o was on the shelf at a moment between two logs, and was taken then
pub record WasTaken (known learned : Log) (o : PlaceOut Carried) : Type 0 where
  pub moment : Log
  pub since : Begins known moment
  pub present : IsOnShelf o.place o moment
  pub until : Begins (moment ++ Take o.place ∷ []) learned

-- the place k was not on the shelf at a moment between two logs
pub record WasAbsent (known learned : Log) (k : ℕ) : Type 0 where
  pub moment : Log
  pub since : Begins known moment
  pub until : Begins moment learned
  pub absent : IsAbsent k moment

-- The keeper tried to take the place k: it was on the shelf, as o, and is in hand now; or it was not there at that moment.
-- Either way the keeper learned the log up to then, in which no other place was taken.
pub data Tries (k : ℕ) (old new : KeeperOf) : Type 0 where
  found : (o : PlaceOut Carried) (moment : Log) → new ≡ keeper_of old.door (old.outs ++ o ∷ []) (moment ++ Take k ∷ [])
      → o.place ≡ k → IsOut calm any old.door.kinds old.door.door o → Moment old.log moment → IsOnShelf k o moment
      → Tries k old new
  absent : (moment : Log) → new ≡ keeper_of old.door old.outs moment → Moment old.log moment → IsAbsent k moment
      → Tries k old new

-- The keeper collected the first n places: it has all places in hand that it had, and more, each outside, and of this
-- door. It learned the log of the shelf: there each of these more places was on the shelf, as it is in hand, and was
-- taken; and no other place was taken. Each of the first n places is in hand now, or was not on the shelf at a moment of
-- this call.
pub record Collects (n : ℕ) (old new : KeeperOf) : Type 0 where
  pub more : List (PlaceOut Carried)
  pub door : new.door ≡ old.door
  pub outs : new.outs ≡ old.outs ++ more
  pub of : All (IsOut calm any old.door.kinds old.door.door) more
  pub log : Begins old.log new.log
  pub found : All (WasTaken old.log new.log) more
  pub takings : taken new.log ≡ taken old.log ++ map (λ o. o.place) more
  pub each : (k : ℕ) → k < n → HasPlace k new.outs ⊎ WasAbsent old.log new.log k

-- the keeper had a place in hand, and is as it was; or it had none, and collected all
pub data Refills (old new : KeeperOf) : Type 0 where
  as_it_was : old.outs ≢ [] → new ≡ old → Refills old new
  collected : old.outs ≡ [] → Collects old.door.door.places old new → Refills old new
