-- What is left of a door at a slot.
use Rattle.std.specs.Prelude.{◌≡◌, ◌<◌, ℕ, Option, Some, None}
use Rattle.door_frame.specs.Places.{Closes, HasPlace}
use Rattle.door_place.specs.Places.{NotClosed}
use Rattle.door_place.specs.Returns.{Collects, KeeperOf}
use Rattle.door_place.specs.States.{any, calm}

-- The door was closed with this word. All of its places were in hand, and one legal history left the word; it begins
-- with the front of each of them, and no place did anything else in it.
pub data WasClosed (old : Option KeeperOf) (value : ℕ) : Type 0 where
  closed : (k : KeeperOf) → old ≡ Some k → ((j : ℕ) → j < k.door.door.places → HasPlace j k.outs)
      → Closes calm any k.door.kinds k.door.door k.outs (record { value = value }) → WasClosed old value

-- Why the door wasn't closed: it was closed before (107), or as `NotClosed` states: a place isn't in hand (112), or all
-- are, and a give back hasn't returned (102).
pub data WasNotClosed (old : Option KeeperOf) (code : ℕ) : Type 0 where
  no_keeper : old ≡ None → code ≡ 107 → WasNotClosed old code
  not_closed : (k : KeeperOf) → old ≡ Some k → NotClosed k.door.door.places k.outs code → WasNotClosed old code

-- The door is still there, and its keeper collected all places, as `Collects` states; or there was none.
pub data Collected (old new : Option KeeperOf) : Type 0 where
  no_door : old ≡ None → new ≡ None → Collected old new
  collected : (k l : KeeperOf) → old ≡ Some k → new ≡ Some l → Collects k.door.door.places k l → Collected old new
