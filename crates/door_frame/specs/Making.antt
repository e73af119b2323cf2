-- What a door is made of, and what is made of it.
use Rattle.std.specs.Prelude.{◌≡◌, ◌≤◌, List, All, reverse, vec_len, vec_capacity, None}
use Rattle.hoare_law.specs.Events.{opened}
use Rattle.hoare_law.specs.Lawful.{Rest, Ready}
use Rattle.hoare_law.specs.Priorities.{nobody}
use Rattle.hoare_law.specs.Sizes.{Kinds, sizes_at}
use Rattle.wait_book.specs.Contents.{IsOf, make_refusal}
use Rattle.door_frame.specs.Places.{DoorId, PlaceOut, IsOut, places_from}
use Rattle.door_frame.specs.declared.making.Parts.{Parts}

module _ {D : Type 0} (rest : Rest D) where
  -- the parts fit together and make a door of these kinds: the sizes are in range, the data are at rest, the book is
  -- new, each waker wakes the place of its number, and there is room for the places
  pub record AreParts (kinds : Kinds) (p : Parts D) : Type 0 where
    pub made : make_refusal (sizes_at kinds p.places) ≡ None
    pub rests : rest p.state nobody
    pub book : IsOf p.book (opened (sizes_at kinds p.places) tt)
    pub sleepers : vec_len p.sleepers ≡ p.places
    pub wakers : vec_len p.wakers ≡ p.places
    pub each_wakes : p.wakers.items ≡ reverse p.sleepers.items
    pub none : vec_len p.outs ≡ 0
    pub room : p.places ≤ vec_capacity p.outs

  -- the door was made of these parts, with its places
  pub record IsMadeOf (ready : Ready D) (kinds : Kinds) (p : Parts D) (door : DoorId) (outs : List (PlaceOut D))
      : Type 0 where
    pub places : door.places ≡ p.places
    pub of : All (IsOut rest ready kinds door) outs
    pub are : outs ≡ places_from door 0 p.places (opened (sizes_at kinds p.places) p.state)
