-- C's words as those of `c_handle`, and back.
use Rattle.std.specs.Borrow.{Lends, MutBor, Fml}
use Rattle.door_place.specs.Places.{PlaceAt}
use Rattle.door_place.specs.contracts.place.Place as places
use Rattle.c_handle.specs.declared.held.Held as generic
use Rattle.c_handle.specs.contracts.held.Held as held
use Rattle.door_c.specs.declared.place.HeldPlace.{HeldPlace}
use Rattle.door_c.specs.contracts.place.HeldPlace as words

abbrev pub of_c : HeldPlace → generic.Held PlaceAt
of_c s = record {
  live = s.live;
  spare = s.spare;
  handle = record { at = s.handle.at; alloc = s.handle.alloc; live = s.handle.live; value = s.handle.value };
  same = s.same;
  few = s.few;
}

abbrev pub to_c : generic.Held PlaceAt → HeldPlace
to_c s = record {
  live = s.live;
  spare = s.spare;
  handle = record { at = s.handle.at; alloc = s.handle.alloc; live = s.handle.live; value = s.handle.value };
  same = s.same;
  few = s.few;
}

-- C's words end as the last value of the borrow r
abbrev pub LendsWords : MutBor HeldPlace → MutBor (generic.Held PlaceAt) → Fml
LendsWords s r = Lends words.the_row (held.the_row places.the_row) s r to_c
