-- C's words as those of `c_handle`, and back.
use Rattle.std.specs.Borrow.{Lends, MutBor, Fml}
use Rattle.door_c.specs.declared.keeper_slot.KeeperSlot.{KeeperSlot}
use Rattle.door_c.specs.contracts.keeper_slot.KeeperSlot as slots
use Rattle.c_handle.specs.declared.held.Held as generic
use Rattle.c_handle.specs.contracts.held.Held as held
use Rattle.door_c.specs.declared.door.HeldDoor.{HeldDoor}
use Rattle.door_c.specs.contracts.door.HeldDoor as words

abbrev pub of_c : HeldDoor → generic.Held KeeperSlot
of_c s = record {
  live = s.live;
  spare = s.spare;
  handle = record { at = s.handle.at; alloc = s.handle.alloc; live = s.handle.live; value = s.handle.value };
  same = s.same;
  few = s.few;
}

abbrev pub to_c : generic.Held KeeperSlot → HeldDoor
to_c s = record {
  live = s.live;
  spare = s.spare;
  handle = record { at = s.handle.at; alloc = s.handle.alloc; live = s.handle.live; value = s.handle.value };
  same = s.same;
  few = s.few;
}

-- C's words end as the last value of the borrow r
abbrev pub LendsWords : MutBor HeldDoor → MutBor (generic.Held KeeperSlot) → Fml
LendsWords s r = Lends words.the_row (held.the_row slots.the_row) s r to_c
