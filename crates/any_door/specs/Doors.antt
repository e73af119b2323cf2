-- A door of either kind.
use Rattle.std.specs.Prelude.{ℕ}
use Rattle.hoare_law.specs.declared.event.History.{History}
use Rattle.door_frame.specs.Places.{DoorId}
use Rattle.door_frame.specs.Refusals.{NotFree, WasBarred}
use Rattle.any_door.specs.declared.door.RawAnyDoor.{RawAnyDoor}
use Rattle.any_door.specs.declared.door.RawAnyDoor.TheVariants.{Baton, Ticket}
use Rattle.any_door.specs.declared.kind.DoorKind.{DoorKind}

-- the id of the door of this raw monitor: its table, its number of places, and what they park on
abbrev pub id_of : {D : Type 0} → RawAnyDoor D → DoorId
id_of (Baton d) = d
id_of (Ticket d) = d.door

-- why an attempt doesn't admit the place k, which knew f before it and knows h after it
abbrev pub refuses_at : {D : Type 0} → RawAnyDoor D → ℕ → History D → History D → Type 0
refuses_at (Baton _) k f h = NotFree h
refuses_at (Ticket _) k f h = WasBarred k f h

-- the kind of the door of this raw monitor
abbrev pub kind_behind : {D : Type 0} → RawAnyDoor D → DoorKind
kind_behind (Baton _) = DoorKind.Baton
kind_behind (Ticket _) = DoorKind.Ticket
