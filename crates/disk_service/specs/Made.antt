-- A door that was made, and its places.
use Rattle.std.specs.Prelude.{ℕ, ◌+◌, ◌/◌, ◌<◌, ◌≡◌, List, [], slice_index_or, Option, Some, false}
use Rattle.hoare_law.specs.declared.event.History.{History}
use Rattle.door_frame.specs.Places.{PlaceOut}
use Rattle.any_door.specs.declared.door.RawAnyDoor.{RawAnyDoor}
use Rattle.any_door.specs.declared.kind.DoorKind.{DoorKind}
use Rattle.any_door.specs.Doors.{id_of, kind_behind}
use Rattle.plain_schedulers.specs.Buffers.{Buffered, empty}
use Rattle.timed_schedulers.specs.Pools.{Pooled, all_free}
use Rattle.sweep_schedulers.specs.Heads.{Disk, idle}
use Rattle.sweep_schedulers.specs.ReadersWriters.{Shared, unused}
use Rattle.disk_jobs.specs.declared.kind.Kind.{Kind}
use Rattle.disk_jobs.specs.JobLists.{JobList}
use Rattle.disk_service.specs.Doors.{Terms, AreFirst}
use Rattle.disk_service.specs.declared.data.Item.{Item}
use Rattle.disk_service.specs.declared.data.Drive.{Drive}
use Rattle.disk_service.specs.declared.data.Totals.{Totals}
use Rattle.disk_service.specs.declared.data.Board.{Board}
use Rattle.disk_service.specs.declared.doors.Doors.{Doors}
use Rattle.disk_service.specs.declared.places.Places.{Places}

-- the kind of door that this kind of service uses
abbrev pub door_kind : Kind → DoorKind
door_kind Kind.Baton = DoorKind.Baton
door_kind Kind.Ticket = DoorKind.Ticket

-- each door is of the kind that was asked for
pub record AreOf (kind : Kind) (d : Doors) : Type 0 where
  pub items : kind_behind d.items ≡ door_kind kind
  pub clock : kind_behind d.clock ≡ door_kind kind
  pub pool : kind_behind d.pool ≡ door_kind kind
  pub head : kind_behind d.head ≡ door_kind kind
  pub totals : kind_behind d.totals ≡ door_kind kind
  pub board : kind_behind d.board ≡ door_kind kind

-- nothing has happened yet at a door that was opened with these data
pub record IsNew {D : Type 0} (s : D) (f : History D) : Type 0 where
  pub opening : f.opening ≡ s
  pub events : f.events ≡ []

-- each of the n places knows that nothing has happened yet at a door that was opened with these data
pub record AreNew {D : Type 0} (s : D) (n : ℕ) (os : List (PlaceOut D)) : Type 0 where
  pub each : (k : ℕ) (d : PlaceOut D) → k < n → IsNew s (slice_index_or os k d).front

-- the door is of this kind, was opened with these data and has n places, and os are its places
pub record IsMade {D : Type 0} (t : Terms D) (s : D) (k : Kind) (n : ℕ) (door : RawAnyDoor D)
    (os : List (PlaceOut D)) : Type 0 where
  pub kind : kind_behind door ≡ door_kind k
  pub size : (id_of door).places ≡ n
  pub places : AreFirst t (id_of door) n os
  pub opening : AreNew s n os

-- 4 cells for items, all empty
abbrev pub no_items : Buffered Item
no_items = empty 4

-- the clock is at 0
abbrev pub start_time : ℕ
start_time = 0

-- a stream for each worker, and a free buffer for every two of them, rounded up
abbrev pub free_buffers : ℕ → Pooled
free_buffers workers = all_free ((workers + 1) / 2) workers

-- the drive is in, and `cylmax` is the disk's last cylinder
abbrev pub idle_disk : ℕ → Disk Drive
idle_disk cylmax = idle (record {}) cylmax

-- the totals while no job is done
abbrev pub no_totals : Option Totals
no_totals = Some (record { jobs = 0; sum = 0 })

-- the board while nothing was written and no process reads
abbrev pub blank_board : Shared Board
blank_board = unused (record { done = 0; closed = false })

-- the doors were opened with these data for these jobs, and each of the n places knows of nothing that has happened
-- since
pub record AreOpened (j : JobList) (n : ℕ) (p : Places) : Type 0 where
  pub items : AreNew no_items n p.items.items
  pub clock : AreNew start_time n p.clock.items
  pub pool : AreNew (free_buffers j.workers) n p.pool.items
  pub head : AreNew (idle_disk j.cylmax) n p.head.items
  pub totals : AreNew no_totals n p.totals.items
  pub board : AreNew blank_board n p.board.items
