-- What the workers did, all together: at first as the places show it that they return, and then, once the doors are
-- closed, in the doors' histories.
use Rattle.std.specs.Prelude.{ℕ, ◌+◌, ◌≡◌, List, [], ◌∷◌, ◌++◌, Option, Some, All}
use Rattle.std.specs.List.{Contains}
use Rattle.std.specs.List.Sorted.{IsPermutation}
use Rattle.hoare_law.specs.declared.event.History.{History}
use Rattle.hoare_law.specs.Events.{latest_data}
use Rattle.hoare_law.specs.Lawful.{Stands}
use Rattle.hoare_law.specs.Sizes.{sizes_at}
use Rattle.door_frame.specs.Places.{DoorId, PlaceOut, IsInHistory, Closes}
use Rattle.plain_schedulers.specs.Buffers.{Buffered}
use Rattle.timed_schedulers.specs.Pools.{Pooled}
use Rattle.sweep_schedulers.specs.Heads.{Disk}
use Rattle.sweep_schedulers.specs.ReadersWriters.{Shared}
use Rattle.any_door.specs.Doors.{id_of}
use Rattle.disk_jobs.specs.JobLists.{JobList}
use Rattle.disk_jobs.specs.Services.{Account, Served, served_from}
use Rattle.disk_service.specs.declared.data.Drive.{Drive}
use Rattle.disk_service.specs.declared.data.Item.{Item}
use Rattle.disk_service.specs.declared.data.Totals.{Totals}
use Rattle.disk_service.specs.declared.data.Board.{Board}
use Rattle.disk_service.specs.declared.doors.Doors.{Doors}
use Rattle.disk_service.specs.declared.places.Places.{Places}
use Rattle.disk_service.specs.declared.thread_places.ThreadPlaces.{ThreadPlaces}
use Rattle.disk_service.specs.Doors.{Terms, items_terms, clock_terms, pool_terms, head_terms, totals_terms, board_terms}
use Rattle.disk_service.specs.JobsDone.{Works}

-- the place knows of nothing that has happened
abbrev pub IsFresh : {D : Type 0} → PlaceOut D → Type 0
IsFresh o = o.front.events ≡ []

-- each of the thread's places knows of nothing that has happened
pub record IsFreshThread (p : ThreadPlaces) : Type 0 where
  pub items : IsFresh p.items
  pub clock : IsFresh p.clock
  pub pool : IsFresh p.pool
  pub head : IsFresh p.head
  pub totals : IsFresh p.totals
  pub board : IsFresh p.board

-- each of the places knows of nothing that has happened
pub record AreFresh (p : Places) : Type 0 where
  pub items : All IsFresh p.items.items
  pub clock : All IsFresh p.clock.items
  pub pool : All IsFresh p.pool.items
  pub head : All IsFresh p.head.items
  pub totals : All IsFresh p.totals.items
  pub board : All IsFresh p.board.items

-- the thread's places are among these places
pub record AreAmong (p : Places) (q : ThreadPlaces) : Type 0 where
  pub items : Contains p.items.items q.items
  pub clock : Contains p.clock.items q.clock
  pub pool : Contains p.pool.items q.pool
  pub head : Contains p.head.items q.head
  pub totals : Contains p.totals.items q.totals
  pub board : Contains p.board.items q.board

-- each of the thread's places has the number k
pub record HaveNumber (k : ℕ) (q : ThreadPlaces) : Type 0 where
  pub items : q.items.place ≡ k
  pub clock : q.clock.place ≡ k
  pub pool : q.pool.place ≡ k
  pub head : q.head.place ≡ k
  pub totals : q.totals.place ≡ k
  pub board : q.board.place ≡ k

-- by the fronts of its places q, which are the places k, thread k did these jobs and nothing else since the doors were
-- opened
pub record HasWorked (k : ℕ) (jobs : List Served) (q : ThreadPlaces) : Type 0 where
  pub numbered : HaveNumber k q
  pub first : ThreadPlaces
  pub fresh : IsFreshThread first
  pub works : Works k [] jobs first q

-- by the fronts of their places the threads 0, .., n - 1 did jobs and nothing else since the doors were opened, and the
-- list has all these jobs; P holds of each of these threads' places
pub data AreDoneBy (P : ThreadPlaces → Type 0) : ℕ → List Served → Type 0 where
  nobody : AreDoneBy P 0 []
  one_more : (k n : ℕ) (before own all : List Served) (q : ThreadPlaces) → AreDoneBy P k before → HasWorked k own q
      → P q → n ≡ k + 1 → all ≡ before ++ own → AreDoneBy P n all

-- the histories of the service's doors
pub record Histories : Type 0 where
  pub items : History (Buffered Item)
  pub clock : History ℕ
  pub pool : History Pooled
  pub head : History (Disk Drive)
  pub totals : History (Option Totals)
  pub board : History (Shared Board)

-- each history begins with what the thread knows at that door, and has no other events of the place in q
pub record HaveThread (h : Histories) (q : ThreadPlaces) : Type 0 where
  pub items : IsInHistory h.items q.items
  pub clock : IsInHistory h.clock q.clock
  pub pool : IsInHistory h.pool q.pool
  pub head : IsInHistory h.head q.head
  pub totals : IsInHistory h.totals q.totals
  pub board : IsInHistory h.board q.board

-- a door with these terms was closed with these places, which left the data s
abbrev pub ClosesWith : {D : Type 0} → Terms D → DoorId → List (PlaceOut D) → D → Type 0
ClosesWith t door os s = Closes t.rest t.ready t.kinds door os s

-- a door with these terms was closed with these places
pub record IsClosed {D : Type 0} (t : Terms D) (door : DoorId) (os : List (PlaceOut D)) : Type 0 where
  pub left : D
  pub closes : ClosesWith t door os left

-- the history is legal and lawful, and is one of a door with these terms and n places
pub record IsWhole {D : Type 0} (t : Terms D) (n : ℕ) (h : History D) : Type 0 where
  pub sized : h.sizes ≡ sizes_at t.kinds n
  pub stands : Stands t.rest t.ready h

-- and it ends with the data s
pub record EndsWith {D : Type 0} (t : Terms D) (n : ℕ) (s : D) (h : History D) : Type 0 where
  pub whole : IsWhole t n h
  pub latest : s ≡ latest_data h

-- these places are those of before with the thread's added at the end
pub record ArePut (own : ThreadPlaces) (before after : Places) : Type 0 where
  pub items : after.items.items ≡ before.items.items ++ own.items ∷ []
  pub clock : after.clock.items ≡ before.clock.items ++ own.clock ∷ []
  pub pool : after.pool.items ≡ before.pool.items ++ own.pool ∷ []
  pub head : after.head.items ≡ before.head.items ++ own.head ∷ []
  pub totals : after.totals.items ≡ before.totals.items ++ own.totals ∷ []
  pub board : after.board.items ≡ before.board.items ++ own.board ∷ []

-- the doors were closed with these places; `totals` are what they left at the totals, and `board` at the board
pub record AreClosed (d : Doors) (p : Places) (totals : Option Totals) (board : Board) : Type 0 where
  pub at_items : IsClosed items_terms (id_of d.items) p.items.items
  pub at_clock : IsClosed clock_terms (id_of d.clock) p.clock.items
  pub at_pool : IsClosed pool_terms (id_of d.pool) p.pool.items
  pub at_head : IsClosed head_terms (id_of d.head) p.head.items
  pub at_totals : ClosesWith totals_terms (id_of d.totals) p.totals.items totals
  pub shared : Shared Board
  pub at_board : ClosesWith board_terms (id_of d.board) p.board.items shared
  pub value : board ≡ shared.value

-- threads did these jobs: each door has a history from its opening to its close, which is legal and lawful, and in
-- which the workers did each job once, by the visits that `Does` says; place k, that of worker k, made no others
pub record IsServed (j : JobList) (r : Account) : Type 0 where
  pub histories : Histories
  pub items : IsWhole items_terms (j.workers + 2) histories.items
  pub clock : IsWhole clock_terms (j.workers + 2) histories.clock
  pub pool : IsWhole pool_terms (j.workers + 2) histories.pool
  pub head : IsWhole head_terms (j.workers + 2) histories.head
  pub totals : EndsWith totals_terms (j.workers + 2) (Some (record { jobs = r.jobs; sum = r.sum })) histories.totals
  pub shared : Shared Board
  pub board : EndsWith board_terms (j.workers + 2) shared histories.board
  pub noted : shared.value.done ≡ r.jobs
  pub jobs : List Served
  pub done : AreDoneBy (HaveThread histories) j.workers jobs
  pub each_once : IsPermutation jobs (served_from 0 j.cylinders)
