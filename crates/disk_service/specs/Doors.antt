-- The doors of the service, and the places at each.
use Rattle.std.specs.Prelude.{ℕ, ◌<◌, ◌≡◌, List, length, slice_index_or, Option}
use Rattle.hoare_law.specs.Lawful.{Rest, Ready}
use Rattle.hoare_law.specs.Sizes.{Kinds, kinds_of}
use Rattle.door_frame.specs.Places.{DoorId, PlaceOut, IsOut}
use Rattle.plain_schedulers.specs.Buffers.{Buffered, BufferRests, BufferReady}
use Rattle.plain_schedulers.specs.Singles.{SingleRests, SingleReady}
use Rattle.timed_schedulers.specs.Alarms.{AlarmRests, AlarmReady}
use Rattle.timed_schedulers.specs.Pools.{Pooled, PoolRests, PoolReady}
use Rattle.sweep_schedulers.specs.Heads.{Disk, HeadRests, HeadReady}
use Rattle.sweep_schedulers.specs.ReadersWriters.{Shared, ReadersRest, ReadersReady}
use Rattle.any_door.specs.Doors.{id_of}
use Rattle.disk_service.specs.declared.data.Item.{Item}
use Rattle.disk_service.specs.declared.data.Drive.{Drive}
use Rattle.disk_service.specs.declared.data.Totals.{Totals}
use Rattle.disk_service.specs.declared.data.Board.{Board}
use Rattle.disk_service.specs.declared.doors.Doors.{Doors}
use Rattle.disk_service.specs.declared.thread_places.ThreadPlaces.{ThreadPlaces}
use Rattle.disk_service.specs.declared.places.Places.{Places}

-- what a monitor of these data asks of each wait, leave and signal, and the kinds of its conditions
pub record Terms (D : Type 0) : Type 1 where
  pub rest : Rest D
  pub ready : Ready D
  pub kinds : Kinds

module _ {D : Type 0} where
  abbrev pub terms : Rest D → Ready D → Kinds → Terms D
  terms rest ready kinds = record { rest = rest; ready = ready; kinds = kinds }

  -- o is place k of the door, outside
  pub record IsAt (t : Terms D) (door : DoorId) (k : ℕ) (o : PlaceOut D) : Type 0 where
    pub out : IsOut t.rest t.ready t.kinds door o
    pub number : o.place ≡ k

  -- os are the first n places of the door, in order, outside
  pub record AreFirst (t : Terms D) (door : DoorId) (n : ℕ) (os : List (PlaceOut D)) : Type 0 where
    pub count : length os ≡ n
    pub each : (k : ℕ) (d : PlaceOut D) → k < n → IsAt t door k (slice_index_or os k d)

abbrev pub items_terms : Terms (Buffered Item)
items_terms = terms (λ b q. BufferRests b (q 0) (q 1)) (λ c p b q. BufferReady c b (q 0) (q 1)) (kinds_of 2 0)

abbrev pub clock_terms : Terms ℕ
clock_terms = terms (λ a q. AlarmRests a (q 0)) (λ c p a q. AlarmReady p a (q 0)) (kinds_of 1 0)

abbrev pub pool_terms : Terms Pooled
pool_terms = terms (λ p q. PoolRests p (q 0)) (λ c n p q. PoolReady p (q 0)) (kinds_of 1 0)

abbrev pub head_terms : Terms (Disk Drive)
head_terms = terms (λ d q. HeadRests d (q 0) (q 1)) (λ c p d q. HeadReady c p d (q 0) (q 1)) (kinds_of 2 0)

abbrev pub totals_terms : Terms (Option Totals)
totals_terms = terms (λ s q. SingleRests s (q 0)) (λ c p s q. SingleReady s) (kinds_of 1 0)

abbrev pub board_terms : Terms (Shared Board)
board_terms = terms (λ s q. ReadersRest s (q 0) (q 1)) (λ c p s q. ReadersReady c s) (kinds_of 2 0)

-- each of the thread's places is the place of its door with their number
pub record AreThreadPlaces (d : Doors) (own : ThreadPlaces) : Type 0 where
  pub items : IsAt items_terms (id_of d.items) own.number own.items
  pub clock : IsAt clock_terms (id_of d.clock) own.number own.clock
  pub pool : IsAt pool_terms (id_of d.pool) own.number own.pool
  pub head : IsAt head_terms (id_of d.head) own.number own.head
  pub totals : IsAt totals_terms (id_of d.totals) own.number own.totals
  pub board : IsAt board_terms (id_of d.board) own.number own.board

-- the first n places of each door are there, in order
pub record AreThere (d : Doors) (n : ℕ) (p : Places) : Type 0 where
  pub items : AreFirst items_terms (id_of d.items) n p.items.items
  pub clock : AreFirst clock_terms (id_of d.clock) n p.clock.items
  pub pool : AreFirst pool_terms (id_of d.pool) n p.pool.items
  pub head : AreFirst head_terms (id_of d.head) n p.head.items
  pub totals : AreFirst totals_terms (id_of d.totals) n p.totals.items
  pub board : AreFirst board_terms (id_of d.board) n p.board.items

-- each door has n places
pub record AreSized (d : Doors) (n : ℕ) : Type 0 where
  pub items : (id_of d.items).places ≡ n
  pub clock : (id_of d.clock).places ≡ n
  pub pool : (id_of d.pool).places ≡ n
  pub head : (id_of d.head).places ≡ n
  pub totals : (id_of d.totals).places ≡ n
  pub board : (id_of d.board).places ≡ n
