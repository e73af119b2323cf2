-- A place with a ticket, as a contract sees it, and when it enters.
use Rattle.std.specs.Prelude.{◌≡◌, ℕ, ◌+◌, ◌%◌, ◌^◌, ◌<◌, ◌≤◌, true, List, [], ◌∷◌, ◌++◌, drop, length, Some}
use Rattle.atomic_table.specs.Seated.{TableId}
use Rattle.hoare_law.specs.declared.event.Event.{Event}
use Rattle.hoare_law.specs.declared.event.Event.TheVariants.{Admit}
use Rattle.hoare_law.specs.Sizes.{Kinds}
use Rattle.hoare_law.specs.declared.event.History.{History}
use Rattle.hoare_law.specs.Events.{own, with_event}
use Rattle.hoare_law.specs.Lawful.{Rest, Ready}
use Rattle.door_frame.specs.declared.view.SeatView.{SeatView}
use Rattle.door_frame.specs.declared.view.SeatView.TheVariants.{Places}
use Rattle.door_frame.specs.Places.{PlaceId, DoorId, PlaceIn, PlaceOut, IsOut, door_of, place_out}
use Rattle.door_frame.specs.declared.guarded.Guarded.{Guarded}
use Rattle.door_frame.specs.Steps.{SeatState, EnteredBy}
use Rattle.door_frame.specs.Views.{asking}
use Rattle.wait_book.specs.Contents.{times}
use Rattle.hoare_law.specs.Admissions.{is_admit, admissions, admitted}
use Rattle.ticket_door.specs.declared.rule.Sizes.{Sizes}
use Rattle.ticket_door.specs.Queue.{took_before, AreAhead}

-- a ticket door: its identity and number of places, and its first ticket
pub record TicketDoorId : Type 0 where
  pub door : DoorId
  pub first : ℕ

abbrev pub ticket_door : TableId → Sizes → List TableId → TicketDoorId
ticket_door z key ws = record { door = door_of z key.places ws; first = key.first }

-- a place with a ticket: `number` counts the tickets from 0, and `ticket` is `number` plus the first ticket, modulo
-- 2^64. `ahead` are the places with the tickets before it that aren't admitted yet in its front, the history that it
-- learned with the ticket, in the order of the tickets
pub record PlaceAsked (D : Type 0) : Type 0 where
  pub place_id : PlaceId
  pub place : ℕ
  pub front : History D
  pub number : ℕ
  pub ticket : ℕ
  pub ahead : List ℕ

module _ {D : Type 0} where
  -- the places that took the tickets before that of the seat's place
  abbrev pub before_of : SeatView D → List ℕ
  before_of (Places (t ∷ ts)) = took_before t.token
  before_of _ = []

  -- those of the places that aren't admitted yet in f
  abbrev pub ahead_in : History D → List ℕ → List ℕ
  ahead_in f before = drop (admissions f.events) before

  abbrev pub IsAsking : ℕ → History D → List ℕ → SeatState D → Type 0
  IsAsking k f before me = me ≡ (asking k f before, [])

  abbrev pub as_out : PlaceAsked D → PlaceOut D
  as_out a = place_out a.place_id a.place a.front

  -- the place k was admitted by its ticket, after the places that took the tickets before it, and has the slot with its
  -- contents
  abbrev pub IsServed : Rest D → Ready D → ℕ → SeatState D → SeatState D → Type 0
  IsServed rest ready k me me' =
      (f : History D) (before : List ℕ) → IsAsking k f before me
      → (y : Guarded D) × (c : EnteredBy rest ready k f (Admit k) y (Some y) me') × (admitted c.log.events ≡ before)

  module _ (rest : Rest D) (ready : Ready D) (kinds : Kinds) where
    -- the place is of the door and outside, and its ticket fits its number. The tickets before it are those admitted in
    -- its front, and those of the places ahead
    pub record IsAsked (d : TicketDoorId) (a : PlaceAsked D) : Type 0 where
      pub out : IsOut rest ready kinds d.door (as_out a)
      pub ticket_is : a.ticket ≡ (d.first + a.number) % 2 ^ 64
      pub number_is : a.number ≡ admissions a.front.events + length a.ahead
      pub are_ahead : AreAhead d.door.places a.place a.ahead

  -- the place a, which had a ticket, is inside as i. To the history that it learned with the ticket, `later` was added,
  -- with no event of a, and then its admission. `later` admits exactly the places that were ahead, each once and in the
  -- order of their tickets; they are fewer than the door has places
  pub record WaitsBehind (places : ℕ) (a : PlaceAsked D) (i : PlaceIn D) : Type 0 where
    pub later : List (Event D)
    pub is : i.front.events ≡ a.front.events ++ later ++ Admit a.place i.state ∷ []
    pub others : own a.place later ≡ []
    pub ahead : admissions a.front.events + admissions later ≡ a.number
    pub places_are : admitted later ≡ a.ahead
    pub once : (j : ℕ) → times j (admitted later) ≤ 1
    pub few : admissions later < places

  -- h ends with an admission, the one that is due to the ticket: admission i, counted from 0, has the ticket first + i,
  -- modulo 2^64
  pub record EntersBy (first ticket : ℕ) (h : History D) : Type 0 where
    pub before : History D
    pub event : Event D
    pub is : h ≡ with_event before event
    pub admits : is_admit event ≡ true
    pub in_turn : ticket ≡ (first + admissions before.events) % 2 ^ 64
