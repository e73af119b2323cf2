-- The event by which a place inside notifies the waiters on a Mesa condition, and that place afterwards.
use Rattle.std.specs.Prelude.{◌≡◌, ℕ, List, length, unwrap_or}
use Rattle.std.specs.Option.{option_map}
use Rattle.hoare_law.specs.declared.event.Event.{Event}
use Rattle.hoare_law.specs.declared.event.History.{History}
use Rattle.hoare_law.specs.declared.event.Event.TheVariants as event
use Rattle.hoare_law.specs.Events.{place_of, with_event}
use Rattle.hoare_law.specs.Lawful.{Rest, Ready}
use Rattle.hoare_law.specs.Sizes.{Kinds}
use Rattle.hoare_law.specs.Waiting.{waiting, chosen}
use Rattle.wait_book.specs.Stepping.{after_notify, after_broadcast}
use Rattle.door_frame.specs.declared.notification.Notification.{Notification}
use Rattle.door_frame.specs.declared.notification.Notification.TheVariants.{One, All}
use Rattle.door_frame.specs.Places.{DoorId, PlaceIn, IsIn}

-- the place of the waiter that is chosen on c, if there is one; else 0
abbrev pub chosen_place : {D : Type 0} → ℕ → List (Event D) → ℕ
chosen_place c h = unwrap_or (option_map place_of (chosen c h)) 0

-- the event of the place k, which has the data s in hand and knew f
abbrev pub event_of_notification : {D : Type 0} → ℕ → Notification → D → History D → Event D
event_of_notification k (One c) s f = event.Notify k c (chosen_place c f.events) s
event_of_notification k (All c) s f = event.Broadcast k c s

-- the condition whose waiters it notifies
abbrev pub called_on : Notification → ℕ
called_on (One c) = c
called_on (All c) = c

-- the history of a book after this notification of the place k
abbrev pub after_notification : History (Unit {0}) → ℕ → Notification → History (Unit {0})
after_notification h k (One c) = after_notify h k c (chosen c h.events)
after_notification h k (All c) = after_broadcast h k c (waiting c h.events)

-- for a broadcast, n is the number of waiters, whose priorities are q; for a notify, n is not specified
abbrev pub IsCounted : Notification → List ℕ → ℕ → Type 0
IsCounted (One c) q n = Unit {0}
IsCounted (All c) q n = n ≡ length q

-- the place inside was i and is now j: it did this notification, and the data are unchanged
pub record Noted {D : Type 0} (rest : Rest D) (ready : Ready D) (kinds : Kinds) (d : DoorId) (i : PlaceIn D)
    (notification : Notification) (j : PlaceIn D) : Type 0 where
  pub of : IsIn rest ready kinds d j
  pub place : j.place ≡ i.place
  pub data_are : j.state ≡ i.state
  pub front : j.front ≡ with_event i.front (event_of_notification i.place notification i.state i.front)
