-- How a seat represents a place outside or inside.
use Rattle.std.specs.Prelude.{◌≡◌, ℕ, true, [], ◌∷◌, None}
use Rattle.hoare_law.specs.declared.event.Event.{Event}
use Rattle.hoare_law.specs.declared.event.History.{History}
use Rattle.hoare_law.specs.Events.{own, with_event}
use Rattle.hoare_law.specs.Internal.WithoutData.{dataless}
use Rattle.hoare_law.specs.Growth.{Begins}
use Rattle.hoare_law.specs.Lawful.{Rest, Ready}
use Rattle.hoare_law.specs.Turns.{turn, IsGivenUp, outside}
use Rattle.wait_book.specs.Contents.{Contents, IsOf}
use Rattle.door_frame.specs.declared.guarded.Guarded.{Guarded}
use Rattle.door_frame.specs.Steps.{SeatState, EnteredBy, Refused}
use Rattle.door_frame.specs.Views.{alone}

module _ {D : Type 0} where
  -- the seat of the place k, which knows f, without the slot
  abbrev pub IsEmptyHanded : ℕ → History D → SeatState D → Type 0
  IsEmptyHanded k f me = me ≡ (alone k f, [])

  -- the seat of the place k, which knows f, with the slot in hand, empty: the book in hand is of f
  abbrev pub IsInside : ℕ → History D → SeatState D → Contents → Type 0
  IsInside k f me b = (me ≡ (alone k f, (0, None) ∷ [])) × IsOf b (dataless f)

  -- the seat of a place that has released the monitor, by its front
  abbrev pub HasReleased : SeatState D → Type 0
  HasReleased me = (k : ℕ) × (f : History D) × IsEmptyHanded k f me × IsGivenUp (turn f.events)

  -- the seat of the place k, which is outside
  abbrev pub IsEntering : ℕ → SeatState D → Type 0
  IsEntering k me = (f : History D) × IsEmptyHanded k f me × (outside k f.events ≡ true)

  -- the place k, which was outside or owed the monitor, entered by the event of its front, and took x: its seat was me
  -- and is now me'
  abbrev pub EntersWith : Rest D → Ready D → ℕ → (History D → D → Event D) → SeatState D → Guarded D → SeatState D
      → Type 0
  EntersWith rest ready k event me x me' = (f : History D) → IsEmptyHanded k f me
      → EnteredBy rest ready k f (event f) x None me'

  -- the place k, which was outside or away, was refused and learned a history: Cause holds of what it knew before and of
  -- that history. Its seat was me and is now me'
  abbrev pub IsRefused : Rest D → Ready D → (History D → History D → Type 0) → ℕ → SeatState D → SeatState D → Type 0
  IsRefused rest ready Cause k me me' = (f : History D) → IsEmptyHanded k f me → Refused rest ready (Cause f) k f me'

  -- the place k is still outside or away, and may have learned events of other places: its seat was me and is now me'
  abbrev pub StaysAway : ℕ → SeatState D → SeatState D → Type 0
  StaysAway k me me' = (f : History D) → IsEmptyHanded k f me
      → (g : History D) × IsEmptyHanded k g me' × Begins f g × (own k g.events ≡ own k f.events)

  -- the place k, which was inside, stayed inside by the event: its seat was me and is now me'
  abbrev pub StaysIn : ℕ → (History D → Event D) → SeatState D → SeatState D → Type 0
  StaysIn k event me me' = (f : History D) → me ≡ (alone k f, (0, None) ∷ [])
      → me' ≡ (alone k (with_event f (event f)), (0, None) ∷ [])

  -- the place k, which was inside, released the data s by the event: its seat was me and is now me'
  abbrev pub GoesOut : ℕ → (D → Event D) → SeatState D → D → SeatState D → Type 0
  GoesOut k event me s me' = (f : History D) → me ≡ (alone k f, (0, None) ∷ [])
      → IsEmptyHanded k (with_event f (event s)) me'
