-- How a place that is outside enters.
use Rattle.std.specs.Prelude.{ℕ, Some}
use Rattle.hoare_law.specs.declared.event.History.{History}
use Rattle.hoare_law.specs.declared.event.Event.TheVariants.{Admit}
use Rattle.hoare_law.specs.Lawful.{Rest, Ready}
use Rattle.door_frame.specs.declared.guarded.Guarded.{Guarded}
use Rattle.door_frame.specs.Seats.{IsEmptyHanded, IsEntering, StaysAway}
use Rattle.door_frame.specs.Steps.{SeatState, EnteredBy}

module _ {D : Type 0} where
  -- me is the seat of a place that is outside, of some number k
  abbrev pub IsOutside : SeatState D → Type 0
  IsOutside me = (k : ℕ) × IsEntering k me

  -- me and me' are a seat before and after a time in which its place stayed outside, and may have learned events of
  -- other places
  abbrev pub StaysOut : SeatState D → SeatState D → Type 0
  StaysOut me me' = (k : ℕ) → StaysAway k me me'

  -- me and me' are a seat before and after its place was admitted: in me' the seat has access to the slot, and x is in
  -- the slot
  abbrev pub IsAdmitted : Rest D → Ready D → SeatState D → SeatState D → Type 0
  IsAdmitted rest ready me me' =
      (k : ℕ) (f : History D) → IsEmptyHanded k f me → (x : Guarded D)
      × EnteredBy rest ready k f (Admit k) x (Some x) me'
