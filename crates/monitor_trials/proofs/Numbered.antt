-- The places of a test are numbered in order, as those of a door are, and stay so in a row.
use Rattle.std.proofs.Common.{ℕ, List, ◌≡◌, ◌<◌, length, sym, subst, ◌∙◌, ap, arith}
use Rattle.std.specs.Prelude.{slice_index_or, All}
use Rattle.std.specs.Fork.{GivesJobs}
use denote.Param.Members.{Shared}
use Rattle.hoare_law.specs.declared.event.History.{History}
use Rattle.door_frame.specs.Places.{DoorId, PlaceOut, places_from, HasPlace}
use Rattle.door_frame.proofs.PlacesInOrder.{length-places, nth-places, has_nth}
use Rattle.monitor_trials.specs.Numbered.{IsNumbered}

module _ {D : Type 0} where
  -- the places of a door are numbered in order
  pub IsNumbered-places : (z : DoorId) (n : ℕ) (f : History D)
      → IsNumbered (λ (o : PlaceOut D). o.place) (places_from z 0 n f)
  IsNumbered-places z n f k d l =
      let count = length-places z 0 n f in nth-places z 0 n f k d (omega arith) ∙ omega arith

  -- in a list of places in order each number below its length is there
  pub HasPlace-numbered : (os : List (PlaceOut D)) → IsNumbered (λ (o : PlaceOut D). o.place) os → (k : ℕ)
      → k < length os → HasPlace k os
  HasPlace-numbered os numbered k l = has_nth os k k l (λ d. numbered k d l)

-- each place was a job, its job gave it back, and calls keep a monitor's places and their numbers: so place k is again
-- the place with number k
pub acted : {F O : Type 0} {g : Shared F (O × Unit {0}) O} {f : F} {of : O → Type 0} {place : O → ℕ}
    (outs after : List O) → GivesJobs g f outs after → All of outs → IsNumbered place outs
    → ((o r : O) → of o → g.post f (o, tt) r → of r × (place r ≡ place o))
    → (k : ℕ) (d : O) → k < length outs
    → of (slice_index_or after k d) × (place (slice_index_or after k d) ≡ k)
acted {of = of} {place = place} _ _ gives of_outs numbered keeps k d in_outs =
    let gave = (gives k d in_outs).1 in
    let was = gave.job_read in
    let kept = keeps gave.job _ (subst of (sym was) (of_outs k gave.job in_outs)) gave.call.met in
    (kept.0, kept.1 ∙ ap place was ∙ numbered k gave.job in_outs)
