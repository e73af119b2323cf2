-- A place that attempts to enter, again and again.
use Rattle.std.proofs.Common.{ℕ}
use Rattle.hoare_law.specs.Lawful.{Rest, Ready}
use Rattle.hoare_law.proofs.Entering.{outside-same}
use Rattle.door_frame.specs.Refusals.{NotFree}
use Rattle.door_frame.specs.Seats.{IsRefused}
use Rattle.door_frame.specs.Steps.{SeatState}
use Rattle.door_frame.proofs.Refusals.{entered_after, refused_stays, stays_on, stays_refl}
use Rattle.baton_door.specs.Entering.{IsOutside, IsAdmitted, StaysOut}

module _ {D : Type 0} where
  pub out_refl : {m : SeatState D} → StaysOut m m
  out_refl = λ k. stays_refl

  pub out_on : {l m n : SeatState D} → StaysOut l m → StaysOut m n → StaysOut l n
  out_on a b = λ k. stays_on (a k) (b k)

  pub turned_away : {rest : Rest D} {ready : Ready D} {l m : SeatState D}
      → ((k : ℕ) → IsRefused rest ready (λ f. NotFree) k l m) → StaysOut l m
  turned_away refused = λ k. refused_stays (refused k)

  -- a place that stayed outside is outside
  pub still_outside : {l m : SeatState D} → StaysOut l m → IsOutside l → IsOutside m
  still_outside stays out =
      let y = stays out.0 out.1.0 out.1.1 in (out.0, (y.0, y.1, outside-same out.0 out.1.0 y.0 y.3 out.1.2))

  -- a place that stayed outside and was then admitted was admitted from what it knew before
  pub admitted_after : {rest : Rest D} {ready : Ready D} {l m n : SeatState D} → StaysOut l m
      → IsAdmitted rest ready m n → IsAdmitted rest ready l n
  admitted_after stays came = λ k f is.
      let y = stays k f is in let c = came k y.0 y.1 in (c.0, entered_after y.2 y.3 c.1)
