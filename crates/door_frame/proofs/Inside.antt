-- What a call knows of the place inside that is passed to it.
use Rattle.std.proofs.Common.{◌≡◌, ◌<◌, ℕ, Bool, IsTrue, [], ◌∷◌, None, sym, ap, ◌∙◌, subst}
use Rattle.std.specs.Prelude.{◌↔◌}
use Rattle.hoare_law.specs.declared.event.Sizes.{Sizes}
use Rattle.hoare_law.specs.declared.event.History.{History}
use Rattle.hoare_law.specs.Sizes.{Kinds, sizes_at}
use Rattle.hoare_law.specs.declared.turn.Turn.TheVariants.{Held}
use Rattle.hoare_law.specs.Internal.WithoutData.{dataless}
use Rattle.hoare_law.specs.Lawful.{Rest, Ready}
use Rattle.hoare_law.specs.Priorities.{priorities}
use Rattle.hoare_law.specs.Waiting.{IsWaiting}
use Rattle.hoare_law.proofs.Waiters.{held-in_range}
use Rattle.hoare_law.proofs.WithoutData.{waiting_place-dataless}
use Rattle.wait_book.specs.Contents.{Contents, IsOf, priorities_on}
use Rattle.wait_book.proofs.WithData.{turn-history, priorities_on-history}
use Rattle.door_frame.specs.declared.guarded.BoxContents.{BoxContents}
use Rattle.door_frame.specs.declared.guarded.Guarded.{Guarded}
use Rattle.door_frame.specs.Places.{PlaceId, DoorId, PlaceIn, IsIn, place_in, sleeper_at}
use Rattle.door_frame.specs.Seats.{IsInside}
use Rattle.door_frame.specs.Steps.{SeatState}
use Rattle.door_frame.specs.Views.{alone}
use Rattle.door_frame.proofs.GuardedBoxes.{unpacked}

module _ {D : Type 0} where
  -- the place k, with the seat me, front f and the guarded box x in hand, is the i of the contract
  pub record Holds (rest : Rest D) (ready : Ready D) (kinds : Kinds) (d : DoorId) (i : PlaceIn D) (t : PlaceId) (k : ℕ)
      (f : History D) (me : SeatState D) (x : Guarded D) : Type 0 where
    pub seen : place_in t k f x.state ≡ i
    pub within : IsIn rest ready kinds d (place_in t k f x.state)
    pub book : IsOf x.book (dataless f)
    pub me_is : me ≡ (alone k f, (0, None) ∷ [])

  module _ {rest : Rest D} {ready : Ready D} {kinds : Kinds} {d : DoorId} {i : PlaceIn D} {t : PlaceId} {k : ℕ}
      {f : History D} {me : SeatState D} where
    pub holds : {x y : Guarded D} → x ≡ y → place_in t k f y.state ≡ i → IsInside k f me y.book
        → IsIn rest ready kinds d i → Holds rest ready kinds d i t k f me x
    holds same view inv of =
        let seen = ap (λ (w : Guarded D). place_in t k f w.state) same ∙ view in record {
          seen = seen;
          within = subst (IsIn rest ready kinds d) (sym seen) of;
          book = subst (λ (w : Guarded D). IsOf w.book (dataless f)) (sym same) inv.1;
          me_is = inv.0;
        }

    -- the same of a place taken apart, once its box is unpacked
    pub holds_unpacked : {now held : BoxContents D} {y : Guarded D} → now ≡ held → held.contents ≡ y
        → record { parts : place_in t k f y.state ≡ i; seat : IsInside k f me y.book } → IsIn rest ready kinds d i
        → Holds rest ready kinds d i t k f me now.contents
    holds_unpacked found is apart of = holds (unpacked found is) apart.parts apart.seat of

    module _ {x : Guarded D} where
      -- the book in hand has the place k inside too
      pub turn_in_hand : Holds rest ready kinds d i t k f me x → x.book.turn ≡ Held k
      turn_in_hand h = turn-history x.book f h.book ∙ h.within.is_inside

      -- the book in hand has the door's sizes
      pub sized_in_hand : (P : Sizes → Type 0) → Holds rest ready kinds d i t k f me x → P (sizes_at kinds d.places)
          → P x.book.sizes
      sized_in_hand P h asked = subst P (sym h.within.sized ∙ h.book.sizes) asked

      pub small : Holds rest ready kinds d i t k f me x → k < d.places
      small h =
          subst (λ (n : Sizes). k < n.places) h.within.sized
          (held-in_range f k h.within.stands.legal h.within.is_inside)

      -- the place parks where it is woken
      pub sleeps : Holds rest ready kinds d i t k f me x → t.sleeper ≡ sleeper_at d k
      sleeps h = ap (λ (b : PlaceId). b.sleeper) h.within.of

  -- the book that a call is lent is of the front
  pub book_in_hand : {k : ℕ} {f : History D} {me : SeatState D} {b c : Contents} → b ≡ c → IsInside k f me c
      → IsOf b (dataless f)
  book_in_hand {f = f} same inv = subst (λ (a : Contents). IsOf a (dataless f)) (sym same) inv.1

  -- so the book's priorities are those of the contract
  pub listed_in_hand : {t : PlaceId} {k : ℕ} {f : History D} {s : D} {i : PlaceIn D} {me : SeatState D} {b c : Contents}
      → b ≡ c → IsInside k f me c
      → place_in t k f s ≡ i → priorities_on b ≡ priorities i.front.events
  listed_in_hand {f = f} {b = b} same inv view =
      priorities_on-history b f (book_in_hand same inv) ∙ ap (λ (j : PlaceIn D). priorities j.front.events) view

  -- what a book says of a waiter holds of the contract's front
  pub waits_in_hand : {t : PlaceId} {k : ℕ} {f : History D} {s : D} {i : PlaceIn D} (r : Bool) (c w : ℕ)
      → place_in t k f s ≡ i → IsTrue r ↔ IsWaiting c (dataless f).events w → IsTrue r ↔ IsWaiting c i.front.events w
  waits_in_hand {f = f} r c w view told =
      let same = waiting_place-dataless w c f.events in
      subst (λ (j : PlaceIn D). IsTrue r ↔ IsWaiting c j.front.events w) view
      ((λ yes. same.0 (told.0 yes)), (λ waits. told.1 (same.1 waits)))
