-- What a seat holds after each step.
use Rattle.std.proofs.Common.{◌≡◌, ◌<◌, ℕ, ◌+◌, ◌-◌, true, List, [], ◌∷◌, Option, Some, None, unwrap_or, sym, ap, ◌∙◌}
use Rattle.std.proofs.Common.{subst}
use Rattle.atomic_table.specs.Table.{rest}
use Rattle.atomic_table.specs.Seated.{TableId}
use Rattle.hoare_law.specs.declared.event.Event.{Event}
use Rattle.hoare_law.specs.declared.event.History.{History}
use Rattle.hoare_law.specs.Lawful.{Rest, Ready}
use Rattle.door_frame.specs.declared.guarded.Guarded.{Guarded}
use Rattle.door_frame.specs.Places.{place_id}
use Rattle.door_frame.specs.Seats.{IsEmptyHanded}
use Rattle.door_frame.specs.Steps.{SeatState, EnteredBy}
use Rattle.door_frame.specs.declared.view.PlaceView.{PlaceView}
use Rattle.door_frame.specs.declared.view.SeatView.{SeatView}
use Rattle.door_frame.specs.declared.view.SeatView.TheVariants.{Places}
use Rattle.door_frame.specs.Views.{alone, is_alone, front_of, all_know, first_place, places_behind}
use Rattle.door_frame.proofs.Views.{dealt, front_of-alone}

pub one_slot : {S : Type 0} (l : List (ℕ × S)) (x : ℕ × S) → l ≡ x ∷ [] → l ≡ x ∷ rest l
one_slot {S = S} l x e = e ∙ ap (λ (z : List (ℕ × S)). x ∷ rest z) (sym e)

-- place ids with equal tables and the same sleeper are equal
pub place_id_as : (w : TableId) {y z : TableId} → y ≡ z → place_id y w ≡ place_id z w
place_id_as w same = ap (λ (z : TableId). place_id z w) same

-- the same if what the place parks on depends on the table
pub place_id_on : {X : Type 0} (at : TableId → X → TableId) (s : X) {y z : TableId} → y ≡ z
    → place_id y (at y s) ≡ place_id z (at z s)
place_id_on at s same = ap (λ (z : TableId). place_id z (at z s)) same

module _ {D : Type 0} where
  abbrev slot_or : Option (Guarded D) → List (ℕ × Option (Guarded D)) → Option (Guarded D)
  slot_or d [] = d
  slot_or d (x ∷ xs) = x.1

  -- the only slot of a seat, with other contents
  pub slot_now : {v : SeatView D} {m n : SeatState D} (o p : Option (Guarded D)) → m ≡ (v, (0, o) ∷ [])
      → n ≡ (m.0, (0, p) ∷ rest m.1)
      → n ≡ (m.0, (0, p) ∷ [])
  slot_now {m = m} o p is now = now ∙ ap (λ (z : SeatState D). (m.0, (0, p) ∷ rest z.1)) is

  pub slot_has : {v : SeatView D} {m : SeatState D} (o p : Option (Guarded D)) → m ≡ (v, (0, p) ∷ [])
      → m.1 ≡ (0, o) ∷ rest m.1
      → o ≡ p
  slot_has o p is out = ap (slot_or o) (sym out) ∙ ap (λ (z : SeatState D). slot_or o z.1) is

  pub slot_is : {v : SeatView D} {m : SeatState D} (o p : Option (Guarded D)) → m ≡ (v, (0, o) ∷ []) → o ≡ p
      → m ≡ (m.0, (0, p) ∷ [])
  slot_is o p is same = is ∙ (λ i. ((sym is i).0, (0, same i) ∷ []))

  module _ (calm : Rest D) (ready : Ready D) where
    -- a place that entered takes the contents of the slot
    pub took_also : {k : ℕ} {f : History D} {event : D → Event D} {x y : Guarded D} {m n : SeatState D}
        (Also : History D → Type 0)
        (c : EnteredBy calm ready k f event x (Some x) m) → Also c.log → m ≡ (m.0, (0, Some y) ∷ [])
        → n ≡ (m.0, (0, None) ∷ [])
        → (d : EnteredBy calm ready k f event y None n) × Also d.log
    took_also {k = k} {f = f} {event = event} {x = x} {y = y} {m = m} {n = n} Also c also holds now =
        let guarded : Option (Guarded D) → Guarded D = λ o. unwrap_or o x in
        let same : x ≡ y = ap (λ (z : SeatState D). guarded (slot_or None z.1)) (sym c.me_is ∙ holds) in
        subst (λ (z : Guarded D). (d : EnteredBy calm ready k f event z None n) × Also d.log) same (
          record {
            log = c.log;
            me_is = now ∙ ap (λ (z : SeatState D). (z.0, (0, None) ∷ [])) c.me_is;
            begins = c.begins;
            own_are = c.own_are;
            stands = c.stands;
            book = c.book;
          },
          also,
        )

    pub took : {k : ℕ} {f : History D} {event : D → Event D} {x y : Guarded D} {m n : SeatState D}
        → EnteredBy calm ready k f event x (Some x) m
        → m ≡ (m.0, (0, Some y) ∷ []) → n ≡ (m.0, (0, None) ∷ []) → EnteredBy calm ready k f event y None n
    took c holds now = (took_also (λ log. Unit {0}) c tt holds now).0

  pub is_alone-seat : (m : SeatState D) (k : ℕ) (f : History D) (c : List (ℕ × Option (Guarded D))) → m ≡ (alone k f, c)
      → is_alone m.0 ≡ true
  is_alone-seat m k f c e = ap (λ (z : SeatState D). is_alone z.0) e

  pub front_is : (m : SeatState D) (is : is_alone m.0 ≡ true) (k : ℕ) (f : History D) (c : List (ℕ
      × Option (Guarded D)))
      → m ≡ (alone k f, c) → front_of m.0 is ≡ f
  front_is m is k f c e = front_of-alone m.0 is k f (ap (λ (z : SeatState D). z.0) e)

  -- the seat of one place, by its own front
  pub has_front : (m : SeatState D) (is : is_alone m.0 ≡ true) (k : ℕ) (f : History D) (c : List (ℕ
      × Option (Guarded D)))
      → m ≡ (alone k f, c) → m ≡ (alone k (front_of m.0 is), c)
  has_front m is k f c e = e ∙ ap (λ (h : History D). (alone k h, c)) (sym (front_is m is k f c e))

  -- what holds of the front that a seat has
  pub at_front : (P : History D → Type 0) (m : SeatState D) (is : is_alone m.0 ≡ true) (k : ℕ) (f : History D)
      (c : List (ℕ × Option (Guarded D)))
      → m ≡ (alone k f, c) → P f → P (front_of m.0 is)
  at_front P m is k f c e p = subst P (sym (front_is m is k f c e)) p

  -- the seat of the first of some places is split off
  pub cut_off : (k m : ℕ) (f : History D) {me cut left : SeatState D} → 0 < m → me ≡ (Places (all_know k m f), [])
      → cut ≡ (first_place me.0, []) → left ≡ (places_behind me.0, me.1)
      → (cut ≡ (alone k f, [])) × (left ≡ (Places (all_know (k + 1) (m - 1) f), []))
  cut_off k m f more is a b = let d = dealt k m f more in (
    a ∙ (ap (λ (z : SeatState D). (first_place z.0, [])) is ∙ ap (λ (v : List (PlaceView D)). (Places v, [])) d.0),
    b ∙ (ap (λ (z : SeatState D). (places_behind z.0, z.1)) is ∙ ap (λ (v : List (PlaceView D)). (Places v, [])) d.1),
  )

  pub away_as : {j k : ℕ} {f : History D} {me : SeatState D} → j ≡ k → IsEmptyHanded k f me → IsEmptyHanded j f me
  away_as {f = f} {me = me} same away = subst (λ (i : ℕ). IsEmptyHanded i f me) (sym same) away
