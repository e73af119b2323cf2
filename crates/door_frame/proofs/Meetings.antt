-- Two places that met.
use Rattle.std.proofs.Common.{◌≡◌, ℕ, List, [], ◌∷◌, None, refl, sym, ap, ◌∙◌, subst}
use Rattle.hoare_law.specs.declared.event.History.{History}
use Rattle.hoare_law.specs.Sizes.{Kinds}
use Rattle.hoare_law.specs.Lawful.{Rest, Ready, Stands}
use Rattle.door_frame.specs.declared.view.PlaceView.{PlaceView}
use Rattle.door_frame.specs.declared.view.SeatView.TheVariants.{Places}
use Rattle.door_frame.specs.Places.{PlaceId, DoorId, PlaceOut, IsOut, IsInHistory, place_out}
use Rattle.door_frame.specs.Seats.{IsEmptyHanded}
use Rattle.door_frame.specs.Steps.{SeatState, Known, Learns}
use Rattle.door_frame.specs.Views.{alone, knows, both_places, places_behind, first_place}
use Rattle.door_frame.proofs.Refusals.{told_out}
use Rattle.door_frame.specs.Meeting.{Meets}

module _ {D : Type 0} where
  -- the place views of the seat that has both places
  abbrev pub both_of : PlaceOut D → PlaceOut D → List (PlaceView D)
  both_of a b = knows b.place b.front None ∷ knows a.place a.front None ∷ []

  pub joined : (a b : PlaceOut D) {m n both : SeatState D} → IsEmptyHanded a.place a.front m
      → IsEmptyHanded b.place b.front n
      → both ≡ (both_places m.0 n.0, m.1) → both ≡ (Places (both_of a b), [])
  joined a b p q is = is ∙ (λ i. (both_places (p i).0 (q i).0, (p i).1))

  -- the split leaves the seat of a, and cuts off that of b
  pub went_first : (a b : PlaceOut D) {rest : Rest D} {ready : Ready D} {h : History D} {k : ℕ} {m n : SeatState D}
      → k ≡ a.place
      → Learns rest ready h (both_of a b) m → n ≡ (places_behind m.0, m.1) → IsEmptyHanded k h n
  went_first a b {h = h} place l is =
      is ∙ (ap (λ (z : SeatState D). (places_behind z.0, z.1)) l.me_is ∙ (λ i. (alone (sym place i) h, [])))

  pub went_second : (a b : PlaceOut D) {rest : Rest D} {ready : Ready D} {h : History D} {k : ℕ} {m n : SeatState D}
      → k ≡ b.place
      → Learns rest ready h (both_of a b) m → n ≡ (first_place m.0, []) → IsEmptyHanded k h n
  went_second a b {h = h} place l is =
      is ∙ (ap (λ (z : SeatState D). (first_place z.0, [])) l.me_is ∙ (λ i. (alone (sym place i) h, [])))

  told_by : (h : History D) (o : PlaceOut D) → Known h (knows o.place o.front None) → IsInHistory h o
  told_by h o k = record { begins = k.0; own_are = k.1 }

  -- the places that a and b are after they learned h
  pub meets : {rest : Rest D} {ready : Ready D} (a b : PlaceOut D) (s t : PlaceId) (h : History D) {m : SeatState D}
      → Learns rest ready h (both_of a b) m → Meets a b (place_out s a.place h) (place_out t b.place h)
  meets a b s t h l = record { one = refl; first = told_by h a l.fits.1.0; second = told_by h b l.fits.0 }

  -- what holds of the places after they met
  pub record Met (rest : Rest D) (ready : Ready D) (a b c d : PlaceOut D) : Type 0 where
    pub of : (c.place_id ≡ a.place_id) × (d.place_id ≡ b.place_id)
    pub places : (c.place ≡ a.place) × (d.place ≡ b.place)
    pub stands : Stands rest ready d.front
    pub met : Meets a b c d

  pub has_met : {rest : Rest D} {ready : Ready D} (a b c d : PlaceOut D) (h : History D) {m : SeatState D}
      → Learns rest ready h (both_of a b) m → c ≡ place_out a.place_id a.place h → d ≡ place_out b.place_id b.place h
      → Met rest ready a b c d
  has_met {rest = rest} {ready = ready} a b c d h l first second =
      subst (λ (p : PlaceOut D × PlaceOut D). Met rest ready a b p.0 p.1) (λ i. (sym first i, sym second i)) (record {
        of = (refl, refl);
        places = (refl, refl);
        stands = l.stands;
        met = meets a b a.place_id b.place_id h l;
      })

  -- a place that met another is still outside, and of its door
  pub met_out : {rest : Rest D} {ready : Ready D} {kinds : Kinds} {d : DoorId} (o p : PlaceOut D) (h : History D)
      → IsOut rest ready kinds d o → p.place_id ≡ o.place_id → p.place ≡ o.place → p.front ≡ h
      → Stands rest ready h → IsInHistory h o → IsOut rest ready kinds d p
  met_out {rest = rest} {ready = ready} {kinds = kinds} {d = d} o p h out same at front stands told =
      subst (IsOut rest ready kinds d) (λ i. place_out (sym same i) (sym at i) (sym front i))
      (told_out rest ready kinds d o.place_id o h out.of out stands told.begins told.own_are)

  -- a place of the door stands at its table
  pub at_table : {rest : Rest D} {ready : Ready D} {kinds : Kinds} {d e : DoorId} {o : PlaceOut D}
      → IsOut rest ready kinds d o → d ≡ e → o.place_id.table ≡ e.table
  at_table out same = ap (λ (i : PlaceId). i.table) out.of ∙ ap (λ (d : DoorId). d.table) same

  -- both places are still outside, and of their door
  pub both_out : {rest : Rest D} {ready : Ready D} {kinds : Kinds} {d : DoorId} {a b p q : PlaceOut D}
      → IsOut rest ready kinds d a → IsOut rest ready kinds d b
      → (p.place_id ≡ a.place_id) × (q.place_id ≡ b.place_id) → (p.place ≡ a.place) × (q.place ≡ b.place)
      → Stands rest ready q.front → Meets a b p q → IsOut rest ready kinds d p × IsOut rest ready kinds d q
  both_out {a = a} {b} {p} {q} first second same at stands met = (
    met_out a p q.front first same.0 at.0 met.one stands met.first,
    met_out b q q.front second same.1 at.1 refl stands met.second,
  )
