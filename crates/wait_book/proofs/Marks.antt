-- The marks of the places in the chains, after an insertion and after a removal.
use Rattle.std.proofs.Common.{◌≡◌, ◌≢◌, ℕ, zero, suc, ◌+◌, ◌<◌, ◌≤◌, Bool, true, false, cond, inl, inr, List, [], ◌∷◌}
use Rattle.std.proofs.Common.{◌++◌, length, get_or, set, replicate, refl, ap, sym, ◌∙◌, subst, arith}
use Rattle.std.proofs.lemmas.Bool.{cases_eq, cases_lt}
use Rattle.std.proofs.lemmas.List.{append-nil, get_or-set_same, get_or-set_other, get_or_past, length-set}
use Rattle.wait_book.specs.declared.book.TheConstants.{MOST_PLACES}
use Rattle.wait_book.specs.declared.chains.TheConstants.{CALLED, CHAINS}
use Rattle.wait_book.specs.declared.chains.Link.{Link}
use Rattle.wait_book.specs.Contents.{one, times}
use Rattle.wait_book.specs.Lists.{Lists, all_below, list_at, list_put, places_below, places_in}
use Rattle.wait_book.specs.Linked.{AreMarked, marked}
use Rattle.wait_book.proofs.Times.{one_same, one_apart}
use Rattle.wait_book.proofs.Lists.{eq_apart, places_append, places_middle, put_other, times_put}

-- a mark that is set has its value, and the others keep theirs
marked-set : (s : List Bool) (k : ℕ) (b : Bool) → k < length s → marked (set s k b) k ≡ cond b 1 0
marked-set s k b l = ap (λ (v : Bool). cond v 1 0) (get_or-set_same s k b false l)

marked-other : (s : List Bool) (k j : ℕ) (b : Bool) → j ≢ k → marked (set s k b) j ≡ marked s j
marked-other s k j b n = ap (λ (v : Bool). cond v 1 0) (get_or-set_other s k j b false n)

marked_few : (s : List Bool) (k : ℕ) → marked s k ≤ 1
marked_few s k = elim (get_or s k false) as (λ b. cond b 1 0 ≤ 1) [ true ↦ omega arith | false ↦ omega arith ]

-- a place that is marked is within the list of the marks
marked_within : (s : List Bool) (k : ℕ) → 0 < marked s k → k < length s
marked_within s k p =
    elim (cases_lt k (length s)) [
      | inl l ↦ l
      | inr m ↦
          let none : marked s k ≡ 0 = ap (λ (v : Bool). cond v 1 0) (get_or_past s k false m) in
          absurd (omega (arith, none))
    ]

-- no place is marked, and the lists are empty
no_mark : (n k : ℕ) → get_or (replicate n false) k false ≡ false
no_mark zero k = refl
no_mark (suc n) zero = refl
no_mark (suc n) (suc k) = no_mark n k

no_places : (n : ℕ) → places_below n (λ c. []) ≡ []
unfolding all_below
no_places zero = refl
no_places (suc n) = append-nil _ ∙ no_places n

pub AreMarked-none : {at : ℕ → List Link} → ((c : ℕ) → at c ≡ []) → AreMarked (replicate MOST_PLACES false) at
AreMarked-none {at = at} h =
    let none : at ≡ (λ c. []) = λ i c. h c i in
    record {
      many = refl;
      once = λ k. ap (λ (v : ℕ → List Link). times k (places_below CHAINS v)) none ∙ ap (times k) (no_places CHAINS)
          ∙ sym (ap (λ (v : Bool). cond v 1 0) (no_mark MOST_PLACES k));
    }

-- the same for an equal value
pub AreMarked-equal : {s : List Bool} {v w : Lists} → v ≡ w → AreMarked s (list_at v) → AreMarked s (list_at w)
AreMarked-equal {s = s} e m = subst (λ (u : Lists). AreMarked s (list_at u)) e m

-- a place that was in no list is inserted into a list
pub AreMarked-put : {s : List Bool} {at bt : ℕ → List Link} (c : ℕ) (before after : List Link) (x : Link)
    → AreMarked s at → c < CHAINS → x.place < MOST_PLACES
    → at c ≡ before ++ after → times x.place (places_below CHAINS at) ≡ 0
    → ((d : ℕ) → bt d ≡ list_put c (before ++ x ∷ after) at d)
    → AreMarked (set s x.place true) bt
AreMarked-put {s = s} {at = at} {bt = bt} c before after x m l within is apart lists =
    let same : bt ≡ list_put c (before ++ x ∷ after) at = λ i d. lists d i in
    let more : (k : ℕ) → times k (places_below CHAINS bt) ≡ times k (places_below CHAINS at) + one k x.place = λ k.
    omega (
      arith,
      ap (λ (v : ℕ → List Link). times k (places_below CHAINS v)) same,
      times_put (λ d (y : Link). y.place) k CHAINS c (before ++ x ∷ after) at l,
      places_middle k before x after,
      ap (λ v. times k (places_in v)) is,
    ) in
    record {
      many = length-set s x.place true ∙ m.many;
      once = λ k.
          elim (cases_eq k x.place) [
            | inl e ↦
                let h : times x.place (places_below CHAINS bt) ≡ marked (set s x.place true) x.place =
                omega (arith, more x.place, one_same x.place, marked-set s x.place true (omega (arith, m.many))) in
                subst (λ (j : ℕ). times j (places_below CHAINS bt) ≡ marked (set s x.place true) j) (sym e) h
            | inr n ↦ omega (
              arith,
              more k,
              one_apart k x.place (eq_apart k x.place n),
              m.once k,
              marked-other s x.place k true n,
            )
          ];
    }

module _ {s : List Bool} {at : ℕ → List Link} (c : ℕ) (before : List Link) (x : Link) (after : List Link)
    (m : AreMarked s at) (l : c < CHAINS) (is : at c ≡ before ++ x ∷ after) where
  -- the list without the link
  abbrev rest : List Link
  rest = before ++ after

  taken_times : (k : ℕ)
      → times k (places_below CHAINS (list_put c rest at)) + one k x.place ≡ times k (places_below CHAINS at)
  taken_times k =
      omega (
        arith,
        times_put (λ d (y : Link). y.place) k CHAINS c rest at l,
        ap (λ v. times k (places_in v)) is,
        places_middle k before x after,
      )

  -- the place of a link is below `MOST_PLACES`
  pub place_within : x.place < MOST_PLACES
  place_within =
      omega
      (arith, m.many, marked_within s x.place (omega (arith, taken_times x.place, one_same x.place, m.once x.place)))

  -- the link is removed
  pub AreMarked-taken : {bt : ℕ → List Link} (p : ℕ) → x.place ≡ p → ((d : ℕ) → bt d ≡ list_put c rest at d)
      → AreMarked (set s p false) bt
  AreMarked-taken {bt = bt} p e lists =
      let same : bt ≡ list_put c rest at = λ i d. lists d i in
      let less : (k : ℕ) → times k (places_below CHAINS bt) + one k x.place ≡ times k (places_below CHAINS at) = λ k.
      omega (arith, ap (λ (v : ℕ → List Link). times k (places_below CHAINS v)) same, taken_times k) in
      let once : (k : ℕ) → times k (places_below CHAINS bt) ≡ marked (set s x.place false) k = λ k.
      elim (cases_eq k x.place) [
        | inl q ↦
            let h : times x.place (places_below CHAINS bt) ≡ marked (set s x.place false) x.place =
            omega (
              arith,
              less x.place,
              one_same x.place,
              m.once x.place,
              marked_few s x.place,
              marked-set s x.place false (omega (arith, place_within, m.many)),
            ) in
            subst (λ (j : ℕ). times j (places_below CHAINS bt) ≡ marked (set s x.place false) j) (sym q) h
        | inr n ↦ omega (
          arith,
          less k,
          one_apart k x.place (eq_apart k x.place n),
          m.once k,
          marked-other s x.place k false n,
        )
      ] in
      subst (λ (j : ℕ). AreMarked (set s j false) bt) e
      (record { many = length-set s x.place false ∙ m.many; once = once })

  -- the link is moved to the end of the called
  pub AreMarked-called : {bt : ℕ → List Link} → c < CALLED
      → ((d : ℕ) → bt d ≡ list_put CALLED (at CALLED ++ x ∷ []) (list_put c rest at) d) → AreMarked s bt
  AreMarked-called {bt = bt} below lists =
      let same : bt ≡ list_put CALLED (at CALLED ++ x ∷ []) (list_put c rest at) = λ i d. lists d i in
      record {
        many = m.many;
        once = λ k. omega (
          arith,
          ap (λ (v : ℕ → List Link). times k (places_below CHAINS v)) same,
          times_put (λ d (y : Link). y.place) k CHAINS CALLED (at CALLED ++ x ∷ []) (list_put c rest at) (omega arith),
          places_append k (at CALLED) (x ∷ []),
          ap (λ v. times k (places_in v)) (put_other c CALLED rest at (omega arith)),
          taken_times k,
          m.once k,
        );
      }

-- all of a list are moved to the end of the called
pub AreMarked-joined : {s : List Bool} {at bt : ℕ → List Link} (c : ℕ) → AreMarked s at → c < CALLED
    → ((d : ℕ) → bt d ≡ list_put c [] (list_put CALLED (at CALLED ++ at c) at) d) → AreMarked s bt
AreMarked-joined {s = s} {at = at} {bt = bt} c m l lists =
    let same : bt ≡ list_put c [] (list_put CALLED (at CALLED ++ at c) at) = λ i d. lists d i in
    let off : list_put CALLED (at CALLED ++ at c) at c ≡ at c =
    put_other CALLED c (at CALLED ++ at c) at (omega arith) in
    record {
      many = m.many;
      once = λ k. omega (
        arith,
        ap (λ (v : ℕ → List Link). times k (places_below CHAINS v)) same,
        times_put (λ d (y : Link). y.place) k CHAINS c [] (list_put CALLED (at CALLED ++ at c) at) (omega arith),
        times_put (λ d (y : Link). y.place) k CHAINS CALLED (at CALLED ++ at c) at (omega arith),
        places_append k (at CALLED) (at c),
        ap (λ v. times k (places_in v)) off,
        m.once k,
      );
    }
