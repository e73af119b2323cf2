-- Lists of places, and the position of a seat's view among all views.
use Rattle.std.proofs.Common.{◌≡◌, ◌≢◌, ◌⊎◌, inl, inr, ⊎_elim, ℕ, zero, suc, ◌+◌, ◌-◌, ◌<◌, true, eqb, cond, List, []}
use Rattle.std.proofs.Common.{◌∷◌, ◌++◌, length, set, take, drop, None, refl, sym, ap, ◌∙◌}
use Rattle.std.proofs.Common.{subst, arith, eq-eqb, ne_eqb}
use Rattle.std.proofs.Common.{reverse, length-append}
use Rattle.std.specs.Prelude.{slice_index_or}
use Rattle.std.proofs.Math.Seq.{get_or-append_seam}
use Rattle.std.proofs.lemmas.List.{get_or-reverse}
use mathlib.Core.Option.{some, some-injective, some-ne-none}
use lib.ListN.{get_elem?}
use Rattle.hoare_law.specs.declared.event.History.{History}
use Rattle.door_frame.specs.declared.view.PlaceView.{PlaceView}
use Rattle.door_frame.specs.declared.view.SeatView.{SeatView}
use Rattle.door_frame.specs.Places.{PlaceId, DoorId, PlaceOut, place_id_at, place_out, places_from}
use Rattle.door_frame.specs.Views.{knows, alone, is_alone, front_of, all_know, Each, Without, Apart}

-- the only element
pub only : {V : Type 0} (v w : V) (i : ℕ) → get_elem? (v ∷ []) i ≡ some w → v ≡ w
only v w zero e = some-injective v w e
only v w (suc i) e = absurd (some-ne-none w (sym e))

pub set_only : {V : Type 0} (v w u : V) (i : ℕ) → get_elem? (v ∷ []) i ≡ some u → set (v ∷ []) i w ≡ w ∷ []
set_only v w u zero e = refl
set_only v w u (suc i) e = absurd (some-ne-none u (sym e))

pub only_at : {V : Type 0} (v w : V) (i : ℕ) → get_elem? (v ∷ []) i ≡ some w → i ≡ 0
only_at v w zero e = refl
only_at v w (suc i) e = absurd (some-ne-none w (sym e))

-- the element at the end, and where it is
pub at_end : {V : Type 0} (l : List V) (a b : V) (j : ℕ) → get_elem? (l ++ a ∷ []) j ≡ some b
    → (get_elem? l j ≡ some b) ⊎ ((j ≡ length l) × (a ≡ b))
at_end [] a b zero e = inr (refl, some-injective a b e)
at_end [] a b (suc j) e = absurd (some-ne-none b (sym e))
at_end (x ∷ xs) a b zero e = inl e
at_end (x ∷ xs) a b (suc j) e =
    ⊎_elim (λ (t : get_elem? xs j ≡ some b). inl t) (λ (t : (j ≡ length xs) × (a ≡ b)). inr (omega (arith, t.0), t.1))
    (at_end xs a b j e)

-- the owners (or the tokens), with the place k now at the seat (or with the token) `to`
abbrev pub given_to : {A : Type 0} → (ℕ → A) → ℕ → A → ℕ → A
given_to owner k to i = cond (eqb i k) to (owner i)

pub given_here : {A : Type 0} (owner : ℕ → A) (k : ℕ) (to : A) → given_to owner k to k ≡ to
given_here owner k to = ap (λ b. cond b to (owner k)) (eq-eqb k k refl)

pub given_else : {A : Type 0} (owner : ℕ → A) (k : ℕ) (to : A) (i : ℕ) → i ≢ k → given_to owner k to i ≡ owner i
given_else owner k to i n = ap (λ b. cond b to (owner i)) (ne_eqb i k n)

-- the owners, with all places of the seat `other` now at the seat `to`
abbrev pub handed : (ℕ → ℕ) → ℕ → ℕ → ℕ → ℕ
handed owner other to i = cond (eqb (owner i) other) to (owner i)

pub handed_here : (owner : ℕ → ℕ) (other to i : ℕ) → owner i ≡ other → handed owner other to i ≡ to
handed_here owner other to i e = ap (λ b. cond b to (owner i)) (eq-eqb (owner i) other e)

pub handed_else : (owner : ℕ → ℕ) (other to i : ℕ) → owner i ≢ other → handed owner other to i ≡ owner i
handed_else owner other to i n = ap (λ b. cond b to (owner i)) (ne_eqb (owner i) other n)

-- the element of a list with k elements after it is element k of the reversed list
pub nth_reversed : {A : Type 0} (xs new given : List A) (x d : A) (k : ℕ) → xs ≡ new ++ x ∷ given → length given ≡ k
    → slice_index_or (reverse xs) k d ≡ x
nth_reversed {A = A} xs new given x d k are many =
    let long = ap length are ∙ length-append new (x ∷ given) in
    let at : length xs - 1 - k ≡ length new = omega (arith, long, many) in
    get_or-reverse xs k d (omega (arith, long, many))
    ∙ ap (λ (j : ℕ). slice_index_or xs j d) at
    ∙ ap (λ (l : List A). slice_index_or l (length new) d) are
    ∙ get_or-append_seam new x given d

module _ {D : Type 0} where
  pub each_map : (P Q : PlaceView D → Type 0) → ((t : PlaceView D) → P t → Q t) → (v : List (PlaceView D)) → Each P v
      → Each Q v
  each_map P Q f [] h = tt
  each_map P Q f (t ∷ ts) h = (f t h.0, each_map P Q f ts h.1)

  pub each_with : (P Q R : PlaceView D → Type 0) → ((t : PlaceView D) → P t → Q t → R t) → (v : List (PlaceView D))
      → Each P v → Each Q v → Each R v
  each_with P Q R f [] g h = tt
  each_with P Q R f (t ∷ ts) g h = (f t g.0 h.0, each_with P Q R f ts g.1 h.1)

  pub each-append : (P : PlaceView D → Type 0) (v w : List (PlaceView D)) → Each P v → Each P w → Each P (v ++ w)
  each-append P [] w g h = h
  each-append P (t ∷ ts) w g h = (g.0, each-append P ts w g.1 h)

  pub without : (k j m : ℕ) (f : History D) → k < j → Without k (all_know j m f)
  without k j zero f l = tt
  without k j (suc m) f l = ((λ (e : j ≡ k). omega arith), without k (suc j) m f (omega arith))

  pub all_know_apart : (k m : ℕ) (f : History D) → Apart (all_know k m f)
  all_know_apart k zero f = tt
  all_know_apart k (suc m) f = (without k (suc k) m f (omega arith), all_know_apart (suc k) m f)

  pub apart-append : (us ts : List (PlaceView D)) → Apart us → Apart ts → Each (λ u. Without u.place ts) us
      → Apart (us ++ ts)
  apart-append [] ts a b c = b
  apart-append (u ∷ us) ts a b c = (each-append (λ t. t.place ≢ u.place) us ts a.0 c.0, apart-append us ts a.1 b c.1)

  -- the first of some places, and the others
  pub dealt : (k m : ℕ) (f : History D) → 0 < m
      → (take 1 (all_know k m f) ≡ knows k f None ∷ []) × (drop 1 (all_know k m f) ≡ all_know (k + 1) (m - 1) f)
  dealt k zero f more = absurd (omega arith)
  dealt k (suc m) f more =
      let a : suc k ≡ k + 1 = omega arith in let b : m ≡ suc m - 1 = omega arith in (refl, λ i. all_know (a i) (b i) f)

  pub places_more : (d : DoorId) (k n : ℕ) (f : History D)
      → places_from d k (n + 1) f ≡ places_from d k n f ++ place_out (place_id_at d (k + n)) (k + n) f ∷ []
  places_more d k zero f =
      let a : k ≡ k + 0 = omega arith in ap (λ (m : ℕ). place_out (place_id_at d m) m f ∷ []) a
  places_more d k (suc n) f =
      let a : suc n + 1 ≡ suc (n + 1) = omega arith in let b : suc k + n ≡ k + suc n = omega arith in
      ap (λ (m : ℕ). places_from d k m f) a
      ∙ ap (λ (l : List (PlaceOut D)). place_out (place_id_at d k) k f ∷ l)
      (places_more d (suc k) n f ∙ ap (λ (m : ℕ). places_from d (suc k) n f ++ place_out (place_id_at d m) m f ∷ []) b)

  -- one more place, which parks where it is woken
  pub places_and : (d : DoorId) (k : ℕ) (b : PlaceId) (f : History D) → b ≡ place_id_at d k
      → places_from d 0 k f ++ place_out b k f ∷ [] ≡ places_from d 0 (k + 1) f
  places_and d k b f is =
      let same : k ≡ 0 + k = omega arith in
      ap (λ (c : PlaceId). places_from d 0 k f ++ place_out c k f ∷ []) is
      ∙ ap (λ (j : ℕ). places_from d 0 k f ++ place_out (place_id_at d j) j f ∷ []) same
      ∙ sym (places_more d 0 k f)

  -- the front of the seat of one place
  pub front_of-alone : (v : SeatView D) (is : is_alone v ≡ true) (k : ℕ) (f : History D) → v ≡ alone k f
      → front_of v is ≡ f
  front_of-alone v is k f e = subst (λ (w : SeatView D). (a : is_alone w ≡ true)
      → front_of w a ≡ f) (sym e) (λ a. refl) is
