-- Tests on numbers and on all elements of a list, joined.
use Rattle.std.proofs.Common.{◌≡◌, ℕ, ◌<◌, Bool, true, false, eqb, leb, ◌&&◌, List, [], ◌∷◌, ◌++◌, cond, refl, arith}
use Rattle.std.specs.List.{list_all, filter}
use Rattle.std.proofs.lemmas.Bool.Decides.{nat_tests}

-- an equation read backwards
pub eq_swap : (k j : ℕ) → eqb k j ≡ eqb j k
eq_swap k j = grind (arith, nat_tests)

-- both sides of a conjunction
pub both_true : (a b : Bool) → (a && b) ≡ true → (a ≡ true) × (b ≡ true)
both_true true b h = (refl, h)
both_true false b h = absurd (cc)

pub and_false : (a : Bool) → (a && false) ≡ false
and_false true = refl
and_false false = refl

pub not_below : (n x w : ℕ) → leb n x ≡ true → w < n → leb x w ≡ false
not_below n x w h l = grind (arith, nat_tests)

pub lower : (n m x : ℕ) → leb n x ≡ true → m < n → leb m x ≡ true
lower n m x h l = grind (arith, nat_tests)

pub above : (b w : ℕ) → leb b w ≡ false → w < b
above b w h = grind (arith, nat_tests)

pub self_least : (n : ℕ) → leb n n ≡ true
self_least n = grind (arith, nat_tests)

pub below : (v w : ℕ) → leb v w ≡ false → leb w v ≡ true
below v w h = grind (arith, nat_tests)

pub list_all-push : {X : Type 0} (p : X → Bool) (ws : List X) (w : X)
    → list_all p (ws ++ w ∷ []) ≡ (list_all p ws && p w)
list_all-push p [] w = elim (p w) as (λ b. (b && true) ≡ b) [ true ↦ refl | false ↦ refl ]
list_all-push p (x ∷ ws) w =
    elim (p x) as (λ b. (b && list_all p (ws ++ w ∷ [])) ≡ ((b && list_all p ws) && p w)) [
      | true ↦ list_all-push p ws w
      | false ↦ refl
    ]

pub list_all-filter : {X : Type 0} (q p : X → Bool) (vs : List X) → list_all q vs ≡ true
    → list_all q (filter p vs) ≡ true
list_all-filter q p [] a = refl
list_all-filter q p (v ∷ vs) a =
    let b : (q v ≡ true) × (list_all q vs ≡ true) = both_true _ _ a in
    elim (p v) as (λ t. list_all q (cond t (v ∷ filter p vs) (filter p vs)) ≡ true)
    [ true ↦ (rw b.0 (list_all-filter q p vs b.1)) | false ↦ list_all-filter q p vs b.1 ]
