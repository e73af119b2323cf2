-- Two lists with the same elements, both sorted by a number, have the same numbers.
use Rattle.std.proofs.Common.{◌≡◌, ℕ, suc, ◌+◌, ◌<◌, ◌≤◌, List, [], ◌∷◌, length, map, get_or, cond, ltb, refl, ap, sym}
use Rattle.std.proofs.Common.{◌∙◌, arith}
use Rattle.std.proofs.lemmas.Bool.{le-ltb}
use Rattle.std.proofs.lemmas.Bool.Decides.{nat_tests}
use Rattle.std.proofs.lemmas.List.Sums.{sum_by-cons}
use Rattle.std.proofs.lemmas.List.Sorted.{IsNonDecreasingBy-drop, sum_by-IsPermutation}
use Rattle.std.specs.List.{sum_by}
use Rattle.std.specs.List.Sorted.{IsNonDecreasingBy, IsPermutation}

module _ {X : Type 0} (n : X → ℕ) where
  -- how many elements have a number below y
  abbrev lower : ℕ → List X → ℕ
  lower y xs = sum_by (λ x. cond (ltb (n x) y) 1 0) xs

  lower-none : (y : ℕ) (xs : List X) → ((k : ℕ) (d : X) → k < length xs → y ≤ n (get_or xs k d)) → lower y xs ≡ 0
  lower-none y [] h = refl
  lower-none y (x ∷ xs) h =
      sum_by-cons (λ z. cond (ltb (n z) y) 1 0) x xs
      ∙ rw (le-ltb (n x) y (h 0 x (omega arith)))
      (ap (λ v. 0 + v) (lower-none y xs (λ k d i. h (suc k) d (omega arith))))

  lower-first : (y : ℕ) (x : X) (xs : List X) → lower y (x ∷ xs) ≡ 0 → y ≤ n x
  lower-first y x xs h = first (n x) y (lower y xs) (sym (sum_by-cons (λ z. cond (ltb (n z) y) 1 0) x xs) ∙ h)
    where
      first : (a b c : ℕ) → cond (ltb a b) 1 0 + c ≡ 0 → b ≤ a
      first a b c e = grind (arith, nat_tests)

  -- whatever weight each number has, the weights of both lists have the same sum
  abbrev SameWeights : List X → List X → Type 0
  SameWeights xs ys = (f : ℕ → ℕ) → sum_by (λ x. f (n x)) xs ≡ sum_by (λ x. f (n x)) ys

  first-le : (x y : X) (xs ys : List X) → IsNonDecreasingBy n (y ∷ ys) → SameWeights (x ∷ xs) (y ∷ ys) → n y ≤ n x
  first-le x y xs ys up same =
      lower-first (n y) x xs
      (same (λ v. cond (ltb v (n y)) 1 0) ∙ lower-none (n y) (y ∷ ys) (λ k d i. up 0 k d (omega arith) i))

  numbers-same : (xs ys : List X) → IsNonDecreasingBy n xs → IsNonDecreasingBy n ys → SameWeights xs ys
      → map n xs ≡ map n ys
  numbers-same [] [] up up' same = refl
  numbers-same [] (y ∷ ys) up up' same = absurd (omega (arith, same (λ v. 1), sum_by-cons (λ (z : X). 1) y ys))
  numbers-same (x ∷ xs) [] up up' same = absurd (omega (arith, same (λ v. 1), sum_by-cons (λ (z : X). 1) x xs))
  numbers-same (x ∷ xs) (y ∷ ys) up up' same =
      let a : n y ≤ n x = first-le x y xs ys up' same in
      let b : n x ≤ n y = first-le y x ys xs up (λ f. sym (same f)) in
      let e : n x ≡ n y = omega arith in
      let rest : SameWeights xs ys = λ f.
      omega (arith, same f, sum_by-cons (λ z. f (n z)) x xs, sum_by-cons (λ z. f (n z)) y ys, ap f e) in
      ap (λ v. v ∷ map n xs) e
      ∙ ap (λ v. n y ∷ v)
      (numbers-same xs ys (IsNonDecreasingBy-drop n 1 (x ∷ xs) up) (IsNonDecreasingBy-drop n 1 (y ∷ ys) up') rest)

  pub numbers-permutation : (xs ys : List X) → IsNonDecreasingBy n xs → IsNonDecreasingBy n ys → IsPermutation xs ys
      → map n xs ≡ map n ys
  numbers-permutation xs ys up up' p =
      numbers-same xs ys up up' (λ f. sym (sum_by-IsPermutation (λ x. f (n x)) xs ys p))
