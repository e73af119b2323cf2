-- Lists of waiting priorities: all of them, whether there are any, and how many pass a test.
use Rattle.std.proofs.Common.{◌≡◌, ◌≢◌, ◌==◌, ℕ, zero, suc, ◌+◌, ◌-◌, ◌<◌, ◌≤◌, List, [], ◌∷◌, Bool, true, false, cond}
use Rattle.std.proofs.Common.{leb, length, get_or, take, count_by, refl, sym, ◌∙◌, arith}
use Rattle.std.specs.Prelude.{All, IsTrue, slice_index}
use Rattle.std.specs.List.Sorted.{IsNonDecreasing}
use Rattle.std.proofs.lemmas.Bool.Decides.{nat_tests}
use Rattle.std.proofs.lemmas.List.Elements.{All-head, All-tail}
use Rattle.std.proofs.lemmas.List.Sums.{sum_by-cons}
use Rattle.hoare_law.specs.Priorities.{put_in, behind_first}
use Rattle.hoare_law.specs.Internal.Rising.{IsNonDecreasing-behind_first}

-- what holds of all, holds of all but the first
pub All-others : (P : ℕ → Type 0) (q : List ℕ) → All P q → All P (behind_first q)
All-others P [] all = all
All-others P (x ∷ q) all = All-tail P x q all

-- what holds of all, holds of the first
pub All-first : (P : ℕ → Type 0) (q : List ℕ) → q ≢ [] → All P q → P (slice_index q 0)
All-first P [] some all = absurd (some refl)
All-first P (x ∷ q) some all = All-head P x q all

-- if a test is true whenever the list has an element, and it returned false, the list is empty
pub none_told : {X : Type 0} (xs : List X) (b : Bool) → (xs ≢ [] → IsTrue b) → b ≡ false → xs ≡ []
none_told [] b told untold = refl
none_told (x ∷ xs) true told untold = absurd (cc)
none_told (x ∷ xs) false told untold = let some : IsTrue false = told (λ e. cc) in absurd (cc)

module _ (test : ℕ → Bool) where
  -- one more counts if it passes
  pub count_by-cons : (q : ℕ) (qs : List ℕ) → count_by test (q ∷ qs) ≡ cond (test q) 1 0 + count_by test qs
  count_by-cons q qs = sum_by-cons (λ r. cond (test r) 1 0) q qs

  pub count_by-put_in : (p : ℕ) (qs : List ℕ)
      → count_by test (put_in (λ n. n) p qs) ≡ cond (test p) 1 0 + count_by test qs
  count_by-put_in p [] = count_by-cons p []
  count_by-put_in p (q ∷ qs) = by (leb q p) (count_by-put_in p qs)
    where
      by : (t : Bool) → count_by test (put_in (λ n. n) p qs) ≡ cond (test p) 1 0 + count_by test qs
          → count_by test (cond t (q ∷ put_in (λ n. n) p qs) (p ∷ q ∷ qs)) ≡ cond (test p) 1 0 + count_by test (q ∷ qs)
      by true rest = omega (arith, rest, count_by-cons q (put_in (λ n. n) p qs), count_by-cons q qs)
      by false rest = count_by-cons p (q ∷ qs)

  pub count_by-passes : (p : ℕ) (qs : List ℕ) → test p ≡ true
      → count_by test (put_in (λ n. n) p qs) ≡ count_by test qs + 1
  count_by-passes p qs passes = count_by-put_in p qs ∙ (rw passes (omega arith))

  pub count_by-fails : (p : ℕ) (qs : List ℕ) → test p ≡ false → count_by test (put_in (λ n. n) p qs) ≡ count_by test qs
  count_by-fails p qs fails = count_by-put_in p qs ∙ (rw fails (omega arith))

  -- the first and those after it are all
  pub count_by-first : (qs : List ℕ) → qs ≢ []
      → count_by test (put_in (λ n. n) (slice_index qs 0) (behind_first qs)) ≡ count_by test qs
  count_by-first [] some = absurd (some refl)
  count_by-first (q ∷ qs) some = count_by-put_in q qs ∙ sym (count_by-cons q qs)

-- none of those above p is p
none_above : (p : ℕ) (qs : List ℕ) → ((j : ℕ) → j < length qs → p < get_or qs j 0) → count_by (λ q. q == p) qs ≡ 0
none_above p [] above = refl
none_above p (q ∷ qs) above =
    let apart : (q == p) ≡ false = let a : p < q = above 0 (omega arith) in grind (arith, nat_tests) in
    let rest : count_by (λ r. r == p) qs ≡ 0 = none_above p qs (λ j l. above (suc j) (omega arith)) in
    count_by-cons (λ r. r == p) q qs ∙ (rw (apart, rest) refl)

-- if the list rises and element i is above p, all elements equal to p are before element i
pub count_by-before : (p : ℕ) (qs : List ℕ) (i : ℕ) → IsNonDecreasing qs → i < length qs → p < get_or qs i 0
    → count_by (λ q. q == p) (take i qs) ≡ count_by (λ q. q == p) qs
count_by-before p [] i rises l above = absurd (omega arith)
count_by-before p (q ∷ qs) zero rises l above =
    sym (none_above p (q ∷ qs) (λ j below. omega (arith, above, rises 0 j 0 (omega arith) below)))
count_by-before p (q ∷ qs) (suc i) rises l above =
    let rest = count_by-before p qs i (IsNonDecreasing-behind_first (q ∷ qs) rises) (omega arith) above in
    omega (arith, rest, count_by-cons (λ r. r == p) q (take i qs), count_by-cons (λ r. r == p) q qs)

-- if the list rises and its first element is above p, no element is p
pub count_by-above : (p : ℕ) (qs : List ℕ) → IsNonDecreasing qs → qs ≢ [] → p < slice_index qs 0
    → count_by (λ q. q == p) qs ≡ 0
count_by-above p [] rises some above = refl
count_by-above p (q ∷ qs) rises some above = sym (count_by-before p (q ∷ qs) 0 rises (omega arith) above)

mirrored : (last here q : ℕ) → here ≤ last → q ≤ last → (q == last - here) ≡ (last - q == here)
mirrored last here q h l = grind (arith, nat_tests)

-- as many are `last - here` as have the distance `here` from `last`
pub count_by-mirrored : (last here : ℕ) (qs : List ℕ) → here ≤ last → All (λ q. q ≤ last) qs
    → count_by (λ q. q == last - here) qs ≡ count_by (λ q. last - q == here) qs
count_by-mirrored last here [] h all = refl
count_by-mirrored last here (q ∷ qs) h all =
    let same : (q == last - here) ≡ (last - q == here) = mirrored last here q h (All-head (λ r. r ≤ last) q qs all) in
    let rest = count_by-mirrored last here qs h (All-tail (λ r. r ≤ last) q qs all) in
    count_by-cons (λ r. r == last - here) q qs ∙ (rw (same, rest) (sym (count_by-cons (λ r. last - r == here) q qs)))
