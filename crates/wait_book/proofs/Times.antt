-- How often a place is in a list.
use Rattle.std.proofs.Common.{◌≡◌, ℕ, ◌+◌, ◌<◌, ◌≤◌, Bool, true, false, eqb, eq-eqb, ◌==◌, not, ◌||◌, List, [], ◌∷◌}
use Rattle.std.proofs.Common.{◌++◌, length, map, refl, ap, ◌∙◌, arith}
use Rattle.std.specs.List.{list_all, list_any, filter, AllByRecursion, IsDistinct}
use Rattle.std.proofs.lemmas.Map.Steps.{length-le_from_distinct_below}
use Rattle.std.proofs.lemmas.Bool.Decides.{nat_tests}
use Rattle.std.proofs.lemmas.Bool.{false≢true}
use Rattle.std.proofs.lemmas.List.{map-id}
use Rattle.hoare_law.proofs.Filters.{filter-all}
use Rattle.hoare_law.proofs.Tests.{eq_swap}
use Rattle.wait_book.specs.Contents.{one, times}

-- a place equals itself
pub eq_self : (k : ℕ) → eqb k k ≡ true
eq_self k = eq-eqb k k refl

-- `one` is 1 for a place and itself
pub one_same : (k : ℕ) → one k k ≡ 1
unfolding one
one_same k = rw (eq_self k) refl

-- `one` is 1 for equal places
pub one_at : (k j : ℕ) → eqb k j ≡ true → one k j ≡ 1
unfolding one
one_at k j h = rw h refl

-- `one` is 0 for two different places
pub one_apart : (k j : ℕ) → eqb k j ≡ false → one k j ≡ 0
unfolding one
one_apart k j h = rw h refl

-- `one` is at most 1
pub one_le : (k j : ℕ) → one k j ≤ 1
unfolding one
one_le k j = grind (arith, nat_tests)

-- places for which `one` is 0 are different
pub apart_one : (k j : ℕ) → one k j ≡ 0 → eqb k j ≡ false
unfolding one
apart_one k j h = grind (arith, nat_tests)

-- the counts of a place in two lists add up in the joined list
pub times-append : (k : ℕ) (xs ys : List ℕ) → times k (xs ++ ys) ≡ times k xs + times k ys
times-append k [] ys = omega arith
times-append k (x ∷ xs) ys = omega (arith, times-append k xs ys)

apart_all : (k : ℕ) (xs : List ℕ) → times k xs ≡ 0 → AllByRecursion (λ y. eqb k y ≡ false) xs
apart_all k [] h = tt
apart_all k (x ∷ xs) h = (apart_one k x (omega arith), apart_all k xs (omega arith))

distinct_once : (xs : List ℕ) → ((j : ℕ) → times j xs ≤ 1) → IsDistinct eqb xs
unfolding IsDistinct
distinct_once [] h = tt
distinct_once (x ∷ xs) h = (apart_all x xs (omega (arith, h x, one_same x)), distinct_once xs (λ j. omega (arith, h j)))

some_any : (b : Bool) (k x : ℕ) (xs : List ℕ) → eqb k x ≡ b → ((list_any (eqb k) xs ≡ true) → 0 < times k xs)
    → (b || list_any (eqb k) xs) ≡ true
    → 0 < one k x + times k xs
some_any true k x xs e h a = omega (arith, one_at k x e)
some_any false k x xs e h a = omega (arith, h a)

any_some : (k : ℕ) (xs : List ℕ) → list_any (eqb k) xs ≡ true → 0 < times k xs
any_some k [] h = absurd (false≢true h)
any_some k (x ∷ xs) h = some_any (eqb k x) k x xs refl (any_some k xs) h

-- a list of places below n, each there once at most, has at most n
pub few_once : (xs : List ℕ) (n : ℕ) → ((j : ℕ) → times j xs ≤ 1) → ((j : ℕ) → 0 < times j xs → j < n) → length xs ≤ n
few_once xs n h r = length-le_from_distinct_below xs n (distinct_once xs h) (λ q a. r q (any_some q xs a))

-- a test that only place k fails holds of all elements of a list without k
pub list_all-apart : {X : Type 0} (place : X → ℕ) (k : ℕ) (p : X → Bool) (xs : List X)
    → ((x : X) → eqb k (place x) ≡ false → p x ≡ true)
    → times k (map place xs) ≡ 0 → list_all p xs ≡ true
list_all-apart place k p [] h z = refl
list_all-apart place k p (x ∷ xs) h z =
    let e : p x ≡ true = h x (apart_one k (place x) (omega arith)) in
    let t : list_all p xs ≡ true = list_all-apart place k p xs h (omega arith) in
    rw e t

-- a filter that only place k fails leaves a list without k as it is
pub filter-apart : {X : Type 0} (place : X → ℕ) (k : ℕ) (p : X → Bool) (xs : List X)
    → ((x : X) → eqb k (place x) ≡ false → p x ≡ true)
    → times k (map place xs) ≡ 0 → filter p xs ≡ xs
filter-apart place k p xs h z = filter-all p xs (list_all-apart place k p xs h z)

-- removing k from a list without k leaves it as it is
pub filter-others : (k : ℕ) (xs : List ℕ) → times k xs ≡ 0 → filter (λ u. not (k == u)) xs ≡ xs
filter-others k xs z = filter-apart (λ j. j) k (λ u. not (k == u)) xs (λ j t. ap not t) (ap (times k) (map-id xs) ∙ z)

other_by : (b : Bool) (k j : ℕ) → eqb j k ≡ b → not b ≡ eqb (one k j) 0
other_by true k j h = let o : one k j ≡ 1 = one_at k j (eq_swap k j ∙ h) in grind (arith, nat_tests)
other_by false k j h = let o : one k j ≡ 0 = one_apart k j (eq_swap k j ∙ h) in rw o refl

-- the place j isn't k exactly if `one` is 0
pub other : (k j : ℕ) → not (eqb j k) ≡ eqb (one k j) 0
other k j = other_by (eqb j k) k j refl
