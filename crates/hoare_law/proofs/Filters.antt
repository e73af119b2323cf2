-- Filters, what they keep, and the last element of a list.
use Rattle.std.proofs.Common.{◌≡◌, ◌≤◌, ◌&&◌, ◌||◌, not, suc, length, arith, List, [], ◌∷◌, ◌++◌, map, Bool, true}
use Rattle.std.proofs.Common.{false, cond, Some, None, refl}
use Rattle.std.proofs.Common.{ap, sym, ◌∙◌, subst}
use Rattle.std.specs.Prelude.{All}
use Rattle.std.specs.List.{filter, list_all, find}
use Rattle.std.proofs.lemmas.Bool.{not-true}
use Rattle.std.proofs.lemmas.List.Elements.{All-nil, All-cons, All-head, All-tail}
use Rattle.hoare_law.specs.Events.{newest}
use Rattle.hoare_law.specs.Waiting.{filter_by_later}
use Rattle.hoare_law.proofs.Tests.{both_true}

-- a list is empty, or has a last element
pub data HasLast {X : Type 0} (xs : List X) : Type 0 where
  nothing : xs ≡ [] → HasLast xs
  pushed : (ys : List X) (x : X) → xs ≡ ys ++ x ∷ [] → HasLast xs

more_before : {X : Type 0} (x : X) (xs : List X) → HasLast xs → HasLast (x ∷ xs)
more_before x xs (nothing is) = pushed [] x (ap (λ l. x ∷ l) is)
more_before x xs (pushed ys y is) = pushed (x ∷ ys) y (ap (λ l. x ∷ l) is)

-- each list is one or the other
pub has_last : {X : Type 0} (xs : List X) → HasLast xs
has_last [] = nothing refl
has_last (x ∷ xs) = more_before x xs (has_last xs)

-- the last element comes after the others
pub newest-some : {X : Type 0} (xs : List X) (x : X) → newest xs ≡ Some x → (ys : List X) × (xs ≡ ys ++ x ∷ [])
newest-some [] x is = absurd (cc)
newest-some (y ∷ []) x is = ([], cc)
newest-some (y ∷ z ∷ xs) x is =
    let r : (ys : List _) × (z ∷ xs ≡ ys ++ x ∷ []) = newest-some (z ∷ xs) x is in (y ∷ r.0, ap (λ l. y ∷ l) r.1)

-- only the empty list is mapped to the empty list
pub map-none : {X Y : Type 0} (f : X → Y) (xs : List X) → map f xs ≡ [] → xs ≡ []
map-none f [] is = refl
map-none f (x ∷ xs) is = absurd (cc)

-- two filters commute
pub filter-filter : {X : Type 0} (p q : X → Bool) (xs : List X) → filter p (filter q xs) ≡ filter q (filter p xs)
filter-filter p q [] = refl
filter-filter p q (x ∷ xs) = by (p x) (q x) refl refl (filter-filter p q xs)
  where
    by : (s t : Bool) → p x ≡ s → q x ≡ t → filter p (filter q xs) ≡ filter q (filter p xs)
        → filter p (cond t (x ∷ filter q xs) (filter q xs)) ≡ filter q (cond s (x ∷ filter p xs) (filter p xs))
    by true true s t rest = rw (s, t) (ap (λ l. x ∷ l) rest)
    by true false s t rest = rw t rest
    by false true s t rest = rw s rest
    by false false s t rest = rest

-- a filter keeps all that pass
pub filter-all : {X : Type 0} (p : X → Bool) (xs : List X) → list_all p xs ≡ true → filter p xs ≡ xs
filter-all p [] a = refl
filter-all p (x ∷ xs) a =
    let b : (p x ≡ true) × (list_all p xs ≡ true) = both_true _ _ a in rw b.0 (ap (λ l. x ∷ l) (filter-all p xs b.1))

-- a filter by two tests, and by one after the other
pub filter-and : {X : Type 0} (r p q : X → Bool) → ((x : X) → r x ≡ (p x && q x)) → (xs : List X)
    → filter r xs ≡ filter q (filter p xs)
filter-and r p q is [] = refl
filter-and r p q is (x ∷ xs) =
    ap (λ b. cond b (x ∷ filter r xs) (filter r xs)) (is x) ∙ by (p x) (filter-and r p q is xs)
  where
    by : (t : Bool) → filter r xs ≡ filter q (filter p xs)
        → cond (t && q x) (x ∷ filter r xs) (filter r xs) ≡ filter q (cond t (x ∷ filter p xs) (filter p xs))
    by true rest = ap (λ l. cond (q x) (x ∷ l) l) rest
    by false rest = rest

-- a test that all pass
pub filter-true : {X : Type 0} (xs : List X) → filter (λ x. true) xs ≡ xs
filter-true [] = refl
filter-true (x ∷ xs) = ap (λ l. x ∷ l) (filter-true xs)

-- a test that none passes
pub filter-false : {X : Type 0} (xs : List X) → filter (λ x. false) xs ≡ []
filter-false [] = refl
filter-false (x ∷ xs) = filter-false xs

-- if all elements pass a test, they all pass each test that it implies
pub list_all-weaker : {X : Type 0} (p q : X → Bool) (xs : List X) → ((x : X) → p x ≡ true → q x ≡ true)
    → list_all p xs ≡ true → list_all q xs ≡ true
list_all-weaker p q [] f a = refl
list_all-weaker p q (x ∷ xs) f a =
    let b : (p x ≡ true) × (list_all p xs ≡ true) = both_true _ _ a in
    rw (f x b.0) (list_all-weaker p q xs f b.1)

-- what a filter keeps passes its test
pub list_all-filter_own : {X : Type 0} (p : X → Bool) (xs : List X) → list_all p (filter p xs) ≡ true
list_all-filter_own p [] = refl
list_all-filter_own p (x ∷ xs) = by (p x) refl (list_all-filter_own p xs)
  where
    by : (t : Bool) → p x ≡ t → list_all p (filter p xs) ≡ true
        → list_all p (cond t (x ∷ filter p xs) (filter p xs)) ≡ true
    by true is rest = rw is rest
    by false is rest = rest

-- if a filter keeps nothing, all elements fail its test
pub list_all-filter_none : {X : Type 0} (p : X → Bool) (xs : List X) → filter p xs ≡ []
    → list_all (λ x. not (p x)) xs ≡ true
list_all-filter_none p [] none = refl
list_all-filter_none p (x ∷ xs) none = by (p x) refl none (list_all-filter_none p xs)
  where
    by : (t : Bool) → p x ≡ t → cond t (x ∷ filter p xs) (filter p xs) ≡ []
        → (filter p xs ≡ [] → list_all (λ y. not (p y)) xs ≡ true) → list_all (λ y. not (p y)) (x ∷ xs) ≡ true
    by true is e rest = absurd (cc)
    by false is e rest = rw is (rest e)

-- if all elements fail a test, a filter keeps none
pub filter-none : {X : Type 0} (p : X → Bool) (xs : List X) → list_all (λ x. not (p x)) xs ≡ true → filter p xs ≡ []
filter-none p [] a = refl
filter-none p (x ∷ xs) a =
    let b : (not (p x) ≡ true) × (list_all (λ y. not (p y)) xs ≡ true) = both_true _ _ a in
    let f : p x ≡ false = not-true (p x) b.0 in
    rw f (filter-none p xs b.1)

-- a test that none passes is left out
pub filter-or : {X : Type 0} (p q : X → Bool) (xs : List X) → list_all (λ x. not (p x)) xs ≡ true
    → filter (λ x. not (p x || q x)) xs ≡ filter (λ x. not (q x)) xs
filter-or p q [] a = refl
filter-or p q (x ∷ xs) a =
    let b : (not (p x) ≡ true) × (list_all (λ y. not (p y)) xs ≡ true) = both_true _ _ a in
    let same : not (p x || q x) ≡ not (q x) = not_or (p x) (q x) b.0 in
    rw (same, filter-or p q xs b.1) refl
  where
    not_or : (s t : Bool) → not s ≡ true → not (s || t) ≡ not t
    not_or true t e = absurd (cc)
    not_or false t e = refl

-- equal tests
pub list_all-same : {X : Type 0} (p q : X → Bool) (xs : List X) → ((x : X) → p x ≡ q x) → list_all p xs ≡ list_all q xs
list_all-same p q [] same = refl
list_all-same p q (x ∷ xs) same = rw (same x, list_all-same p q xs same) refl

-- a test of all, from a fact of all
pub list_all-from_All : {X : Type 0} (p : X → Bool) (xs : List X) → All (λ x. p x ≡ true) xs → list_all p xs ≡ true
list_all-from_All p [] a = refl
list_all-from_All p (x ∷ xs) a =
    let b : p x ≡ true = All-head (λ y. p y ≡ true) x xs a in
    rw b (list_all-from_All p xs (All-tail (λ y. p y ≡ true) x xs a))

-- a test that holds of all elements of a list holds of each
pub list_all-at : {X : Type 0} (p : X → Bool) (xs : List X) (x : X) (ys : List X) → list_all p (xs ++ x ∷ ys) ≡ true
    → p x ≡ true
list_all-at p [] x ys a = (both_true _ _ a).0
list_all-at p (z ∷ xs) x ys a = list_all-at p xs x ys (both_true _ _ a).1

-- what holds of all elements of a list holds of each
pub All-at : {X : Type 0} (P : X → Type 0) (xs : List X) (x : X) (ys : List X) → All P (xs ++ x ∷ ys) → P x
All-at P [] x ys a = All-head P x ys a
All-at P (z ∷ xs) x ys a = All-at P xs x ys (All-tail P z (xs ++ x ∷ ys) a)

-- equal tests find the same
pub find-same : {X : Type 0} (p q : X → Bool) (xs : List X) → ((x : X) → p x ≡ q x) → find p xs ≡ find q xs
find-same p q [] same = refl
find-same p q (x ∷ xs) same = rw (same x) (ap (λ r. cond (q x) (Some x) r) (find-same p q xs same))

-- the element found passes the test, and is in the list
pub find-passes : {X : Type 0} (p : X → Bool) (xs : List X) (x : X) → find p xs ≡ Some x → p x ≡ true
find-passes p [] x is = absurd (cc)
find-passes p (y ∷ xs) x is = by (p y) refl is (find-passes p xs x)
  where
    by : (t : Bool) → p y ≡ t → cond t (Some y) (find p xs) ≡ Some x → (find p xs ≡ Some x → p x ≡ true) → p x ≡ true
    by true e f rest = let same : y ≡ x = cc in ap p (sym same) ∙ e
    by false e f rest = rest f

-- if none is found, the test fails of all
pub find-none : {X : Type 0} (p : X → Bool) (xs : List X) → find p xs ≡ None → All (λ x. p x ≡ false) xs
find-none p [] none = All-nil (λ x. p x ≡ false)
find-none p (x ∷ xs) none = by (p x) refl none (find-none p xs)
  where
    by : (t : Bool) → p x ≡ t → cond t (Some x) (find p xs) ≡ None → (find p xs ≡ None → All (λ y. p y ≡ false) xs)
        → All (λ y. p y ≡ false) (x ∷ xs)
    by true is f rest = absurd (cc)
    by false is f rest = All-cons (λ y. p y ≡ false) x xs is (rest f)

-- what holds of all elements holds of the element found
pub All-find : {X : Type 0} (P : X → Type 0) (p : X → Bool) (xs : List X) (x : X) → find p xs ≡ Some x → All P xs → P x
All-find P p [] x is all = absurd (cc)
All-find P p (y ∷ xs) x is all = by (p y) is (λ f. All-find P p xs x f (All-tail P y xs all))
  where
    by : (t : Bool) → cond t (Some y) (find p xs) ≡ Some x → (find p xs ≡ Some x → P x) → P x
    by true f rest = let same : y ≡ x = cc in subst P same (All-head P y xs all)
    by false f rest = rest f

-- what holds of each element that passes, by what comes later, holds of all that are kept
pub All-filter_by_later : {X : Type 0} (P : X → Type 0) (test : X → List X → Bool) (xs : List X)
    → ((f : List X) (x : X) (later : List X) → xs ≡ f ++ x ∷ later → test x later ≡ true → P x)
    → All P (filter_by_later test xs)
All-filter_by_later P test [] holds = All-nil P
All-filter_by_later P test (x ∷ xs) holds =
    by (test x xs) refl (All-filter_by_later P test xs (λ f y later is t. holds (x ∷ f) y later (ap (λ l. x ∷ l) is) t))
  where
    by : (t : Bool) → test x xs ≡ t → All P (filter_by_later test xs)
        → All P (cond t (x ∷ filter_by_later test xs) (filter_by_later test xs))
    by true is all = All-cons P x (filter_by_later test xs) (holds [] x xs refl is) all
    by false is all = all

-- if one element alone passes a test, the list is parted by it, and the others fail the test
pub parted_at : {X : Type 0} (p : X → Bool) (xs : List X) (x : X) → find p xs ≡ Some x → length (filter p xs) ≤ 1
    → (us vs : List X) × (xs ≡ us ++ x ∷ vs) × (filter (λ y. not (p y)) xs ≡ us ++ vs)
parted_at p [] x is once = absurd (cc)
parted_at {X = X} p (y ∷ ys) x is once = by (p y) refl is once (parted_at p ys x)
  where
    none : (zs : List X) → suc (length zs) ≤ 1 → zs ≡ []
    none [] few = refl
    none (z ∷ zs) few = absurd (omega (arith, few))

    by : (t : Bool) → p y ≡ t → cond t (Some y) (find p ys) ≡ Some x
        → length (cond t (y ∷ filter p ys) (filter p ys)) ≤ 1
        → (find p ys ≡ Some x → length (filter p ys) ≤ 1
        → (us vs : List X) × (ys ≡ us ++ x ∷ vs) × (filter (λ z. not (p z)) ys ≡ us ++ vs))
        → (us vs : List X) × (y ∷ ys ≡ us ++ x ∷ vs) × (filter (λ z. not (p z)) (y ∷ ys) ≡ us ++ vs)
    by true passes found few rest =
        let same : y ≡ x = cc in
        let others : list_all (λ z. not (p z)) ys ≡ true = list_all-filter_none p ys (none (filter p ys) few) in
        ([], ys, ap (λ z. z ∷ ys) same, rw passes (filter-all (λ z. not (p z)) ys others))
    by false fails found few rest =
        let r = rest found few in
        (y ∷ r.0, r.1, ap (λ l. y ∷ l) r.2, rw fails (ap (λ l. y ∷ l) r.3))
