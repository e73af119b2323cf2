-- Lists in order of their keys: how one more element, a filter and a map change them, and that they rise.
use Rattle.std.proofs.Common.{◌≡◌, ℕ, ◌<◌, Bool, true, false, cond, leb, ◌&&◌, List, [], ◌∷◌, ◌++◌, map}
use Rattle.std.proofs.Common.{refl, ap, sym, ◌∙◌, zero, suc, ◌+◌, ◌≤◌, length, get_or, subst, append_assoc, arith, Some}
use Rattle.std.proofs.Common.{None, Option}
use Rattle.std.specs.List.{list_all, filter, find}
use Rattle.hoare_law.specs.Priorities.{behind_first, put_in, put_all, in_order}
use Rattle.hoare_law.proofs.Tests.{both_true, not_below, lower, above, below, list_all-filter}
use Rattle.std.specs.List.Sorted.{IsNonDecreasing}
use Rattle.std.proofs.lemmas.Bool.Decides.{nat_tests}
use Rattle.std.proofs.lemmas.List.{append-nil}
use Rattle.hoare_law.proofs.Filters.{HasLast, nothing, pushed, has_last}
use Rattle.std.proofs.lemmas.List.Elements.{All-nil, All-cons, All-head, All-tail}
use Rattle.std.specs.Prelude.{◌≢◌, slice_index, All}

-- the first element
abbrev pub first_of : {X : Type 0} → List X → Option X
first_of [] = None
first_of (x ∷ xs) = Some x

module _ {X : Type 0} (key : X → ℕ) where
  pub put_all-push : (vs ws : List X) (w : X) → put_all key vs (ws ++ w ∷ []) ≡ put_in key w (put_all key vs ws)
  put_all-push vs [] w = refl
  put_all-push vs (x ∷ ws) w = put_all-push (put_in key x vs) ws w

  pub list_all-lower : (n m : ℕ) (ws : List X) → m < n → list_all (λ v. leb n (key v)) ws ≡ true
      → list_all (λ v. leb m (key v)) ws ≡ true
  list_all-lower n m [] l h = refl
  list_all-lower n m (x ∷ ws) l h =
      let parts : (leb n (key x) ≡ true) × (list_all (λ v. leb n (key v)) ws ≡ true) = both_true _ _ h in
      let e : leb m (key x) ≡ true = lower n m (key x) parts.0 l in
      rw e (list_all-lower n m ws l parts.1)

  -- each element is followed by none that is lower
  abbrev pub Rising : List X → Type 0
  Rising [] = Unit {0}
  Rising (v ∷ vs) = (list_all (λ x. leb (key v) (key x)) vs ≡ true) × Rising vs

  all_put_by : (t : Bool) (q : X → Bool) (w v : X) (vs : List X) → q w ≡ true → (q v && list_all q vs) ≡ true
      → (list_all q vs ≡ true → list_all q (put_in key w vs) ≡ true)
      → list_all q (cond t (v ∷ put_in key w vs) (w ∷ v ∷ vs)) ≡ true
  all_put_by true q w v vs a b r = let p : (q v ≡ true) × (list_all q vs ≡ true) = both_true _ _ b in rw p.0 (r p.1)
  all_put_by false q w v vs a b r = rw a b

  pub list_all-put_in : (q : X → Bool) (w : X) (vs : List X) → q w ≡ true → list_all q vs ≡ true
      → list_all q (put_in key w vs) ≡ true
  list_all-put_in q w [] a b = rw a refl
  list_all-put_in q w (v ∷ vs) a b = all_put_by (leb (key v) (key w)) q w v vs a b (list_all-put_in q w vs a)

  rising_by : (t : Bool) (w v : X) (vs : List X) → leb (key v) (key w) ≡ t
      → list_all (λ x. leb (key v) (key x)) vs ≡ true → Rising vs → Rising (put_in key w vs)
      → Rising (cond t (v ∷ put_in key w vs) (w ∷ v ∷ vs))
  rising_by true w v vs t a r p = (list_all-put_in (λ x. leb (key v) (key x)) w vs t a, p)
  rising_by false w v vs t a r p =
      ((rw (below (key v) (key w) t) (list_all-lower (key v) (key w) vs (above (key v) (key w) t) a)), (a, r))

  pub Rising-put_in : (w : X) (vs : List X) → Rising vs → Rising (put_in key w vs)
  Rising-put_in w [] r = (refl, tt)
  Rising-put_in w (v ∷ vs) r = rising_by (leb (key v) (key w)) w v vs refl r.0 r.1 (Rising-put_in w vs r.1)

  -- an element is put in before a list of higher ones
  pub put_front : (w : X) (n : ℕ) (vs : List X) → (key w) < n → list_all (λ x. leb n (key x)) vs ≡ true
      → put_in key w vs ≡ w ∷ vs
  put_front w n [] l a = refl
  put_front w n (v ∷ vs) l a =
      let p : (leb n (key v) ≡ true) × (list_all (λ x. leb n (key x)) vs ≡ true) = both_true _ _ a in
      rw (not_below n (key v) (key w) p.0 l) refl

  -- a filter and an element put in commute
  keep_put_by : (t s : Bool) (p : X → Bool) (w v : X) (vs : List X) → p w ≡ true → p v ≡ s → leb (key v) (key w) ≡ t
      → list_all (λ x. leb (key v) (key x)) vs ≡ true
      → filter p (put_in key w vs) ≡ put_in key w (filter p vs)
      → filter p (cond t (v ∷ put_in key w vs) (w ∷ v ∷ vs)) ≡ put_in key w
      (cond s (v ∷ filter p vs) (filter p vs))
  keep_put_by true true p w v vs k s t a r = rw (s, t) (ap (λ l. v ∷ l) r)
  keep_put_by true false p w v vs k s t a r = rw s r
  keep_put_by false true p w v vs k s t a r = rw (k, s, t) refl
  keep_put_by false false p w v vs k s t a r =
      rw (k, s)
      (sym (put_front w (key v) (filter p vs) (above (key v) (key w) t)
      (list_all-filter (λ x. leb (key v) (key x)) p vs a)))

  put_in-filter_kept : (p : X → Bool) (w : X) (vs : List X) → p w ≡ true → Rising vs
      → filter p (put_in key w vs) ≡ put_in key w (filter p vs)
  put_in-filter_kept p w [] k r = rw k refl
  put_in-filter_kept p w (v ∷ vs) k r =
      keep_put_by (leb (key v) (key w)) (p v) p w v vs k refl refl r.0 (put_in-filter_kept p w vs k r.1)

  drop_put_by : (t : Bool) (p : X → Bool) (w v : X) (vs : List X) → p w ≡ false
      → filter p (put_in key w vs) ≡ filter p vs
      → filter p (cond t (v ∷ put_in key w vs) (w ∷ v ∷ vs)) ≡ filter p (v ∷ vs)
  drop_put_by true p w v vs k r = ap (λ l. cond (p v) (v ∷ l) l) r
  drop_put_by false p w v vs k r = rw k refl

  put_in-filter_dropped : (p : X → Bool) (w : X) (vs : List X) → p w ≡ false → filter p (put_in key w vs) ≡ filter p vs
  put_in-filter_dropped p w [] k = rw k refl
  put_in-filter_dropped p w (v ∷ vs) k = drop_put_by (leb (key v) (key w)) p w v vs k (put_in-filter_dropped p w vs k)

  order_by : (t : Bool) (p : X → Bool) (vs ws : List X) (w : X) → p w ≡ t → Rising vs
      → ((us : List X) → Rising us → put_all key (filter p us) (filter p ws) ≡ filter p (put_all key us ws))
      → put_all key (filter p vs) (cond t (w ∷ filter p ws) (filter p ws)) ≡ filter p (put_all key (put_in key w vs) ws)
  order_by true p vs ws w k r f =
      ap (λ l. put_all key l (filter p ws)) (sym (put_in-filter_kept p w vs k r))
      ∙ f (put_in key w vs) (Rising-put_in w vs r)
  order_by false p vs ws w k r f =
      ap (λ l. put_all key l (filter p ws)) (sym (put_in-filter_dropped p w vs k))
      ∙ f (put_in key w vs) (Rising-put_in w vs r)

  put_all-filter : (p : X → Bool) (ws vs : List X) → Rising vs
      → put_all key (filter p vs) (filter p ws) ≡ filter p (put_all key vs ws)
  put_all-filter p [] vs r = refl
  put_all-filter p (w ∷ ws) vs r = order_by (p w) p vs ws w refl r (λ us q. put_all-filter p ws us q)

  -- the elements that are kept keep their order
  pub in_order-filter : (p : X → Bool) (ws : List X) → in_order key (filter p ws) ≡ filter p (in_order key ws)
  in_order-filter p ws = put_all-filter p ws [] tt

-- a key that a map carries over
pub put_in-map : {X Y : Type 0} (f : X → Y) (key : Y → ℕ) (x : X) (xs : List X)
    → put_in key (f x) (map f xs) ≡ map f (put_in (λ v. key (f v)) x xs)
put_in-map f key x [] = refl
put_in-map f key x (y ∷ ys) = by (leb (key (f y)) (key (f x))) (put_in-map f key x ys)
  where
    by : (t : Bool) → put_in key (f x) (map f ys) ≡ map f (put_in (λ v. key (f v)) x ys)
        → cond t (f y ∷ put_in key (f x) (map f ys)) (f x ∷ f y ∷ map f ys)
        ≡ map f (cond t (y ∷ put_in (λ v. key (f v)) x ys) (x ∷ y ∷ ys))
    by true rest = ap (λ l. f y ∷ l) rest
    by false rest = refl

module _ {X : Type 0} (key : X → ℕ) where
  -- the keys of a list with one more are those of the list with its key
  pub map-put_in : (x : X) (ys : List X) → map key (put_in key x ys) ≡ put_in (λ n. n) (key x) (map key ys)
  map-put_in x ys = sym (put_in-map key (λ n. n) x ys)

  map-put_all : (vs ws : List X) → map key (put_all key vs ws) ≡ put_all (λ n. n) (map key vs) (map key ws)
  map-put_all vs [] = refl
  map-put_all vs (w ∷ ws) =
      map-put_all (put_in key w vs) ws ∙ ap (λ l. put_all (λ n. n) l (map key ws)) (map-put_in w vs)

  -- the keys of a list in order are its keys in order
  pub map-in_order : (xs : List X) → map key (in_order key xs) ≡ in_order (λ n. n) (map key xs)
  map-in_order xs = map-put_all [] xs

  Rising-put_all : (vs ws : List X) → Rising key vs → Rising key (put_all key vs ws)
  Rising-put_all vs [] r = r
  Rising-put_all vs (w ∷ ws) r = Rising-put_all (put_in key w vs) ws (Rising-put_in key w vs r)

  -- what is put in order rises
  pub Rising-in_order : (xs : List X) → Rising key (in_order key xs)
  Rising-in_order xs = Rising-put_all [] xs tt

  before_last : (vs : List X) (w : X) (ws : List X) → Rising key (vs ++ w ∷ ws)
      → list_all (λ v. leb (key v) (key w)) vs ≡ true
  before_last [] w ws r = refl
  before_last (v ∷ vs) w ws r = rw (all_at vs w ws r.0) (before_last vs w ws r.1)
    where
      all_at : (us : List X) (u : X) (ts : List X) → list_all (λ x. leb (key v) (key x)) (us ++ u ∷ ts) ≡ true
          → leb (key v) (key u) ≡ true
      all_at [] u ts a = (both_true _ _ a).0
      all_at (x ∷ us) u ts a = all_at us u ts (both_true _ _ a).1

  put_last : (w : X) (vs : List X) → list_all (λ v. leb (key v) (key w)) vs ≡ true → put_in key w vs ≡ vs ++ w ∷ []
  put_last w [] a = refl
  put_last w (v ∷ vs) a =
      let b : (leb (key v) (key w) ≡ true) × (list_all (λ x. leb (key x) (key w)) vs ≡ true) = both_true _ _ a in
      rw b.0 (ap (λ l. v ∷ l) (put_last w vs b.1))

  put_all-rising : (vs ws : List X) → Rising key (vs ++ ws) → put_all key vs ws ≡ vs ++ ws
  put_all-rising vs [] r = sym (append-nil vs)
  put_all-rising vs (w ∷ ws) r =
      ap (λ l. put_all key l ws) (put_last w vs (before_last vs w ws r))
      ∙ put_all-rising (vs ++ w ∷ []) ws (subst (Rising key) (sym (append_assoc vs (w ∷ []) ws)) r)
      ∙ append_assoc vs (w ∷ []) ws

  -- a rising list is in order
  pub in_order-rising : (xs : List X) → Rising key xs → in_order key xs ≡ xs
  in_order-rising xs r = put_all-rising [] xs r

  -- a list with one more element isn't empty
  pub put_in-some : (x : X) (ys : List X) → put_in key x ys ≢ []
  put_in-some x [] e = cc
  put_in-some x (y ∷ ys) e = by (leb (key y) (key x)) e
    where
      by : (t : Bool) → cond t (y ∷ put_in key x ys) (x ∷ y ∷ ys) ≡ [] → ⊥
      by true e = cc
      by false e = cc

  -- only the empty list is empty in order
  pub in_order-none : (xs : List X) → in_order key xs ≡ [] → xs ≡ []
  in_order-none xs none = by (has_last xs)
    where
      by : HasLast xs → xs ≡ []
      by (nothing is) = is
      by (pushed ys y is) =
          absurd (put_in-some y (in_order key ys) (sym (put_all-push key [] ys y) ∙ ap (in_order key) (sym is) ∙ none))

  -- a list of at most one element is in order
  pub in_order-short : (xs : List X) → length xs ≤ 1 → in_order key xs ≡ xs
  in_order-short [] l = refl
  in_order-short (x ∷ []) l = refl
  in_order-short (x ∷ y ∷ xs) l = absurd (omega arith)

  -- a list with one more element is longer by one
  pub length-put_in : (x : X) (ys : List X) → length (put_in key x ys) ≡ suc (length ys)
  length-put_in x [] = refl
  length-put_in x (y ∷ ys) = by (leb (key y) (key x)) (length-put_in x ys)
    where
      by : (t : Bool) → length (put_in key x ys) ≡ suc (length ys)
          → length (cond t (y ∷ put_in key x ys) (x ∷ y ∷ ys)) ≡ suc (suc (length ys))
      by true rest = ap suc rest
      by false rest = refl

module _ {X : Type 0} (key : X → ℕ) where
  length-put_all : (placed xs : List X) → length (put_all key placed xs) ≡ length placed + length xs
  length-put_all placed [] = omega arith
  length-put_all placed (x ∷ xs) = omega (arith, length-put_all (put_in key x placed) xs, length-put_in key x placed)

  -- a list in order is as long as before
  pub length-in_order : (xs : List X) → length (in_order key xs) ≡ length xs
  length-in_order xs = omega (arith, length-put_all [] xs)

above_all : (n : ℕ) (xs : List ℕ) (i d : ℕ) → list_all (λ x. leb n x) xs ≡ true → i < length xs → n ≤ get_or xs i d
above_all n [] i d a l = absurd (omega arith)
above_all n (x ∷ xs) zero d a l = let b : leb n x ≡ true = (both_true _ _ a).0 in grind (arith, nat_tests)
above_all n (x ∷ xs) (suc i) d a l = above_all n xs i d (both_true _ _ a).1 (omega arith)

-- rising numbers do not decrease
pub IsNonDecreasing-from_Rising : (xs : List ℕ) → Rising (λ n. n) xs → IsNonDecreasing xs
IsNonDecreasing-from_Rising [] r i j d below l = absurd (omega arith)
IsNonDecreasing-from_Rising (x ∷ xs) r zero zero d below l = omega arith
IsNonDecreasing-from_Rising (x ∷ xs) r zero (suc j) d below l = above_all x xs j d r.0 (omega arith)
IsNonDecreasing-from_Rising (x ∷ xs) r (suc i) zero d below l = absurd (omega arith)
IsNonDecreasing-from_Rising (x ∷ xs) r (suc i) (suc j) d below l =
    IsNonDecreasing-from_Rising xs r.1 i j d (omega arith) (omega arith)

-- numbers in order do not decrease
pub IsNonDecreasing-in_order : (xs : List ℕ) → IsNonDecreasing (in_order (λ n. n) xs)
IsNonDecreasing-in_order xs = IsNonDecreasing-from_Rising _ (Rising-in_order (λ n. n) xs)

module _ {X : Type 0} (key : X → ℕ) where
  -- a list in order stays as it is
  pub in_order-in_order : (xs : List X) → in_order key (in_order key xs) ≡ in_order key xs
  in_order-in_order xs = in_order-rising key (in_order key xs) (Rising-in_order key xs)

  -- a list and perhaps one more element, in order
  pub in_order-push : (t : Bool) (x : X) (xs : List X)
      → in_order key (xs ++ cond t (x ∷ []) []) ≡ cond t (put_in key x (in_order key xs)) (in_order key xs)
  in_order-push true x xs = put_all-push key [] xs x
  in_order-push false x xs = ap (in_order key) (append-nil xs)

  -- an element put in a list in order, as pushed and put in order
  put_in-pushed : (x : X) (xs : List X) → in_order key xs ≡ xs → put_in key x xs ≡ in_order key (xs ++ x ∷ [])
  put_in-pushed x xs o = ap (put_in key x) (sym o) ∙ sym (put_all-push key [] xs x)

  -- a list in order stays in order if an element is put in
  pub in_order-put_in : (x : X) (xs : List X) → in_order key xs ≡ xs → in_order key (put_in key x xs) ≡ put_in key x xs
  in_order-put_in x xs o =
      ap (in_order key) (put_in-pushed x xs o) ∙ in_order-in_order (xs ++ x ∷ []) ∙ sym (put_in-pushed x xs o)

  -- a list in order stays in order if it is filtered
  pub in_order-filtered : (p : X → Bool) (xs : List X) → in_order key xs ≡ xs → in_order key (filter p xs) ≡ filter p xs
  in_order-filtered p xs o = in_order-filter key p xs ∙ ap (filter p) o

-- the first that passes a test is the first that a filter keeps
pub find-filter : {X : Type 0} (p : X → Bool) (xs : List X) → find p xs ≡ first_of (filter p xs)
find-filter p [] = refl
find-filter p (x ∷ xs) = by (p x) (find-filter p xs)
  where
    by : (t : Bool) → find p xs ≡ first_of (filter p xs)
        → cond t (Some x) (find p xs) ≡ first_of (cond t (x ∷ filter p xs) (filter p xs))
    by true rest = refl
    by false rest = rest

module _ {X : Type 0} (key : X → ℕ) (P : X → Type 0) where
  -- what holds of all elements, with one more put in by its key
  pub All-put_in_by : (x : X) (xs : List X) → P x → All P xs → All P (put_in key x xs)
  All-put_in_by x [] p a = All-cons P x [] p a
  All-put_in_by x (y ∷ ys) p a = by (leb (key y) (key x)) (All-put_in_by x ys p (All-tail P y ys a))
    where
      by : (t : Bool) → All P (put_in key x ys) → All P (cond t (y ∷ put_in key x ys) (x ∷ y ∷ ys))
      by true r = All-cons P y (put_in key x ys) (All-head P y ys a) r
      by false r = All-cons P x (y ∷ ys) p a

  All-put_all : (placed xs : List X) → All P placed → All P xs → All P (put_all key placed xs)
  All-put_all placed [] a b = a
  All-put_all placed (x ∷ xs) a b =
      All-put_all (put_in key x placed) xs (All-put_in_by x placed (All-head P x xs b) a) (All-tail P x xs b)

  -- what holds of all elements of a list holds of all in order
  pub All-in_order : (xs : List X) → All P xs → All P (in_order key xs)
  All-in_order xs a = All-put_all [] xs (All-nil P) a

-- what holds of all numbers of a list, with one more put in
pub All-put_in : (P : ℕ → Type 0) (p : ℕ) (qs : List ℕ) → P p → All P qs → All P (put_in (λ n. n) p qs)
All-put_in = All-put_in_by (λ n. n)

-- the first of numbers that do not decrease is the least
pub All-behind_first : (qs : List ℕ) → IsNonDecreasing qs → qs ≢ [] → All (λ r. slice_index qs 0 ≤ r) (behind_first qs)
All-behind_first [] rises some = absurd (some refl)
All-behind_first (q ∷ qs) rises some = λ k d below. rises 0 (suc k) d (omega arith) (omega arith)
