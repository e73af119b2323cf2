-- The lists of the chains: what another list in one of them does to all.
use Rattle.std.proofs.Common.{◌≡◌, ◌≢◌, ℕ, zero, suc, ◌+◌, ◌<◌, ◌≤◌, Bool, true, false, cond, eqb, eqb-true, List, []}
use Rattle.std.proofs.Common.{IsTrue, is_some, ◌∷◌, ◌++◌, length, map, Option, Some, None, refl, ap, sym, ◌∙◌, arith}
use Rattle.std.specs.Prelude.{◌↔◌}
use Rattle.std.proofs.lemmas.Bool.Decides.{nat_tests}
use Rattle.std.proofs.lemmas.List.{length-append, length-map, map-append}
use Rattle.wait_book.specs.declared.chains.Link.{Link}
use Rattle.wait_book.specs.Contents.{one, times}
use Rattle.wait_book.specs.Lists.{all_below, keys, keys_of, last_from, list_put, places_in}
use Rattle.hoare_law.proofs.Tests.{eq_swap}
use Rattle.wait_book.proofs.Times.{eq_self, one_apart, one_same, times-append}

pub eq_apart : (d c : ℕ) → d ≢ c → eqb d c ≡ false
eq_apart d c n = grind (arith, nat_tests)

-- chain c has the list that was put there
pub put_same : (c : ℕ) (xs : List Link) (at : ℕ → List Link) → list_put c xs at c ≡ xs
put_same c xs at = rw (eq_self c) refl

-- the other chains have the lists that they had
pub put_other : (c d : ℕ) (xs : List Link) (at : ℕ → List Link) → d ≢ c → list_put c xs at d ≡ at d
put_other c d xs at n = rw (eq_apart d c n) refl

module _ {X : Type 0} (f : ℕ → Link → X) where
  -- a list put into a chain from n on changes nothing below n
  pub below_past : (n c : ℕ) (xs : List Link) (at : ℕ → List Link) → n ≤ c
      → all_below f n (list_put c xs at) ≡ all_below f n at
  unfolding all_below
  below_past zero c xs at l = refl
  below_past (suc n) c xs at l =
      rw (below_past n c xs at (omega arith), put_other c n xs at (omega arith)) refl

  module _ (m : List X → ℕ) (sums : (xs ys : List X) → m (xs ++ ys) ≡ m xs + m ys) where
    measure_by : (t : Bool) (n c : ℕ) (xs : List Link) (at : ℕ → List Link) → eqb n c ≡ t → c < suc n
        → (c < n → m (all_below f n (list_put c xs at)) + m (map (f c) (at c))
        ≡ m (all_below f n at) + m (map (f c) xs))
        → m (all_below f n (list_put c xs at)) + m (map (f n) (cond t xs (at n))) + m (map (f c) (at c))
        ≡ m (all_below f n at) + m (map (f n) (at n)) + m (map (f c) xs)
    measure_by true n c xs at e l r =
        let q : n ≡ c = eqb-true n c e in
        let past : all_below f n (list_put c xs at) ≡ all_below f n at = below_past n c xs at (omega arith) in
        let own : m (map (f n) xs) ≡ m (map (f c) xs) = ap (λ j. m (map (f j) xs)) q in
        let was : m (map (f n) (at n)) ≡ m (map (f c) (at c)) = ap (λ j. m (map (f j) (at j))) q in
        omega (arith, ap m past)
    measure_by false n c xs at e l r = omega (arith, r (apart n c e l))
      where
        apart : (n c : ℕ) → eqb n c ≡ false → c < suc n → c < n
        apart n c e l = grind (arith, nat_tests)

    -- a measure of the first n lists, with another list in chain c
    pub measure_put : (n c : ℕ) (xs : List Link) (at : ℕ → List Link) → c < n
        → m (all_below f n (list_put c xs at)) + m (map (f c) (at c)) ≡ m (all_below f n at) + m (map (f c) xs)
    unfolding all_below
    measure_put zero c xs at l = absurd (omega arith)
    measure_put (suc n) c xs at l =
        let a = sums (all_below f n (list_put c xs at)) (map (f n) (list_put c xs at n)) in
        let b = sums (all_below f n at) (map (f n) (at n)) in
        let r = measure_by (eqb n c) n c xs at refl l (λ l. measure_put n c xs at l) in
        omega arith

    -- the measure of a list is at most that of all
    pub measure_one : (n c : ℕ) (at : ℕ → List Link) → c < n → m (map (f c) (at c)) ≤ m (all_below f n at)
    measure_one n c at l = omega (arith, measure_put n c [] at l, sums [] [])

-- how often a number is in the first n lists, with another list in chain c
pub times_put : (f : ℕ → Link → ℕ) (k n c : ℕ) (xs : List Link) (at : ℕ → List Link) → c < n
    → times k (all_below f n (list_put c xs at)) + times k (map (f c) (at c))
    ≡ times k (all_below f n at) + times k (map (f c) xs)
times_put f k = measure_put f (times k) (times-append k)

-- a number is in a list at most as often as in all
pub times_one : (f : ℕ → Link → ℕ) (k n c : ℕ) (at : ℕ → List Link) → c < n
    → times k (map (f c) (at c)) ≤ times k (all_below f n at)
times_one f k = measure_one f (times k) (times-append k)

-- a number is in two lists at most as often as in all
pub times_two : (f : ℕ → Link → ℕ) (k n c d : ℕ) (at : ℕ → List Link) → c < n → d < n → d ≢ c
    → times k (map (f c) (at c)) + times k (map (f d) (at d)) ≤ times k (all_below f n at)
times_two f k n c d at l m apart =
    let out = times_put f k n c [] at l in
    let there = times_one f k n d (list_put c [] at) m in
    let same : times k (map (f d) (list_put c [] at d)) ≡ times k (map (f d) (at d)) =
    ap (λ l. times k (map (f d) l)) (put_other c d [] at apart) in
    omega arith

-- the length of the first n lists, with another list in chain c
pub length_put : {X : Type 0} (f : ℕ → Link → X) (n c : ℕ) (xs : List Link) (at : ℕ → List Link) → c < n
    → length (all_below f n (list_put c xs at)) + length (at c) ≡ length (all_below f n at) + length xs
length_put f n c xs at l =
    omega (arith, measure_put f length length-append n c xs at l, length-map (at c) (f c), length-map xs (f c))

pub length_one : {X : Type 0} (f : ℕ → Link → X) (n c : ℕ) (at : ℕ → List Link) → c < n
    → length (at c) ≤ length (all_below f n at)
length_one f n c at l = omega (arith, measure_one f length length-append n c at l, length-map (at c) (f c))

-- how often a number is in the first n lists and the next
pub times_next : (f : ℕ → Link → ℕ) (k n : ℕ) (at : ℕ → List Link)
    → times k (all_below f (suc n) at) ≡ times k (all_below f n at) + times k (map (f n) (at n))
unfolding all_below
times_next f k n at = times-append k (all_below f n at) (map (f n) (at n))

pub length_next : {X : Type 0} (f : ℕ → Link → X) (n : ℕ) (at : ℕ → List Link)
    → length (all_below f (suc n) at) ≡ length (all_below f n at) + length (at n)
unfolding all_below
length_next f n at = omega (arith, length-append (all_below f n at) (map (f n) (at n)), length-map (at n) (f n))

-- the length doesn't depend on what is made of the links
pub length_same : {X Y : Type 0} (f : ℕ → Link → X) (g : ℕ → Link → Y) (n : ℕ) (at : ℕ → List Link)
    → length (all_below f n at) ≡ length (all_below g n at)
unfolding all_below
length_same f g zero at = refl
length_same f g (suc n) at = omega (arith, length_next f n at, length_next g n at, length_same f g n at)

-- how often a place is in a list with a link in its middle
pub places_middle : (k : ℕ) (xs : List Link) (x : Link) (ys : List Link)
    → times k (places_in (xs ++ x ∷ ys)) ≡ times k (places_in (xs ++ ys)) + one k x.place
places_middle k [] x ys = omega arith
places_middle k (y ∷ xs) x ys = omega (arith, places_middle k xs x ys)

pub keys_middle : (k : ℕ) (xs : List Link) (x : Link) (ys : List Link)
    → times k (keys (xs ++ x ∷ ys)) ≡ times k (keys (xs ++ ys)) + one k x.key
keys_middle k [] x ys = omega arith
keys_middle k (y ∷ xs) x ys = omega (arith, keys_middle k xs x ys)

pub places_append : (k : ℕ) (xs ys : List Link)
    → times k (places_in (xs ++ ys)) ≡ times k (places_in xs) + times k (places_in ys)
places_append k xs ys =
    ap (times k) (map-append (λ (x : Link). x.place) xs ys) ∙ times-append k (places_in xs) (places_in ys)

pub keys_append : (k : ℕ) (xs ys : List Link) → times k (keys (xs ++ ys)) ≡ times k (keys xs) + times k (keys ys)
keys_append k xs ys = ap (times k) (map-append (λ (x : Link). x.key) xs ys) ∙ times-append k (keys xs) (keys ys)

pub length_middle : (xs : List Link) (x : Link) (ys : List Link) → length (xs ++ x ∷ ys) ≡ suc (length (xs ++ ys))
length_middle xs x ys = omega (arith, length-append xs (x ∷ ys), length-append xs ys)

-- the first link of a place

-- it has the key `key`, and is after the key `behind`, in a list after the key `start`
pub record Stands (place : ℕ) (start : Option ℕ) (xs : List Link) (behind : Option ℕ) (key : ℕ) : Type 0 where
  pub before : List Link
  pub link : Link
  pub after : List Link
  pub is : xs ≡ before ++ link ∷ after
  pub link_place : link.place ≡ place
  pub none_before : times place (places_in before) ≡ 0
  pub behind_is : behind ≡ last_from start before
  pub key_is : link.key ≡ key

place_apart : (place : ℕ) (x : Link) → eqb x.place place ≡ false → one place x.place ≡ 0
place_apart place x e = one_apart place x.place (eq_swap place x.place ∙ e)

pub stands : (place : ℕ) (start : Option ℕ) (xs : List Link) (behind : Option ℕ) (key : ℕ)
    → keys_of place start xs ≡ Some (behind, key) → Stands place start xs behind key
stands place start [] behind key e = absurd (cc)
stands place start (x ∷ xs) behind key e = by (eqb x.place place) refl (stands place (Some x.key) xs behind key) e
  where
    by : (t : Bool) → eqb x.place place ≡ t
        → (keys_of place (Some x.key) xs ≡ Some (behind, key) → Stands place (Some x.key) xs behind key)
        → cond t (Some (start, x.key)) (keys_of place (Some x.key) xs) ≡ Some (behind, key)
        → Stands place start (x ∷ xs) behind key
    by true q r f =
        let same : (start, x.key) ≡ (behind, key) = cc in
        record {
          before = [];
          link = x;
          after = xs;
          is = refl;
          link_place = eqb-true x.place place q;
          none_before = refl;
          behind_is = sym (ap (λ (p : Option ℕ × ℕ). p.0) same);
          key_is = ap (λ (p : Option ℕ × ℕ). p.1) same;
        }
    by false q r f =
        let s : Stands place (Some x.key) xs behind key = r f in
        record {
          before = x ∷ s.before;
          link = s.link;
          after = s.after;
          is = ap (λ ys. x ∷ ys) s.is;
          link_place = s.link_place;
          none_before = omega (arith, s.none_before, place_apart place x q);
          behind_is = s.behind_is;
          key_is = s.key_is;
        }

-- no link of the list has the place if none was found
pub stands_nowhere : (place : ℕ) (start : Option ℕ) (xs : List Link) → keys_of place start xs ≡ None
    → times place (places_in xs) ≡ 0
stands_nowhere place start [] e = refl
stands_nowhere place start (x ∷ xs) e =
    by (eqb x.place place) refl (stands_nowhere place (Some x.key) xs) e
  where
    by : (t : Bool) → eqb x.place place ≡ t
        → (keys_of place (Some x.key) xs ≡ None → times place (places_in xs) ≡ 0)
        → cond t (Some (start, x.key)) (keys_of place (Some x.key) xs) ≡ None
        → one place x.place + times place (places_in xs) ≡ 0
    by true q r f = absurd (cc)
    by false q r f = omega (arith, r f, place_apart place x q)

-- a link of the list has the place exactly if one was found
pub stands_somewhere : (place : ℕ) (xs : List Link) (found : Option (Option ℕ × ℕ)) (r : Bool)
    → found ≡ keys_of place None xs → r ≡ is_some found → IsTrue r ↔ (times place (places_in xs) ≢ 0)
stands_somewhere place xs None r is told = (
  (λ yes none. let no : true ≡ false = sym yes ∙ told in absurd (cc)),
  (λ some. absurd (some (stands_nowhere place None xs (sym is)))),
)
stands_somewhere place xs (Some p) r is told =
    let s : Stands place None xs p.0 p.1 = stands place None xs p.0 p.1 (sym is) in
    let all : times place (places_in xs) ≡ times place (places_in (s.before ++ s.link ∷ s.after)) =
    ap (λ ys. times place (places_in ys)) s.is in (
      (λ yes none. absurd (omega (
        arith,
        none,
        all,
        places_middle place s.before s.link s.after,
        ap (one place) s.link_place,
        one_same place,
      ))),
      λ some. told,
    )
