-- Lists of numbers, the log of a shelf, and elements of lists.
use Rattle.std.proofs.Common.{◌≡◌, ◌≢◌, ◌⊎◌, ⊎_elim, inl, inr, length, ℕ, zero, suc, ◌<◌, Bool, true, false, List, [], ◌∷◌, ◌++◌, set, get_or, replicate}
use Rattle.std.proofs.Common.{Option, Some, None, refl, sym, ap, ◌∙◌, arith, eqb, eq-eqb, eqb-true, true≢false, ne_eqb, ◌≤◌, append_assoc, append-nil}
use Rattle.std.specs.Prelude.{if◌then◌else◌, ◌==◌}
use mathlib.Core.Option.{some, some-injective, some-ne-none}
use lib.ListN.{get_elem?}
use Rattle.shelf.specs.declared.view.Change.{Change}
use Rattle.shelf.specs.declared.view.Change.TheVariants.{Put, Take}
use Rattle.shelf.specs.Log.{Begins, Log, after, after_all, shelved, taken}
use Rattle.shelf.specs.Views.{Each, Apart, AreNumbers, numbers_below}

module _ {A : Type 0} where
  pub set_over : (l : List A) (k : ℕ) (a b : A) → get_elem? l k ≡ some a → get_elem? (set l k b) k ≡ some b
  set_over [] k a b at = absurd (some-ne-none a (sym at))
  set_over (x ∷ xs) zero a b at = refl
  set_over (x ∷ xs) (suc k) a b at = set_over xs k a b at

  pub found_at : (l : List A) (k : ℕ) (a d : A) → get_elem? l k ≡ some a → get_or l k d ≡ a
  found_at [] k a d at = absurd (some-ne-none a (sym at))
  found_at (x ∷ xs) zero a d at = some-injective x a at
  found_at (x ∷ xs) (suc k) a d at = found_at xs k a d at

  pub at_replicate : (n k : ℕ) (a : A) → k < n → get_elem? (replicate n a) k ≡ some a
  at_replicate zero k a below = absurd (omega arith)
  at_replicate (suc n) zero a below = refl
  at_replicate (suc n) (suc k) a below = at_replicate n k a (omega arith)

  -- the element at the end, and where it is
  pub at_end : (l : List A) (a b : A) (j : ℕ) → get_elem? (l ++ a ∷ []) j ≡ some b
      → (get_elem? l j ≡ some b) ⊎ ((j ≡ length l) × (a ≡ b))
  at_end [] a b zero e = inr (refl, some-injective a b e)
  at_end [] a b (suc j) e = absurd (some-ne-none b (sym e))
  at_end (x ∷ xs) a b zero e = inl e
  at_end (x ∷ xs) a b (suc j) e =
      ⊎_elim (λ (t : get_elem? xs j ≡ some b). inl t) (λ (t : (j ≡ length xs) × (a ≡ b)). inr (omega (arith, t.0), t.1))
      (at_end xs a b j e)

pub each_map : (P Q : ℕ → Type 0) → ((k : ℕ) → P k → Q k) → (ks : List ℕ) → Each P ks → Each Q ks
each_map P Q f [] h = tt
each_map P Q f (k ∷ ks) h = (f k h.0, each_map P Q f ks h.1)

pub each_with : (P Q R : ℕ → Type 0) → ((k : ℕ) → P k → Q k → R k) → (ks : List ℕ) → Each P ks → Each Q ks → Each R ks
each_with P Q R f [] g h = tt
each_with P Q R f (k ∷ ks) g h = (f k g.0 h.0, each_with P Q R f ks g.1 h.1)

below_all : (n m : ℕ) → n < m → Each (λ k. k < m) (numbers_below n)
below_all zero m less = tt
below_all (suc n) m less = (omega arith, below_all n m (omega arith))

apart_all : (n : ℕ) → Apart (numbers_below n)
apart_all zero = tt
apart_all (suc n) = (each_map (λ k. k < n) (λ k. k ≢ n) (λ k less same. omega arith) (numbers_below n) (under n), apart_all n)
  where
    under : (m : ℕ) → Each (λ k. k < m) (numbers_below m)
    under zero = tt
    under (suc m) = (omega arith, below_all m (suc m) (omega arith))

pub numbers_are : (n : ℕ) → AreNumbers n (numbers_below n)
numbers_are zero = (tt, tt)
numbers_are (suc n) = ((omega arith, below_all n (suc n) (omega arith)), apart_all (suc n))

module _ {T : Type 0} where
  pub begins_refl : (log : Log T) → Begins log log
  begins_refl log = record { more = []; is = sym (append-nil log) }

  pub begins_push : (log : Log T) (c : Change T) → Begins log (log ++ c ∷ [])
  begins_push log c = record { more = c ∷ []; is = refl }

  pub begins_trans : {a b c : Log T} → Begins a b → Begins b c → Begins a c
  begins_trans {a = a} x y = record {
    more = x.more ++ y.more;
    is = y.is ∙ ap (λ (l : Log T). l ++ y.more) x.is ∙ append_assoc a x.more y.more;
  }

  after_push : (k : ℕ) (x : Option T) (log : Log T) (c : Change T)
      → after_all k x (log ++ c ∷ []) ≡ after k (after_all k x log) c
  after_push k x [] c = refl
  after_push k x (d ∷ log) c = after_push k (after k x d) log c

  -- after a change the number has what the change says
  pub shelved_push : (k : ℕ) (log : Log T) (c : Change T) → shelved k (log ++ c ∷ []) ≡ after k (shelved k log) c
  shelved_push k log c = after_push k None log c

  pub put_here : (k : ℕ) (x : T) (log : Log T) → shelved k (log ++ Put k x ∷ []) ≡ Some x
  put_here k x log =
      shelved_push k log (Put k x) ∙ ap (λ (b : Bool). if b then Some x else shelved k log) (eq-eqb k k refl)

  pub put_else : (k j : ℕ) (x : T) (log : Log T) → j ≢ k → shelved j (log ++ Put k x ∷ []) ≡ shelved j log
  put_else k j x log other =
      shelved_push j log (Put k x)
      ∙ ap (λ (b : Bool). if b then Some x else shelved j log) (ne_eqb k j (λ same. other (sym same)))

  pub take_here : (k : ℕ) (log : Log T) → shelved k (log ++ Take k ∷ []) ≡ None
  take_here k log =
      shelved_push k log (Take k) ∙ ap (λ (b : Bool). if b then None else shelved k log) (eq-eqb k k refl)

  pub take_else : (k j : ℕ) (log : Log T) → j ≢ k → shelved j (log ++ Take k ∷ []) ≡ shelved j log
  take_else k j log other =
      shelved_push j log (Take k)
      ∙ ap (λ (b : Bool). if b then None else shelved j log) (ne_eqb k j (λ same. other (sym same)))

  pub taken_put : (k : ℕ) (x : T) (log : Log T) → taken (log ++ Put k x ∷ []) ≡ taken log
  taken_put k x [] = refl
  taken_put k x (Put j y ∷ log) = taken_put k x log
  taken_put k x (Take j ∷ log) = ap (λ (ks : List ℕ). j ∷ ks) (taken_put k x log)

  pub taken_take : (k : ℕ) (log : Log T) → taken (log ++ Take k ∷ []) ≡ taken log ++ k ∷ []
  taken_take k [] = refl
  taken_take k (Put j y ∷ log) = taken_take k log
  taken_take k (Take j ∷ log) = ap (λ (ks : List ℕ). j ∷ ks) (taken_take k log)

-- without the first n
abbrev drop_one : ℕ → List ℕ → List ℕ
drop_one n [] = []
drop_one n (k ∷ ks) = if k == n then ks else k ∷ drop_one n ks

each_dropped : (P : ℕ → Type 0) (n : ℕ) (ks : List ℕ) → Each P ks → Each P (drop_one n ks)
each_dropped P n [] h = tt
each_dropped P n (k ∷ ks) h = by (k == n) (each_dropped P n ks h.1)
  where
    by : (b : Bool) → Each P (drop_one n ks) → Each P (if b then ks else k ∷ drop_one n ks)
    by true rest = h.1
    by false rest = (h.0, rest)

apart_dropped : (n : ℕ) (ks : List ℕ) → Apart ks → Apart (drop_one n ks) × Each (λ j. j ≢ n) (drop_one n ks)
apart_dropped n [] h = (tt, tt)
apart_dropped n (k ∷ ks) h = by (eqb k n) refl (apart_dropped n ks h.1)
  where
    by : (b : Bool) → eqb k n ≡ b → Apart (drop_one n ks) × Each (λ j. j ≢ n) (drop_one n ks)
        → Apart (if b then ks else k ∷ drop_one n ks) × Each (λ j. j ≢ n) (if b then ks else k ∷ drop_one n ks)
    by true is rest =
        let same = eqb-true k n is in
        (h.1, each_map (λ j. j ≢ k) (λ j. j ≢ n) (λ j other is_n. other (is_n ∙ sym same)) ks h.0)
    by false is rest =
        ((each_dropped (λ j. j ≢ k) n ks h.0, rest.0), ((λ same. true≢false (sym (eq-eqb k n same) ∙ is)), rest.1))

one_less : (n : ℕ) (ks : List ℕ) → length ks ≤ suc (length (drop_one n ks))
one_less n [] = omega arith
one_less n (k ∷ ks) = by (k == n) (one_less n ks)
  where
    by : (b : Bool) → length ks ≤ suc (length (drop_one n ks))
        → suc (length ks) ≤ suc (length (if b then ks else k ∷ drop_one n ks))
    by true rest = omega arith
    by false rest = omega (arith, rest)

-- there are at most n different numbers below n
pub few : (n : ℕ) (ks : List ℕ) → AreNumbers n ks → length ks ≤ n
few zero [] h = omega arith
few zero (k ∷ ks) h = let less = h.0.0 in absurd (omega (arith, less))
few (suc n) ks h =
    let apart = apart_dropped n ks h.1 in
    let below = each_with (λ j. j < suc n) (λ j. j ≢ n) (λ j. j < n) (λ j less other. omega (arith, less, other))
    (drop_one n ks) (each_dropped (λ j. j < suc n) n ks h.0) apart.1 in
    let rest = few n (drop_one n ks) (below, apart.0) in
    let more = one_less n ks in omega (arith, rest, more)
