-- Rising lists keep rising if a priority is put in, and if the first is removed. (Laws of the trait `Waits` cite this.)
use Rattle.std.proofs.Common.{◌≡◌, ◌==◌, ℕ, zero, suc, ◌<◌, ◌≤◌, Bool, true, false, cond, leb, List, [], ◌∷◌, length}
use Rattle.std.proofs.Common.{get_or, refl, arith}
use Rattle.std.specs.List.Sorted.{IsNonDecreasing}
use Rattle.std.proofs.lemmas.Bool.Decides.{nat_tests}
use Rattle.hoare_law.specs.Priorities.{put_in, behind_first, joined, taken}

-- no element of the list is below n
abbrev pub IsFrom : ℕ → List ℕ → Type 0
IsFrom n xs = (j d : ℕ) → j < length xs → n ≤ get_or xs j d

is_below : (q p : ℕ) → leb q p ≡ true → q ≤ p
is_below q p e = grind (arith, nat_tests)

is_above : (q p : ℕ) → leb q p ≡ false → p ≤ q
is_above q p e = grind (arith, nat_tests)

from_by : (t : Bool) (n p q : ℕ) (qs rest : List ℕ) → n ≤ p → IsFrom n (q ∷ qs) → IsFrom n rest
    → IsFrom n (cond t (q ∷ rest) (p ∷ q ∷ qs))
from_by true n p q qs rest l h r zero d b = h 0 d (omega arith)
from_by true n p q qs rest l h r (suc j) d b = r j d (omega arith)
from_by false n p q qs rest l h r zero d b = l
from_by false n p q qs rest l h r (suc j) d b = h j d (omega arith)

from_one : (n p : ℕ) → n ≤ p → IsFrom n (p ∷ [])
from_one n p l zero d b = l
from_one n p l (suc j) d b = absurd (omega arith)

IsFrom-put_in : (n p : ℕ) (qs : List ℕ) → n ≤ p → IsFrom n qs → IsFrom n (put_in (λ x. x) p qs)
IsFrom-put_in n p [] l h = from_one n p l
IsFrom-put_in n p (q ∷ qs) l h =
    from_by (leb q p) n p q qs (put_in (λ x. x) p qs) l h (IsFrom-put_in n p qs l (λ j d b. h (suc j) d (omega arith)))

rising_cons : (n : ℕ) (xs : List ℕ) → IsFrom n xs → IsNonDecreasing xs → IsNonDecreasing (n ∷ xs)
rising_cons n xs f r zero zero d le b = omega arith
rising_cons n xs f r zero (suc j) d le b = f j d (omega arith)
rising_cons n xs f r (suc i) zero d le b = absurd (omega arith)
rising_cons n xs f r (suc i) (suc j) d le b = r i j d (omega arith) (omega arith)

rising_from : (n : ℕ) (xs : List ℕ) → IsNonDecreasing (n ∷ xs) → IsFrom n xs
rising_from n xs r j d b = r 0 (suc j) d (omega arith) (omega arith)

pub IsNonDecreasing-behind_first : (xs : List ℕ) → IsNonDecreasing xs → IsNonDecreasing (behind_first xs)
IsNonDecreasing-behind_first [] r = r
IsNonDecreasing-behind_first (x ∷ xs) r = λ i j d le b. r (suc i) (suc j) d (omega arith) (omega arith)

from_less : (p q : ℕ) (xs : List ℕ) → p ≤ q → IsFrom q xs → IsFrom p (q ∷ xs)
from_less p q xs l f zero d b = l
from_less p q xs l f (suc j) d b = omega (arith, f j d (omega arith))

rising_by : (t : Bool) (p q : ℕ) (qs rest : List ℕ) → leb q p ≡ t → IsNonDecreasing (q ∷ qs) → IsNonDecreasing rest
    → (q ≤ p → IsFrom q rest) → IsNonDecreasing (cond t (q ∷ rest) (p ∷ q ∷ qs))
rising_by true p q qs rest e r n f = rising_cons q rest (f (is_below q p e)) n
rising_by false p q qs rest e r n f = rising_cons p (q ∷ qs) (from_less p q qs (is_above q p e) (rising_from q qs r)) r

pub IsNonDecreasing-put_in : (p : ℕ) (qs : List ℕ) → IsNonDecreasing qs → IsNonDecreasing (put_in (λ x. x) p qs)
IsNonDecreasing-put_in p [] r = rising_cons p [] (λ j d b. absurd (omega arith)) r
IsNonDecreasing-put_in p (q ∷ qs) r =
    rising_by (leb q p) p q qs (put_in (λ x. x) p qs) refl r
    (IsNonDecreasing-put_in p qs (IsNonDecreasing-behind_first (q ∷ qs) r))
    (λ l. IsFrom-put_in q p qs l (rising_from q qs r))

pub IsNonDecreasing-joined : (lists : ℕ → List ℕ) (c p d : ℕ) → IsNonDecreasing (lists d)
    → IsNonDecreasing (joined lists c p d)
IsNonDecreasing-joined lists c p d r =
    elim (d == c) as (λ t. IsNonDecreasing (cond t (put_in (λ x. x) p (lists d)) (lists d)))
    [ true ↦ IsNonDecreasing-put_in p (lists d) r | false ↦ r ]

pub IsNonDecreasing-taken : (lists : ℕ → List ℕ) (c d : ℕ) → IsNonDecreasing (lists d)
    → IsNonDecreasing (taken lists c d)
IsNonDecreasing-taken lists c d r =
    elim (d == c) as (λ t. IsNonDecreasing (cond t (behind_first (lists d)) (lists d)))
    [ true ↦ IsNonDecreasing-behind_first (lists d) r | false ↦ r ]
