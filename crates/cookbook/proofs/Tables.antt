-- What the philosophers' table keeps when a philosopher sits down and when one gets up.
use Rattle.std.proofs.Common.{◌≡◌, ◌≢◌, ℕ, ◌+◌, ◌<◌, List, length, Bool, true, false, true≢false, get_or, sym, ap}
use Rattle.std.proofs.Common.{subst, ◌∙◌, ⊎_elim, arith}
use Rattle.std.specs.Prelude.{slice_set, IsTrue}
use Rattle.std.proofs.lemmas.Bool.{cases_eq}
use Rattle.std.proofs.lemmas.List.{length-set, get_or-set_same, get_or-set_other}
use Rattle.hoare_law.specs.declared.event.History.{History}
use Rattle.cookbook.specs.TableTraces.{HandsOn}
use Rattle.cookbook.specs.Tables.{TableHolds, CanEat, IsEating, right_of, left_of, seated, risen}

-- if a philosopher eats at one of the first n seats, none eats at the seat to the right of that one
abbrev pub IsApartBelow : List Bool → ℕ → Type 0
IsApartBelow t n = (k : ℕ) → k < n → IsEating t k → get_or t (right_of k) false ≡ false

-- if no philosopher eats at seat k, none eats there when the philosopher at seat j has got up
still_up : (t : List Bool) (j k : ℕ) → j < length t → get_or t k false ≡ false
    → get_or (slice_set t j false) k false ≡ false
still_up t j k within up = ⊎_elim
    (λ same. rw same (get_or-set_same t j false false within))
    (λ other. get_or-set_other t j k false false other ∙ up)
    (cases_eq k j)

-- a philosopher that eats when the philosopher at seat j has got up also ate before that
ate_before : (t : List Bool) (j k : ℕ) → j < length t → IsEating (slice_set t j false) k → IsEating t k
ate_before t j k within eats = ⊎_elim
    (λ same. absurd (true≢false (sym (rw same at eats) ∙ get_or-set_same t j false false within)))
    (λ other. sym (get_or-set_other t j k false false other) ∙ eats)
    (cases_eq k j)

-- the invariant still holds when a philosopher has got up
pub TableHolds-risen : (t d : List Bool) (j : ℕ) → TableHolds t → j < 5 → d ≡ risen t j → TableHolds d
TableHolds-risen t d j holds below state =
    let within : j < length t = rw holds.seats below in
    rw state (record {
      seats = length-set t j false ∙ holds.seats;
      apart = λ k lt eats. still_up t j (right_of k) within (holds.apart k lt (ate_before t j k within eats));
    })

-- no seat is to the right of itself; and if seat j is to the right of seat k, then k is to the left of j
not_beside : (j : ℕ) → j < 5 → right_of j ≢ j
not_beside j below same = absurd (omega (arith, below, same))

is_left : (j k : ℕ) → k < 5 → right_of k ≡ j → k ≡ left_of j
is_left j k lt same = omega (arith, lt, same)

-- the invariant still holds when a philosopher that can eat has sat down
apart_seated : (t : List Bool) (j k : ℕ) → TableHolds t → j < 5 → CanEat t j → k < 5 → IsEating (slice_set t j true) k
    → get_or (slice_set t j true) (right_of k) false ≡ false
apart_seated t j k holds below can lt eats = ⊎_elim
    (λ same. rw same (get_or-set_other t j (right_of j) true false (not_beside j below) ∙ can.right))
    (λ other.
    let ate : IsEating t k = sym (get_or-set_other t j k true false other) ∙ eats in
    ⊎_elim
    (λ beside. absurd (true≢false (sym ate ∙ ap (λ n. get_or t n false) (is_left j k lt beside) ∙ can.left)))
    (λ apart. get_or-set_other t j (right_of k) true false apart ∙ holds.apart k lt ate)
    (cases_eq (right_of k) j))
    (cases_eq k j)

pub TableHolds-seated : (t d : List Bool) (j : ℕ) → TableHolds t → j < 5 → CanEat t j → d ≡ seated t j → TableHolds d
TableHolds-seated t d j holds below can state = rw state (record {
  seats = length-set t j true ∙ holds.seats;
  apart = λ k lt eats. apart_seated t j k holds below can lt eats;
})

-- The release of the monitor as a trace names it.
pub HandsOn-as : {k k1 : ℕ} {t t1 : List Bool} {g g1 h : History (List Bool)} → HandsOn k1 t1 g1 h → k1 ≡ k → t1 ≡ t
    → g1 ≡ g → HandsOn k t g h
HandsOn-as hands_on place state front = rw (place, state, front) at hands_on

-- a property of all numbers below n, and of n, holds for all below n + 1
pub below_more : (P : ℕ → Type 0) (n : ℕ) → ((k : ℕ) → k < n → P k) → P n → (k : ℕ) → k < n + 1 → P k
below_more P n below here k lt = ⊎_elim
    (λ same. subst P (sym same) here)
    (λ other. below k (omega (arith, lt, other)))
    (cases_eq k n)

-- the property doesn't hold if its test returned false
pub not_told : {P : Type 0} {b : Bool} → (IsTrue b → P) × (P → IsTrue b) → b ≡ false → P → ⊥
not_told {b = true} told untold p = absurd (true≢false untold)
not_told {b = false} told untold p = absurd (true≢false (sym (told.1 p)))
