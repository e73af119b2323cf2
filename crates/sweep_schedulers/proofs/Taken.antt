-- What a join and a grant leave of the waiting priorities: how many there are, and how many of one priority.
use Rattle.std.proofs.Common.{◌≡◌, ◌≢◌, ◌==◌, ℕ, ◌+◌, ◌<◌, ◌≤◌, List, [], ◌∷◌, Bool, true, false}
use Rattle.std.proofs.Common.{cond, length, count_by, refl, sym, ◌∙◌, arith}
use Rattle.std.proofs.lemmas.Bool.Decides.{nat_tests}
use Rattle.std.proofs.lemmas.List.Elements.{All-head, All-tail}
use Rattle.std.proofs.lemmas.List.Sums.{count_by-le-length}
use Rattle.std.specs.Prelude.{All, slice_index}
use Rattle.hoare_law.specs.Priorities.{joined, taken, put_in, behind_first}
use Rattle.sweep_schedulers.specs.declared.direction.Direction.{Direction}
use Rattle.sweep_schedulers.specs.declared.direction.Direction.TheVariants.{Up, Down}
use Rattle.sweep_schedulers.specs.Heads.{sweep, opposite, priority_at, cylinder_of}
use Rattle.sweep_schedulers.specs.Sweeps.{AtMost, first, IsPassed, by_equal}
use Rattle.sweep_schedulers.specs.Sweeps.{by_other}
use Rattle.sweep_schedulers.proofs.Lists.{count_by-cons, count_by-put_in, count_by-first}

-- the number of these that wait with this priority
abbrev pub equals : ℕ → List ℕ → ℕ
equals p qs = count_by (λ s. s == p) qs

-- what holds of all, holds of each that is counted
pub All-counted : (P : ℕ → Type 0) (p : ℕ) (qs : List ℕ) → All P qs → 0 < equals p qs → P p
All-counted P p [] all some = absurd (omega (arith, some))
All-counted P p (x ∷ qs) all some = by (x == p) refl (All-counted P p qs (All-tail P x qs all))
  where
    by : (t : Bool) → (x == p) ≡ t → (0 < equals p qs → P p) → P p
    by true is rest = let same : x ≡ p = grind (arith, nat_tests) in rw (sym same) (All-head P x qs all)
    by false is rest =
        let fewer : equals p (x ∷ qs) ≡ equals p qs = count_by-cons (λ s. s == p) x qs ∙ (rw is (omega arith)) in
        rest (omega (arith, some, fewer))

-- no element is counted for two different priorities
one_of : (s p x : ℕ) → s ≢ p → cond (x == s) 1 0 + cond (x == p) 1 0 ≤ 1
one_of s p x apart = by (x == s) (x == p) refl refl
  where
    by : (t u : Bool) → (x == s) ≡ t → (x == p) ≡ u → cond t 1 0 + cond u 1 0 ≤ 1
    by true true is also = absurd (apart (grind (arith, nat_tests)))
    by true false is also = omega arith
    by false true is also = omega arith
    by false false is also = omega arith

apart_within : (s p : ℕ) (qs : List ℕ) → s ≢ p → equals s qs + equals p qs ≤ length qs
apart_within s p [] apart = omega arith
apart_within s p (x ∷ qs) apart =
    omega (
      arith,
      apart_within s p qs apart,
      one_of s p x apart,
      count_by-cons (λ r. r == s) x qs,
      count_by-cons (λ r. r == p) x qs,
    )

-- the first counts if it has this priority
pub with_first : (p : ℕ) (qs : List ℕ) → qs ≢ []
    → equals p qs ≡ cond (slice_index qs 0 == p) 1 0 + equals p (behind_first qs)
with_first p qs some =
    sym (count_by-first (λ s. s == p) qs some) ∙ count_by-put_in (λ s. s == p) (slice_index qs 0) (behind_first qs)

shorter : (qs : List ℕ) → length (behind_first qs) ≤ length qs
shorter [] = omega arith
shorter (x ∷ qs) = omega arith

-- sweeps with the same condition have the same direction
pub same_sweep : (a b : Direction) → (sweep a == sweep b) ≡ true → a ≡ b
same_sweep Up Up is = refl
same_sweep Up Down is = absurd (cc)
same_sweep Down Up is = absurd (cc)
same_sweep Down Down is = refl

pub other_sweep : (a b : Direction) → (sweep a == sweep b) ≡ false → (a ≢ b) × (opposite a ≡ b)
other_sweep Up Up is = absurd (cc)
other_sweep Up Down is = ((λ e. cc), refl)
other_sweep Down Up is = ((λ e. cc), refl)
other_sweep Down Down is = absurd (cc)

pub is_sweep : (a b : Direction) → a ≡ b → (sweep a == sweep b) ≡ true
is_sweep Up b is = rw (sym is) refl
is_sweep Down b is = rw (sym is) refl

pub there : (dir : Direction) (cylmax f : ℕ) → f ≤ cylmax → priority_at cylmax dir (cylinder_of cylmax dir f) ≡ f
there Up cylmax f on = refl
there Down cylmax f on = omega (arith, on)

-- those of one sweep and priority, and those of another, are at most all
pub few_apart : (dir own : Direction) (q : ℕ → List ℕ) (m s p : ℕ) → AtMost m q → (dir ≡ own → s ≢ p)
    → equals s (q (sweep dir)) + equals p (q (sweep own)) ≤ m
few_apart Up Up q m s p few apart = omega (arith, few, apart_within s p (q 0) (apart refl))
few_apart Up Down q m s p few apart =
    omega (arith, few, count_by-le-length (λ r. r == s) (q 0), count_by-le-length (λ r. r == p) (q 1))
few_apart Down Up q m s p few apart =
    omega (arith, few, count_by-le-length (λ r. r == s) (q 1), count_by-le-length (λ r. r == p) (q 0))
few_apart Down Down q m s p few apart = omega (arith, few, apart_within s p (q 1) (apart refl))

pub few_counted : (own : Direction) (q : ℕ → List ℕ) (m p : ℕ) → AtMost m q → equals p (q (sweep own)) ≤ m
few_counted Up q m p few = omega (arith, few, count_by-le-length (λ r. r == p) (q 0))
few_counted Down q m p few = omega (arith, few, count_by-le-length (λ r. r == p) (q 1))

pub taken_own : (dir : Direction) (q : ℕ → List ℕ) → taken q (sweep dir) (sweep dir) ≡ behind_first (q (sweep dir))
taken_own Up q = refl
taken_own Down q = refl

pub few_taken : (dir : Direction) (q : ℕ → List ℕ) (m : ℕ) → AtMost m q → AtMost m (taken q (sweep dir))
few_taken Up q m few = omega (arith, few, shorter (q 0))
few_taken Down q m few = omega (arith, few, shorter (q 1))

-- a request that is passed waits further, after those that are left before it
fewer : {k j : ℕ} (p : ℕ) (dir own : Direction) (qs : List ℕ) → dir ≡ own → qs ≢ []
    → IsPassed own p dir (slice_index qs 0) k j → k < equals p qs → j < equals p (behind_first qs)
fewer p dir own qs same some (by_equal i on is) among =
    let passes : (slice_index qs 0 == p) ≡ true = grind (arith, nat_tests) in
    let less : equals p qs ≡ 1 + equals p (behind_first qs) = with_first p qs some ∙ (rw passes refl) in
    omega (arith, among, less)
fewer p dir own qs same some (by_other i apart) among =
    let other : slice_index qs 0 ≢ p = apart same in
    let fails : (slice_index qs 0 == p) ≡ false = grind (arith, nat_tests) in
    let as_many : equals p qs ≡ 0 + equals p (behind_first qs) = with_first p qs some ∙ (rw fails refl) in
    omega (arith, among, as_many)

as_many_before : {k j : ℕ} (p s : ℕ) (dir own : Direction) → dir ≢ own → IsPassed own p dir s k j → k ≡ j
as_many_before p s dir own apart (by_equal i on is) = absurd (apart on)
as_many_before p s dir own apart (by_other i other) = refl

pub among_taken : (dir own : Direction) (q : ℕ → List ℕ) (p k j : ℕ) → q (sweep dir) ≢ []
    → IsPassed own p dir (first dir q) k j → k < equals p (q (sweep own))
    → j < equals p (taken q (sweep dir) (sweep own))
among_taken Up Up q p k j some passed among = fewer p Up Up (q 0) refl some passed among
among_taken Up Down q p k j some passed among =
    omega (arith, among, as_many_before p (first Up q) Up Down (λ e. cc) passed)
among_taken Down Up q p k j some passed among =
    omega (arith, among, as_many_before p (first Down q) Down Up (λ e. cc) passed)
among_taken Down Down q p k j some passed among = fewer p Down Down (q 1) refl some passed among

pub among_joined : (q : ℕ → List ℕ) (c s p k own : ℕ) → k < equals p (q own) → k < equals p (joined q c s own)
among_joined q c s p k own among = by (own == c)
  where
    by : (t : Bool) → k < equals p (cond t (put_in (λ n. n) s (q own)) (q own))
    by true = omega (arith, among, count_by-put_in (λ r. r == p) s (q own))
    by false = among
