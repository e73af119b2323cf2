-- The position of a priority that is put in its rising place, and what users ask of joined and taken lists.
use Rattle.std.proofs.Common.{◌≡◌, ◌≢◌, Bool, ℕ, zero, suc, ◌-◌, ◌<◌, ◌≤◌, List, [], ◌∷◌, length, get_or, true, false}
use Rattle.std.proofs.Common.{cond, leb, refl, arith, sub-one}
use Rattle.std.proofs.lemmas.Grind.{common_steps}
use Rattle.hoare_law.specs.Priorities.{put_in, behind_first}
use Rattle.std.proofs.lemmas.Bool.Decides.{nat_tests}
use Rattle.hoare_law.proofs.Sorted.{length-put_in, put_in-some}

pub put_in_before : (p : ℕ) (qs : List ℕ) (i : ℕ) → i < length qs → ((j : ℕ) → j < i → get_or qs j 0 ≤ p)
    → get_or qs i 0 ≤ p → get_or (put_in (λ n. n) p qs) i 0 ≡ get_or qs i 0
put_in_before p [] i h below here = grind (arith, common_steps)
put_in_before p (q ∷ qs) zero h below here = grind (arith, common_steps)
put_in_before p (q ∷ qs) (suc i) h below here =
    let b : q ≤ p = below 0 (omega arith) in
    let r : get_or (put_in (λ n. n) p qs) i 0 ≡ get_or qs i 0 =
    put_in_before p qs i (omega arith) (λ j l. below (suc j) (omega arith)) here in
    grind (arith, common_steps)

pub put_in_at : (p : ℕ) (qs : List ℕ) (i : ℕ) → i ≤ length qs → ((j : ℕ) → j < i → get_or qs j 0 ≤ p)
    → (i < length qs → p < get_or qs i 0) → get_or (put_in (λ n. n) p qs) i 0 ≡ p
put_in_at p [] i h below above = grind (arith, common_steps)
put_in_at p (q ∷ qs) zero h below above = let b : p < q = above (omega arith) in grind (arith, common_steps)
put_in_at p (q ∷ qs) (suc i) h below above =
    let b : q ≤ p = below 0 (omega arith) in
    let r : get_or (put_in (λ n. n) p qs) i 0 ≡ p =
    put_in_at p qs i (omega arith) (λ j l. below (suc j) (omega arith)) (λ l. above (omega arith)) in
    grind (arith, common_steps)

pub put_in_behind : (p : ℕ) (qs : List ℕ) (i j : ℕ) → j ≤ i → i < length qs → p < get_or qs j 0
    → get_or (put_in (λ n. n) p qs) (suc i) 0 ≡ get_or qs i 0
put_in_behind p [] i j h l above = absurd (omega arith)
put_in_behind p (q ∷ qs) i zero h l above = let e : leb q p ≡ false = grind arith in rw e
put_in_behind p (q ∷ qs) zero (suc j) h l above = absurd (omega arith)
put_in_behind p (q ∷ qs) (suc i) (suc j) h l above =
    let r : get_or (put_in (λ n. n) p qs) (suc i) 0 ≡ get_or qs i 0 =
    put_in_behind p qs i j (omega arith) (omega arith) above in
    elim (leb q p) as (λ b. get_or (cond b (q ∷ put_in (λ n. n) p qs) (p ∷ q ∷ qs)) (suc (suc i)) 0
    ≡ get_or (q ∷ qs) (suc i) 0) [ true ↦ r | false ↦ refl ]

pub put_in_behind_one : (p : ℕ) (qs : List ℕ) (i j : ℕ) → j < i → i < length (put_in (λ n. n) p qs) → p < get_or qs j 0
    → get_or (put_in (λ n. n) p qs) i 0 ≡ get_or qs (i - 1) 0
put_in_behind_one p qs zero j h l above = absurd (omega arith)
put_in_behind_one p qs (suc i) j h l above =
    rw sub-one (put_in_behind p qs i j (omega arith) (omega (arith, length-put_in (λ n. n) p qs)) above)

pub ruleset joined_steps = (length-put_in, put_in_before, put_in_at, put_in_behind_one)

-- What users' own waits and signals ask of lists: how many processes wait after a wait or a signal, and that one does.
-- A function whose `rest` or `ready` counts the waiters is proved with the attribute
--     #[tactic(auto, using(hoare_law::proofs::Joined::waiting_steps))]
-- (`joined q c p c` computes to `put_in (λ n. n) p (q c)`, and `taken q c c` to `behind_first (q c)`.)
pub length-behind_first : (xs : List ℕ) → length (behind_first xs) ≡ length xs - 1
length-behind_first [] = refl
length-behind_first (x ∷ xs) = grind (arith, common_steps)

pub length-some : (xs : List ℕ) → xs ≢ [] → 0 < length xs
length-some [] some = absurd (some refl)
length-some (x ∷ xs) some = grind (arith, common_steps)

pub length-none : (xs : List ℕ) → xs ≡ [] → length xs ≡ 0
length-none xs none = rw none refl

-- the first of a list with p put in is at most p
pub first-put_in : (p : ℕ) (qs : List ℕ) → get_or (put_in (λ n. n) p qs) 0 0 ≤ p
first-put_in p [] = omega arith
first-put_in p (q ∷ qs) = by (leb q p) refl
  where
    by : (t : Bool) → leb q p ≡ t → get_or (cond t (q ∷ put_in (λ n. n) p qs) (p ∷ q ∷ qs)) 0 0 ≤ p
    by true is = grind (arith, nat_tests)
    by false is = omega arith

pub ruleset waiting_steps = (length-put_in, put_in-some, length-behind_first, length-some, length-none, first-put_in)
