-- Results in the order of the jobs.
use Rattle.std.proofs.Common.{◌≡◌, ℕ, zero, suc, ◌+◌, ◌<◌, List, [], ◌∷◌, length, map, get_or, drop, true, false, ◌≢◌}
use Rattle.std.proofs.Common.{refl, ap, sym, ◌∙◌, subst, arith}
use Rattle.std.proofs.lemmas.List.Elements.{All-cons, All-head, All-tail}
use Rattle.std.proofs.lemmas.List.Sorted.{All-permutation, IsPermutation-sym, IsPermutation-trans}
use Rattle.std.specs.List.{All}
use Rattle.std.specs.List.Sorted.{IsNonDecreasingBy, IsPermutation}
use Rattle.disk_jobs.proofs.Sorted.{numbers-permutation}
use Rattle.disk_jobs.specs.Gatherings.{Agrees, AgreesInOrder}
use Rattle.disk_jobs.specs.Services.{Served, served, served_from}

pub length-served_from : (i : ℕ) (cs : List ℕ) → length (served_from i cs) ≡ length cs
length-served_from i [] = refl
length-served_from i (c ∷ cs) = ap suc (length-served_from (suc i) cs)

-- as the lines aren't as many as the jobs, they aren't those of the jobs
pub length-differs : (cs : List ℕ) (lines : List Served) → length lines ≢ length cs
    → (false ≡ true → lines ≡ served_from 0 cs) × (lines ≡ served_from 0 cs → false ≡ true)
length-differs cs lines h = ((λ f. cc), (λ e. absurd (h (ap length e ∙ length-served_from 0 cs))))

pub served_from-at : (i k : ℕ) (cs : List ℕ) (d : Served) → k < length cs
    → get_or (served_from i cs) k d ≡ served (i + k) (get_or cs k 0)
served_from-at i k [] d h = absurd (omega arith)
served_from-at i zero (c ∷ cs) d h = ap (λ v. served v c) (omega arith)
served_from-at i (suc k) (c ∷ cs) d h =
    served_from-at (suc i) k cs d (omega arith) ∙ ap (λ v. served v (get_or cs k 0)) (omega arith)

-- the cylinder of a job is what f gives for its number
abbrev HasCylinder : (ℕ → ℕ) → Served → Type 0
HasCylinder f d = d.cylinder ≡ f d.job

All-served_from : (f : ℕ → ℕ) (i : ℕ) (cs : List ℕ) → ((k : ℕ) → k < length cs → f (i + k) ≡ get_or cs k 0)
    → All (HasCylinder f) (served_from i cs)
All-served_from f i [] h = λ k d j. absurd (omega arith)
All-served_from f i (c ∷ cs) h =
    All-cons (HasCylinder f) (served i c) (served_from (suc i) cs) (sym (h 0 (omega arith)) ∙ ap f (omega arith))
    (All-served_from f (suc i) cs (λ k j. ap f (omega arith) ∙ h (suc k) (omega arith)))

-- results with the same numbers, each with its cylinder, are the same
same_jobs : (f : ℕ → ℕ) (xs ys : List Served) → map (λ (d : Served). d.job) xs ≡ map (λ (d : Served). d.job) ys
    → All (HasCylinder f) xs → All (HasCylinder f) ys
    → xs ≡ ys
same_jobs f [] [] e a b = refl
same_jobs f [] (y ∷ ys) e a b = absurd (omega (arith, ap length e))
same_jobs f (x ∷ xs) [] e a b = absurd (omega (arith, ap length e))
same_jobs f (x ∷ xs) (y ∷ ys) e a b =
    let j : x.job ≡ y.job = ap (λ v. get_or v 0 0) e in
    let c : x.cylinder ≡ y.cylinder =
    All-head (HasCylinder f) x xs a ∙ ap f j ∙ sym (All-head (HasCylinder f) y ys b) in
    let first : x ≡ y = ap (λ v. served v x.cylinder) j ∙ ap (served y.job) c in
    ap (λ v. v ∷ xs) first
    ∙ ap (λ v. y ∷ v)
    (same_jobs f xs ys (ap (λ v. drop 1 v) e) (All-tail (HasCylinder f) x xs a) (All-tail (HasCylinder f) y ys b))

served_from-rises : (cs : List ℕ) → IsNonDecreasingBy (λ (d : Served). d.job) (served_from 0 cs)
served_from-rises cs i j d h l =
    let n : length (served_from 0 cs) ≡ length cs = length-served_from 0 cs in
    let a = served_from-at 0 i cs d (omega arith) in
    let b = served_from-at 0 j cs d (omega arith) in
    rw (a, b) (omega (arith, h))

-- sorted by their numbers, results of the jobs are in the order of the jobs
pub sorted-in_order : (cs : List ℕ) (results lines : List Served) → IsPermutation results lines
    → IsNonDecreasingBy (λ (d : Served). d.job) lines
    → IsPermutation results (served_from 0 cs) → lines ≡ served_from 0 cs
sorted-in_order cs results lines p up q =
    let r : IsPermutation lines (served_from 0 cs) =
    IsPermutation-trans lines results (served_from 0 cs) (IsPermutation-sym results lines p) q in
    let has : All (HasCylinder (λ k. get_or cs k 0)) (served_from 0 cs) =
    All-served_from (λ k. get_or cs k 0) 0 cs (λ k h. ap (λ v. get_or cs v 0) (omega arith)) in
    same_jobs (λ k. get_or cs k 0) lines (served_from 0 cs)
    (numbers-permutation (λ (d : Served). d.job) lines (served_from 0 cs) up (served_from-rises cs) r)
    (All-permutation (HasCylinder (λ k. get_or cs k 0)) (served_from 0 cs) lines
    (IsPermutation-sym lines (served_from 0 cs) r) has) has

pub agrees-sorted : (cs : List ℕ) (results lines : List Served) (jobs sum done : ℕ) → IsPermutation results lines
    → IsNonDecreasingBy (λ (d : Served). d.job) lines → Agrees cs results jobs sum done
    → AgreesInOrder cs lines jobs sum done
agrees-sorted cs results lines jobs sum done p up a = record {
  in_order = sorted-in_order cs results lines p up a.each_once;
  jobs_are = a.jobs_are;
  sum_is = a.sum_is;
  done_are = a.done_are;
}

pub agrees-unsorted : (cs : List ℕ) (results lines : List Served) (jobs sum done : ℕ) → IsPermutation results lines
    → AgreesInOrder cs lines jobs sum done → Agrees cs results jobs sum done
agrees-unsorted cs results lines jobs sum done p a = record {
  each_once = subst (λ (v : List Served). IsPermutation results v) a.in_order p;
  jobs_are = a.jobs_are;
  sum_is = a.sum_is;
  done_are = a.done_are;
}

-- a line differs, so the lines aren't those of the jobs
pub differs-at : (cs : List ℕ) (lines : List Served) (i : ℕ) (d : Served) → length lines ≡ length cs → i < length lines
    → d ≡ get_or lines i d
    → (d.job ≡ i → d.cylinder ≡ get_or cs i 0 → ⊥) → lines ≡ served_from 0 cs → false ≡ true
differs-at cs lines i d n l is unlike e =
    let same : d ≡ served (0 + i) (get_or cs i 0) =
    is ∙ ap (λ v. get_or v i d) e ∙ served_from-at 0 i cs d (omega arith) in
    absurd (unlike (ap (λ (v : Served). v.job) same ∙ omega arith) (ap (λ (v : Served). v.cylinder) same))

-- lines that agree one by one are the same
pub same_at_each : (cs : List ℕ) (lines : List Served) → length lines ≡ length cs
    → ((k : ℕ) (d : Served) → k < length lines → get_or lines k d ≡ served k (get_or cs k 0)) → lines ≡ served_from 0 cs
same_at_each cs lines n h = each 0 cs lines n (λ k d l. h k d l ∙ ap (λ v. served v (get_or cs k 0)) (omega arith))
  where
    each : (i : ℕ) (cs : List ℕ) (lines : List Served) → length lines ≡ length cs
        → ((k : ℕ) (d : Served) → k < length lines → get_or lines k d ≡ served (i + k) (get_or cs k 0))
        → lines ≡ served_from i cs
    each i [] [] n h = refl
    each i [] (x ∷ xs) n h = absurd (omega arith)
    each i (c ∷ cs) [] n h = absurd (omega arith)
    each i (c ∷ cs) (x ∷ xs) n h =
        ap (λ v. v ∷ xs) (h 0 x (omega arith) ∙ ap (λ v. served v c) (omega arith))
        ∙ ap (λ v. served i c ∷ v)
        (each (suc i) cs xs (omega arith) (λ k d l. h (suc k) d (omega arith)
        ∙ ap (λ v. served v (get_or cs k 0)) (omega arith)))

-- lines in order are as many as the jobs
pub in_order_length : (cs : List ℕ) (lines : List Served) → lines ≡ served_from 0 cs → length lines ≡ length cs
in_order_length cs lines e = ap length e ∙ length-served_from 0 cs
