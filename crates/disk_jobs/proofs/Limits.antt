-- Jobs in their limits.
use Rattle.std.proofs.Common.{◌≡◌, ℕ, ◌+◌, ◌<◌, ◌≤◌, Bool, true, false, cond, List, [], ◌∷◌, length, Option, Some, None}
use Rattle.std.proofs.Common.{Ok, Err, refl, ap, subst, arith, length-append}
use Rattle.std.proofs.lemmas.Bool.Decides.{nat_tests}
use Rattle.std.specs.Result.{IsOkAnd}
use Rattle.std.specs.Prelude.{codes}
use Rattle.line_text.specs.Forms.{one_number, two_numbers}
use Rattle.disk_jobs.specs.declared.fault.ServiceFault.{ServiceFault}
use Rattle.disk_jobs.specs.JobLists.{JobList, IsInLimits, refusal_of, with_job}
use Rattle.disk_jobs.specs.JobTexts.{Outcome, header_line, job_line, one_line}
use Rattle.disk_jobs.specs.Readings.{Follows, lines_of}

-- what is not refused is in the limits
pub refusal_of-none : (j : JobList) → refusal_of j ≡ None → IsInLimits j
unfolding refusal_of
refusal_of-none j h =
    record { some = grind (arith, nat_tests); few = grind (arith, nat_tests); room = grind (arith, nat_tests) }

-- if the result of a test is `Ok`, the jobs passed it, and the result has these jobs
cond-ok : (b : Bool) (k j : JobList) (f : ServiceFault) → cond b (Ok k) (Err f) ≡ Ok j → (b ≡ true) × (k ≡ j)
cond-ok true k j f e = (refl, subst (λ (v : Outcome). IsOkAnd v (λ x. k ≡ x)) e refl)
cond-ok false k j f e = absurd (subst (λ (v : Outcome). NotOk v) e tt)
  where
    NotOk : Outcome → Type 0
    NotOk (Ok k) = ⊥
    NotOk (Err f) = Unit {0}

-- each good line adds one to the lines that the jobs come from
header-counts : (i : ℕ) (n : Option (ℕ × ℕ)) (j : JobList) → header_line i n ≡ Ok j → lines_of (Some j) ≡ 1
header-counts i None j e = cc
header-counts i (Some n) j e =
    let k = cond-ok _ _ j _ e in
    omega (arith, ap (λ (v : JobList). length v.cylinders) k.1)

job-counts : (i : ℕ) (s : JobList) (n : Option ℕ) (j : JobList) → job_line s i n ≡ Ok j
    → (lines_of (Some j) ≡ lines_of (Some s) + 1) × (lines_of (Some j) ≤ 4097)
job-counts i s None j e = cc
job-counts i s (Some c) j e =
    let k = cond-ok _ _ j _ e in
    let n : length s.cylinders < 4096 = grind (arith, nat_tests, k.0) in
    let m : length j.cylinders ≡ length s.cylinders + 1 =
    omega (arith, ap (λ (v : JobList). length v.cylinders) k.1, length-append s.cylinders (c ∷ [])) in
    (omega arith, omega arith)

pub one_line-counts : (s s' : Option JobList) (i : ℕ) (l : List ℕ) → Follows (one_line s i l) i s' (Ok tt)
    → (lines_of s' ≡ lines_of s + 1) × (lines_of s' ≤ 4097)
unfolding one_line
one_line-counts s None i l o = absurd o
one_line-counts None (Some j) i l o =
    let e = header-counts i (two_numbers (codes "disk") l) j o in (omega arith, omega arith)
one_line-counts (Some s) (Some j) i l o = job-counts i s (one_number (codes "read") l) j o

-- a job that is accepted
pub job_line-good : (j : JobList) (i c : ℕ) (n : Option ℕ) → n ≡ Some c → c ≤ j.cylmax → length j.cylinders < 4096
    → job_line j i n ≡ Ok (with_job j c)
job_line-good j i c n e h l = rw e (grind (arith, nat_tests))
