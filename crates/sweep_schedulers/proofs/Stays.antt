-- Each grant of a head that stays was counted as due.
use Rattle.std.proofs.Common.{◌≡◌, ◌≢◌, ◌==◌, ℕ, suc, ◌+◌, ◌∙◌, ◌-◌, ◌≤◌, List, [], ◌∷◌, Bool, true, None}
use Rattle.std.proofs.Common.{count_by, refl, arith}
use Rattle.std.specs.Prelude.{slice_index}
use Rattle.std.proofs.lemmas.Bool.Decides.{nat_tests}
use Rattle.hoare_law.specs.Priorities.{joined, taken, behind_first}
use Rattle.sweep_schedulers.specs.declared.direction.Direction.{Direction}
use Rattle.sweep_schedulers.specs.declared.direction.Direction.TheVariants.{Up, Down}
use Rattle.sweep_schedulers.specs.Heads.{Disk, HeadRests, sweep, cylinder_of, priority_at}
use Rattle.sweep_schedulers.specs.Stays.{Stays, none, joins, grants}
use Rattle.sweep_schedulers.proofs.Lists.{count_by-cons}
use Rattle.sweep_schedulers.proofs.Due.{at_here, up_one, down_one}

-- without the first, which waits here, one less waits here
less_one : (test : ℕ → Bool) (qs : List ℕ) → qs ≢ [] → test (slice_index qs 0) ≡ true
    → count_by test qs ≡ suc (count_by test (behind_first qs))
less_one test [] some passes = absurd (some refl)
less_one test (x ∷ qs) some passes = count_by-cons test x qs ∙ (rw passes (omega arith))

taken_here : (r : ℕ → List ℕ) (dir : Direction) (cylmax here : ℕ) → r (sweep dir) ≢ []
    → cylinder_of cylmax dir (slice_index (r (sweep dir)) 0) ≡ here
    → at_here dir cylmax here (r 0) (r 1)
    ≡ suc (at_here dir cylmax here (taken r (sweep dir) 0) (taken r (sweep dir) 1))
taken_here r Up cylmax here some is =
    let passes : (slice_index (r 0) 0 == here) ≡ true = grind (arith, nat_tests) in
    less_one (λ q. q == here) (r 0) some passes
taken_here r Down cylmax here some is =
    let passes : (cylmax - slice_index (r 1) 0 == here) ≡ true = grind (arith, nat_tests) in
    less_one (λ q. cylmax - q == here) (r 1) some passes

module _ {T : Type 0} {d : Disk T} {q : ℕ → List ℕ} where
  -- the drive stays out, and the lists rest
  out : {e : Disk T} {r : ℕ → List ℕ} {n : ℕ} → d.drive ≡ None → Stays d q e r n → e.drive ≡ None
  out is none = is
  out is (joins e r n c p so_far rests) = out is so_far
  out is (grants e r n drive so_far some here rests) = refl

  at_rest : {e : Disk T} {r : ℕ → List ℕ} {n : ℕ} → HeadRests d (q 0) (q 1) → Stays d q e r n → HeadRests e (r 0) (r 1)
  at_rest first none = first
  at_rest first (joins e r n c p so_far rests) = rests
  at_rest first (grants e r n drive so_far some here rests) = rests

  -- each grant is one that was due
  pub Stays-counted : {e : Disk T} {r : ℕ → List ℕ} {n : ℕ} → HeadRests d (q 0) (q 1) → d.drive ≡ None
      → Stays d q e r n → n + e.stay ≡ d.stay
  Stays-counted first is none = omega arith
  Stays-counted first is (joins e r n c p so_far rests) = Stays-counted first is so_far
  Stays-counted first is (grants e r n drive so_far some here rests) =
      let before : n + e.stay ≡ d.stay = Stays-counted first is so_far in
      let due = (at_rest first so_far).stay (out is so_far) in
      let fewer = taken_here r e.direction e.cylmax e.headpos some here in
      omega (arith, before, due, fewer)

-- one more request of the present sweep waits for the cylinder under the head
joined_one : (q : ℕ → List ℕ) (dir : Direction) (cylmax here : ℕ) → here ≤ cylmax
    → at_here dir cylmax here (joined q (sweep dir) (priority_at cylmax dir here) 0)
    (joined q (sweep dir) (priority_at cylmax dir here) 1)
    ≡ at_here dir cylmax here (q 0) (q 1) + 1
joined_one q Up cylmax here on = up_one Up cylmax here (q 0) (q 1) refl
joined_one q Down cylmax here on = down_one Down cylmax here (cylmax - here) (q 0) (q 1) refl (omega arith)

-- no request joins them: a further request for that cylinder and the present sweep breaks rest
pub nobody_joins : {T : Type 0} (d : Disk T) (q : ℕ → List ℕ) → HeadRests d (q 0) (q 1) → d.drive ≡ None
    → HeadRests d (joined q (sweep d.direction) (priority_at d.cylmax d.direction d.headpos) 0)
    (joined q (sweep d.direction) (priority_at d.cylmax d.direction d.headpos) 1) → ⊥
nobody_joins d q before out after =
    let more = joined_one q d.direction d.cylmax d.headpos before.inv in
    omega (arith, before.stay out, after.stay out, more)
