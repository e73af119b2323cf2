-- The number of grants due at the cylinder under the head: when a request joins, when a request is resumed, and when
-- the head moves.
use Rattle.std.proofs.Common.{◌≡◌, ◌≢◌, ◌==◌, ℕ, zero, suc, ◌+◌, ◌-◌, ◌<◌, ◌≤◌, List, [], Bool, true, false, cond}
use Rattle.std.proofs.Common.{Option, None, Some, count_by, ap, refl, sym, ◌∙◌, arith}
use Rattle.std.specs.Prelude.{All, MatchOption, slice_index}
use Rattle.std.specs.List.Sorted.{IsNonDecreasing}
use Rattle.std.proofs.lemmas.Bool.Decides.{nat_tests}
use Rattle.std.proofs.lemmas.List.Elements.{All-weaker}
use Rattle.hoare_law.specs.Priorities.{joined, put_in, behind_first}
use Rattle.sweep_schedulers.specs.declared.direction.Direction.{Direction}
use Rattle.sweep_schedulers.specs.declared.direction.Direction.TheVariants.{Up, Down}
use Rattle.sweep_schedulers.specs.Heads.{Disk, OnSweeps, HeadReady, sweep, moved, priority_at, cylinder_of, of_sweep}
use Rattle.sweep_schedulers.specs.Heads.{waiting_here, counted, due, one_granted}
use Rattle.sweep_schedulers.proofs.Lists.{All-first, count_by-passes, count_by-fails, count_by-first, count_by-mirrored}
use Rattle.sweep_schedulers.proofs.Lists.{count_by-above}

-- the number of these that wait for the sweep in this direction and the cylinder `here`
abbrev pub at_here : Direction → ℕ → ℕ → List ℕ → List ℕ → ℕ
at_here dir cylmax here ups downs = count_by (λ q. cylinder_of cylmax dir q == here) (of_sweep dir ups downs)

-- on the present sweep, as many requests have the priority of the cylinder under the head as wait for that cylinder
pub waiting_here-equal : {T : Type 0} (d : Disk T) (lists : ℕ → List ℕ) (c p : ℕ) → d.headpos ≤ d.cylmax
    → All (λ q. q ≤ d.cylmax) (lists 1) → c ≡ sweep d.direction → p ≡ priority_at d.cylmax d.direction d.headpos
    → count_by (λ q. q == p) (lists c) ≡ waiting_here d (lists 0) (lists 1)
waiting_here-equal d lists c p on all to with = rw (to, with) (by d.direction)
  where
    by : (dir : Direction) → count_by (λ q. q == priority_at d.cylmax dir d.headpos) (lists (sweep dir))
        ≡ at_here dir d.cylmax d.headpos (lists 0) (lists 1)
    by Up = refl
    by Down = count_by-mirrored d.cylmax d.headpos (lists 1) on all

-- a request for another cylinder, or for the other sweep, isn't counted
pub joined_here : (lists : ℕ → List ℕ) (present dir : Direction) (cylmax here dest : ℕ)
    → (present ≡ dir → here ≡ dest → ⊥) → dest ≤ cylmax
    → at_here present cylmax here (joined lists (sweep dir) (priority_at cylmax dir dest) 0)
    (joined lists (sweep dir) (priority_at cylmax dir dest) 1)
    ≡ at_here present cylmax here (lists 0) (lists 1)
joined_here lists Up Up cylmax here dest other on =
    let apart : (dest == here) ≡ false = let o : here ≢ dest = other refl in grind (arith, nat_tests) in
    count_by-fails (λ q. q == here) dest (lists 0) apart
joined_here lists Up Down cylmax here dest other on = refl
joined_here lists Down Up cylmax here dest other on = refl
joined_here lists Down Down cylmax here dest other on =
    let apart : (cylmax - (cylmax - dest) == here) ≡ false =
    let o : here ≢ dest = other refl in grind (arith, nat_tests) in
    count_by-fails (λ q. cylmax - q == here) (cylmax - dest) (lists 1) apart

-- if the first of the present sweep is removed and inserted again, the number of those that wait stays the same
pub up_first : (present : Direction) (cylmax here : ℕ) (ups downs : List ℕ) → present ≡ Up → ups ≢ []
    → at_here present cylmax here (put_in (λ n. n) (slice_index ups 0) (behind_first ups)) downs
    ≡ at_here present cylmax here ups downs
up_first Up cylmax here ups downs is some = count_by-first (λ q. q == here) ups some
up_first Down cylmax here ups downs is some = absurd (cc)

pub down_first : (present : Direction) (cylmax here : ℕ) (ups downs : List ℕ) → present ≡ Down → downs ≢ []
    → at_here present cylmax here ups (put_in (λ n. n) (slice_index downs 0) (behind_first downs))
    ≡ at_here present cylmax here ups downs
down_first Up cylmax here ups downs is some = absurd (cc)
down_first Down cylmax here ups downs is some = count_by-first (λ q. cylmax - q == here) downs some

-- one more request of the present sweep for the cylinder `here`
pub up_one : (present : Direction) (cylmax here : ℕ) (ups downs : List ℕ) → present ≡ Up
    → at_here present cylmax here (put_in (λ n. n) here ups) downs ≡ at_here present cylmax here ups downs + 1
up_one Up cylmax here ups downs is = count_by-passes (λ q. q == here) here ups (grind (arith, nat_tests))
up_one Down cylmax here ups downs is = absurd (cc)

pub down_one : (present : Direction) (cylmax here p : ℕ) (ups downs : List ℕ) → present ≡ Down → cylmax - p ≡ here
    → at_here present cylmax here ups (put_in (λ n. n) p downs) ≡ at_here present cylmax here ups downs + 1
down_one Up cylmax here p ups downs is for = absurd (cc)
down_one Down cylmax here p ups downs is for =
    let passes : (cylmax - p == here) ≡ true = grind (arith, nat_tests) in
    count_by-passes (λ q. cylmax - q == here) p downs passes

-- with one more request of the present sweep, one more is counted if it waits for the cylinder under the head
pub waiting_here-one : {T : Type 0} (d : Disk T) (ups downs : List ℕ) (p : ℕ) → d.headpos ≤ d.cylmax
    → p ≡ priority_at d.cylmax d.direction d.headpos
    → waiting_here d (put_in (λ n. n) p ups) (put_in (λ n. n) p downs) ≡ waiting_here d ups downs + 1
waiting_here-one d ups downs p on with = rw with (by d.direction)
  where
    by : (dir : Direction) → at_here dir d.cylmax d.headpos (put_in (λ n. n) (priority_at d.cylmax dir d.headpos) ups)
        (put_in (λ n. n) (priority_at d.cylmax dir d.headpos) downs)
        ≡ at_here dir d.cylmax d.headpos ups downs + 1
    by Up = up_one Up d.cylmax d.headpos ups downs refl
    by Down = down_one Down d.cylmax d.headpos (d.cylmax - d.headpos) ups downs refl (omega arith)

pub waiting_here-other : {T : Type 0} (d : Disk T) (ups downs : List ℕ) (p : ℕ) → d.headpos ≤ d.cylmax
    → p ≤ d.cylmax → p ≢ priority_at d.cylmax d.direction d.headpos
    → waiting_here d (put_in (λ n. n) p ups) (put_in (λ n. n) p downs) ≡ waiting_here d ups downs
waiting_here-other d ups downs p on within = by d.direction
  where
    by : (dir : Direction) → p ≢ priority_at d.cylmax dir d.headpos
        → at_here dir d.cylmax d.headpos (put_in (λ n. n) p ups) (put_in (λ n. n) p downs)
        ≡ at_here dir d.cylmax d.headpos ups downs
    by Up apart =
        let fails : (p == d.headpos) ≡ false = grind (arith, nat_tests) in
        count_by-fails (λ q. q == d.headpos) p ups fails
    by Down apart =
        let o : p ≢ d.cylmax - d.headpos = apart in
        let fails : (d.cylmax - p == d.headpos) ≡ false = grind (arith, nat_tests) in
        count_by-fails (λ q. d.cylmax - q == d.headpos) p downs fails

-- if the first of the present sweep waits for another cylinder, no request waits for the one under the head
none_first : (qs : List ℕ) (here : ℕ) (o : Option ℕ) → IsNonDecreasing qs → All (λ q. here ≤ q) qs
    → MatchOption o (qs ≡ []) (λ p. (qs ≢ []) × (p ≡ slice_index qs 0)) → o ≢ Some here
    → 0 ≡ count_by (λ q. q == here) qs
none_first qs here None rises before told other = rw told refl
none_first qs here (Some p) rises before told other =
    let apart : p ≢ here = λ same. other (ap Some same) in
    let least : here ≤ slice_index qs 0 = All-first (λ q. here ≤ q) qs told.0 before in
    let above : here < slice_index qs 0 = omega (arith, apart, least, told.1) in
    sym (count_by-above here qs rises told.0 above)

pub before_head : (dir : Direction) (cylmax here : ℕ) (lists : ℕ → List ℕ) → here ≤ cylmax
    → All (λ q. here ≤ q) (lists 0) → All (λ q. cylmax - q ≤ here) (lists 1)
    → All (λ q. priority_at cylmax dir here ≤ q) (lists (sweep dir))
before_head Up cylmax here lists on above below = above
before_head Down cylmax here lists on above below =
    All-weaker (λ q. cylmax - q ≤ here) (λ q. cylmax - here ≤ q) (λ q l. omega (arith, on, l)) (lists 1) below

pub waiting_here-none : {T : Type 0} (d : Disk T) (lists : ℕ → List ℕ) (c p : ℕ) (o : Option ℕ) → d.headpos ≤ d.cylmax
    → OnSweeps d (lists 0) (lists 1) → IsNonDecreasing (lists c) → c ≡ sweep d.direction
    → p ≡ priority_at d.cylmax d.direction d.headpos
    → MatchOption o (lists c ≡ []) (λ q. (lists c ≢ []) × (q ≡ slice_index (lists c) 0)) → o ≢ Some p
    → 0 ≡ waiting_here d (lists 0) (lists 1)
waiting_here-none d lists c p o on sweeps rises to with told other =
    let before : All (λ q. p ≤ q) (lists c) =
    rw (to, with) (before_head d.direction d.cylmax d.headpos lists on sweeps.above sweeps.below) in
    none_first (lists c) p o rises before told other ∙ waiting_here-equal d lists c p on sweeps.downs_on_disk to with

-- if the head stays, the due grants stay the same
pub counted-there : {T : Type 0} (d : Disk T) (ups downs : List ℕ) (dest : ℕ) → d.headpos ≡ dest
    → d.stay ≡ waiting_here d ups downs → d ≡ counted (moved d dest) ups downs
counted-there d ups downs dest here stay = rw (sym here) (ap (due d) stay)

-- a request that resumes is due no more
less_due : (dir : Direction) (cylmax here p stay : ℕ) (ups downs : List ℕ) (t : Bool) → here ≤ cylmax → p ≤ cylmax
    → (p == priority_at cylmax dir here) ≡ t
    → stay ≡ at_here dir cylmax here (put_in (λ n. n) p ups) (put_in (λ n. n) p downs)
    → cond t (stay - 1) stay ≡ at_here dir cylmax here ups downs
less_due Up cylmax here p stay ups downs true on within is counted_is =
    let passes : (p == here) ≡ true = is in
    omega (arith, counted_is, count_by-passes (λ q. q == here) p ups passes)
less_due Up cylmax here p stay ups downs false on within is counted_is =
    counted_is ∙ count_by-fails (λ q. q == here) p ups is
less_due Down cylmax here p stay ups downs true on within is counted_is =
    let passes : (cylmax - p == here) ≡ true = grind (arith, nat_tests) in
    omega (arith, counted_is, count_by-passes (λ q. cylmax - q == here) p downs passes)
less_due Down cylmax here p stay ups downs false on within is counted_is =
    let fails : (cylmax - p == here) ≡ false = grind (arith, nat_tests) in
    counted_is ∙ count_by-fails (λ q. cylmax - q == here) p downs fails

up_alone : (present : Direction) (cylmax here : ℕ) (ups downs others : List ℕ) → present ≡ Up
    → at_here present cylmax here ups downs ≡ at_here present cylmax here ups others
up_alone Up cylmax here ups downs others is = refl
up_alone Down cylmax here ups downs others is = absurd (cc)

down_alone : (present : Direction) (cylmax here : ℕ) (ups downs others : List ℕ) → present ≡ Down
    → at_here present cylmax here ups downs ≡ at_here present cylmax here others downs
down_alone Up cylmax here ups downs others is = absurd (cc)
down_alone Down cylmax here ups downs others is = refl

pub granted-stay : {T : Type 0} (d : Disk T) (c p : ℕ) (ups downs : List ℕ) → HeadReady c p d ups downs
    → (one_granted d p).stay ≡ waiting_here d ups downs
granted-stay d zero p ups downs r =
    less_due d.direction d.cylmax d.headpos p d.stay ups downs _ r.free.inv r.on_disk refl
    (r.stay ∙ up_alone d.direction d.cylmax d.headpos (put_in (λ n. n) p ups) downs _ r.direction)
granted-stay d (suc c) p ups downs r =
    less_due d.direction d.cylmax d.headpos p d.stay ups downs _ r.free.inv r.on_disk refl
    (r.stay ∙ down_alone d.direction d.cylmax d.headpos ups (put_in (λ n. n) p downs) _ r.direction)
