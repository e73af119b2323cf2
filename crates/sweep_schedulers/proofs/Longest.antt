-- A run in which a request waits as long as it may: on a disk of two cylinders, with at most two waiting requests.
use Rattle.std.proofs.Common.{◌≡◌, ℕ, ◌≤◌, ◌-◌, List, [], ◌∷◌, None, refl, arith}
use Rattle.std.proofs.lemmas.List.Elements.{All-nil, All-cons}
use Rattle.std.specs.Prelude.{All}
use Rattle.hoare_law.specs.Priorities.{joined, nobody, taken}
use Rattle.sweep_schedulers.specs.declared.direction.Direction.{Direction}
use Rattle.sweep_schedulers.specs.declared.direction.Direction.TheVariants.{Up, Down}
use Rattle.sweep_schedulers.specs.Heads.{Disk, HeadRests, OnSweeps, waiting_here}
use Rattle.sweep_schedulers.specs.Sweeps.{keeps, turns, by_other, Awaits, none, joins, grants, IsWaiting}

one : (P : ℕ → Type 0) (x : ℕ) → P x → All P (x ∷ [])
one P x h = All-cons P x [] h (All-nil P)

two : (P : ℕ → Type 0) (x y : ℕ) → P x → P y → All P (x ∷ y ∷ [])
two P x y h l = All-cons P x (y ∷ []) h (one P y l)

at_rest : {T : Type 0} (d : Disk T) (ups downs : List ℕ) → d.headpos ≤ d.cylmax → d.drive ≡ None
    → OnSweeps d ups downs → d.stay ≡ waiting_here d ups downs → HeadRests d ups downs
at_rest d ups downs inv out sweeps stay =
    record { inv = inv; up_busy = λ e. out; down_busy = λ e. out; sweeps = sweeps; stay = λ e. stay }

module _ {T : Type 0} (drive : T) where
  -- the disk, its drive out, with the head at this cylinder, sweeping in this direction, with `stay` grants due there
  abbrev head_at : ℕ → Direction → ℕ → Disk T
  head_at here dir stay = record { drive = None; headpos = here; direction = dir; cylmax = 1; stay = stay }

  -- one request waits at cylinder 0 for the way down, and another there for the way up, which is granted. A third joins
  -- at cylinder 1 and is granted, and a fourth joins there for the way down and is granted
  abbrev first_lists : ℕ → List ℕ
  first_lists = joined (joined nobody 0 0) 1 1

  abbrev third_waits : ℕ → List ℕ
  third_waits = joined (taken first_lists 0) 0 1

  abbrev fourth_waits : ℕ → List ℕ
  fourth_waits = joined (taken third_waits 0) 1 0

  waits_alone : (here : ℕ) (dir : Direction) → OnSweeps (head_at here dir 0) [] (1 ∷ [])
  waits_alone here dir = record {
    ups_on_disk = All-nil (λ p. p ≤ 1);
    downs_on_disk = one (λ p. p ≤ 1) 1 (omega arith);
    above = All-nil (λ p. here ≤ p);
    below = one (λ p. 1 - p ≤ here) 1 (omega arith);
  }

  waits_beside : (up stay : ℕ) → up ≤ 1 → OnSweeps (head_at 0 Up stay) (up ∷ []) (1 ∷ [])
  waits_beside up stay on = record {
    ups_on_disk = one (λ p. p ≤ 1) up on;
    downs_on_disk = one (λ p. p ≤ 1) 1 (omega arith);
    above = one (λ p. 0 ≤ p) up (omega arith);
    below = one (λ p. 1 - p ≤ 0) 1 (omega arith);
  }

  waits_behind : OnSweeps (head_at 1 Up 0) [] (0 ∷ 1 ∷ [])
  waits_behind = record {
    ups_on_disk = All-nil (λ p. p ≤ 1);
    downs_on_disk = two (λ p. p ≤ 1) 0 1 (omega arith) (omega arith);
    above = All-nil (λ p. 1 ≤ p);
    below = two (λ p. 1 - p ≤ 1) 0 1 (omega arith) (omega arith);
  }

  pub waits : IsWaiting 2 Down 1 0 (head_at 0 Up 1) first_lists
  waits = record {
    rests = at_rest (head_at 0 Up 1) (0 ∷ []) (1 ∷ []) (omega arith) refl (waits_beside 0 1 (omega arith)) refl;
    few = omega arith;
    among = omega arith;
  }

  last_grant : Awaits 2 Down 1 (head_at 1 Up 0) fourth_waits 0 1
  last_grant =
      grants (head_at 1 Up 0) (head_at 1 Down 0) fourth_waits 0 0 0 drive (turns refl) (by_other 0 (λ e. omega arith))
      (at_rest (head_at 1 Down 0) [] (1 ∷ []) (omega arith) refl (waits_alone 1 Down) refl)
      (none (head_at 1 Down 0) (taken fourth_waits 1) 0)

  fourth_joins : Awaits 2 Down 1 (head_at 1 Up 0) (taken third_waits 0) 0 1
  fourth_joins =
      joins (head_at 1 Up 0) (taken third_waits 0) 0 1 1 0
      (at_rest (head_at 1 Up 0) [] (0 ∷ 1 ∷ []) (omega arith) refl waits_behind refl) (omega arith) last_grant

  third_goes : Awaits 2 Down 1 (head_at 0 Up 0) third_waits 0 2
  third_goes =
      grants (head_at 0 Up 0) (head_at 0 Up 0) third_waits 0 0 1 drive (keeps (λ e. absurd (cc)))
      (by_other 0 (λ e. absurd (cc)))
      (at_rest (head_at 1 Up 0) [] (1 ∷ []) (omega arith) refl (waits_alone 1 Up) refl) fourth_joins

  third_joins : Awaits 2 Down 1 (head_at 0 Up 0) (taken first_lists 0) 0 2
  third_joins =
      joins (head_at 0 Up 0) (taken first_lists 0) 0 2 0 1
      (at_rest (head_at 0 Up 0) (1 ∷ []) (1 ∷ []) (omega arith) refl (waits_beside 1 0 (omega arith)) refl)
      (omega arith) third_goes

  pub meanwhile : Awaits 2 Down 1 (head_at 0 Up 1) first_lists 0 3
  meanwhile =
      grants (head_at 0 Up 1) (head_at 0 Up 1) first_lists 0 0 2 drive (keeps (λ e. absurd (cc)))
      (by_other 0 (λ e. absurd (cc)))
      (at_rest (head_at 0 Up 0) [] (1 ∷ []) (omega arith) refl (waits_alone 0 Up) refl) third_joins
