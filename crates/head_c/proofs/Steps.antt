-- What each step keeps of a head and the requests that wait for it.
use Rattle.std.proofs.Common.{◌≡◌, ◌≢◌, ℕ, ◌≤◌, List, [], None, true, arith, refl}
use Rattle.std.specs.Prelude.{nat_le, slice_index}
use Rattle.std.proofs.lemmas.Bool.Decides.{nat_tests}
use Rattle.std.specs.List.Sorted.{IsNonDecreasing}
use Rattle.hoare_law.specs.Priorities.{joined, taken}
use Rattle.sweep_schedulers.specs.declared.direction.Direction.{Direction}
use Rattle.sweep_schedulers.specs.declared.direction.Direction.TheVariants.{Up, Down}
use Rattle.sweep_schedulers.specs.Heads.{Disk, HeadRests, HeadReady, sweep, opposite, toward, priority_at}
use Rattle.sweep_schedulers.specs.Heads.{counted, due, sent, put, turned}
use Rattle.sweep_schedulers.proofs.Sweeps.{HeadRests-joined, HeadReady-first, HeadRests-granted, HeadRests-at_once}
use Rattle.sweep_schedulers.proofs.Sweeps.{HeadRests-nobody, HeadFree-due, HeadFree-turned, OnSweeps-due}
use Rattle.head_c.specs.Waits.{Rests, IsFree}

module _ (d : Disk (Unit {0})) (q : ℕ → List ℕ) where
  recounted : (n : ℕ) (r : ℕ → List ℕ) → HeadRests (due d n) (r 0) (r 1) → Rests d r
  recounted n r rests = record {
    inv = rests.inv;
    up_busy = rests.up_busy;
    down_busy = rests.down_busy;
    sweeps = OnSweeps-due (due d n) _ rests.sweeps;
    stay = λ out. refl;
  }

  -- a request joins the sweep that reaches its cylinder
  pub joins : (dest c p : ℕ) → Rests d q → d.drive ≡ None → dest ≤ d.cylmax → c ≡ sweep (toward dest d)
      → p ≡ priority_at d.cylmax (toward dest d) dest → Rests d (joined q c p)
  joins dest c p rests out on to with =
      recounted _ (joined q c p)
      (HeadRests-joined {d = counted d (q 0) (q 1)} q {d1 = counted d (q 0) (q 1)} rests out on refl to with)

  -- if the drive is in, no request waits, and rest holds after a request for dest gets the drive
  pub at_once : (dest : ℕ) → Rests d q → (d.drive ≡ None → ⊥) → dest ≤ d.cylmax → Rests (sent d dest) q
  at_once dest rests is_in on =
      HeadRests-at_once (counted d (q 0) (q 1)) (q 0) (q 1) dest is_in on rests

  -- a disk on which a request for dest would have to wait for the sweep in the direction dir
  abbrev before : Direction → ℕ → Disk (Unit {0})
  before dir dest = record d { headpos = dest; direction = opposite dir }

  to_before : (dir : Direction) (dest : ℕ) → toward dest (before dir dest) ≡ dir
  to_before Up dest = let same : nat_le dest dest ≡ true = grind (arith, nat_tests) in rw same refl
  to_before Down dest = let same : nat_le dest dest ≡ true = grind (arith, nat_tests) in rw same refl

  -- rest holds after the first request of the present sweep gets the drive
  pub goes_first : (dest : ℕ) → ((i : ℕ) → IsNonDecreasing (q i)) → IsFree d q → q (sweep d.direction) ≢ []
      → slice_index (q (sweep d.direction)) 0 ≡ priority_at d.cylmax d.direction dest → dest ≤ d.cylmax
      → Rests (sent d dest) (taken q (sweep d.direction))
  goes_first dest rise free some is on =
      let e : Disk (Unit {0}) = counted d (q 0) (q 1) in
      let c : ℕ = sweep d.direction in
      let ready : HeadReady c (slice_index (q c) 0) e (taken q c 0) (taken q c 1) =
      HeadReady-first {d = e} q {d1 = e} (HeadFree-due d e.stay free) refl rise refl refl some in
      let asked : Disk (Unit {0}) = before d.direction dest in
      let to : c ≡ sweep (toward dest asked) = rw (to_before d.direction dest) refl in
      let with : slice_index (q c) 0 ≡ priority_at asked.cylmax (toward dest asked) dest =
      rw (to_before d.direction dest) is in
      HeadRests-granted e (taken q c 0) (taken q c 1) {a = asked} {a1 = asked} {dest = dest} ready refl to with on refl

  -- the drive is free to be handed off after it was given back
  pub keeps : (drive : Unit {0}) → Rests d q → IsFree (put d drive) q
  keeps drive rests = record {
    inv = rests.inv;
    is_in = refl;
    sweeps = record {
      ups_on_disk = rests.sweeps.ups_on_disk;
      downs_on_disk = rests.sweeps.downs_on_disk;
      above = rests.sweeps.above;
      below = rests.sweeps.below;
    };
  }

  pub turns : (drive : Unit {0}) → Rests d q → IsFree (turned (put d drive)) q
  turns drive rests = HeadFree-turned (keeps drive rests)

  pub nobody_waits : IsFree d q → q 0 ≡ [] → q 1 ≡ [] → Rests d q
  nobody_waits free none other = by d.direction
    where
      e : Disk (Unit {0})
      e = counted d (q 0) (q 1)

      by : (dir : Direction) → Rests d q
      by Up = HeadRests-nobody {d = e} q Up none other (HeadFree-due d e.stay free)
      by Down = HeadRests-nobody {d = e} q Down other none (HeadFree-due d e.stay free)
