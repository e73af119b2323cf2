-- The number of grants made before that of a request: each run of the steps is one of a `Head` whose due grants are
-- counted.
use Rattle.std.proofs.Common.{◌≡◌, ℕ, ◌+◌, ◌-◌, ◌*◌, ◌<◌, ◌≤◌, ◌==◌, List, None, count_by, refl, subst, sym}
use Rattle.std.proofs.Common.{arith}
use Rattle.hoare_law.specs.Priorities.{joined, taken}
use Rattle.sweep_schedulers.specs.declared.direction.Direction.{Direction}
use Rattle.sweep_schedulers.specs.declared.direction.Direction.TheVariants.{Up, Down}
use Rattle.sweep_schedulers.specs.Heads.{Disk, HeadRests, sweep, toward, priority_at, cylinder_of, counted, due, put}
use Rattle.sweep_schedulers.specs.Heads.{sent, turned, waiting_here}
use Rattle.sweep_schedulers.specs.Sweeps as sweeps
use Rattle.sweep_schedulers.specs.Sweeps.{AtMost, Awaits, IsWaiting, first, grants_before}
use Rattle.sweep_schedulers.proofs.Sweeps.{HeadRests-joined}
use Rattle.sweep_schedulers.proofs.Granted.{in_time, at_most}
use Rattle.head_c.specs.Waits.{Rests}
use Rattle.head_c.specs.Meanwhile.{Meanwhile, none, asks, grants}
use Rattle.head_c.proofs.Steps as steps

asked_for : (cylmax dest : ℕ) (dir : Direction) → dest ≤ cylmax
    → cylinder_of cylmax dir (priority_at cylmax dir dest) ≡ dest
asked_for cylmax dest Up on = refl
asked_for cylmax dest Down on = omega (arith, on)

-- a request that begins to wait doesn't join those whose grants are due
joins_none : (d : Disk (Unit {0})) (q : ℕ → List ℕ) (cylinder : ℕ) → Rests d q → d.drive ≡ None
    → cylinder ≤ d.cylmax
    → (let r = joined q (sweep (toward cylinder d)) (priority_at d.cylmax (toward cylinder d) cylinder) in
    HeadRests (counted d (q 0) (q 1)) (r 0) (r 1))
joins_none d q cylinder rests out on =
    HeadRests-joined {d = counted d (q 0) (q 1)} q {d1 = counted d (q 0) (q 1)} rests out on refl refl refl

module _ (m p : ℕ) (own : Direction) where
  pub run : (d : Disk (Unit {0})) (q : ℕ → List ℕ) {k n : ℕ} → Rests d q → Meanwhile m own p d q k n
      → Awaits m own p (counted d (q 0) (q 1)) q k n
  run d q rests (none e r k) = sweeps.none (counted d (q 0) (q 1)) q k
  run d q rests (asks e r k n cylinder out on few later) =
      let c : ℕ = sweep (toward cylinder d) in
      let s : ℕ = priority_at d.cylmax (toward cylinder d) cylinder in
      let more : HeadRests (counted d (q 0) (q 1)) (joined q c s 0) (joined q c s 1) =
      joins_none d q cylinder rests out on in
      let as_many : waiting_here d (joined q c s 0) (joined q c s 1) ≡ waiting_here d (q 0) (q 1) =
      sym (more.stay out) in
      let after : Awaits m own p (due d (waiting_here d (joined q c s 0) (joined q c s 1))) (joined q c s) k n =
      run d (joined q c s) (steps.joins d q cylinder c s rests out on refl refl) later in
      sweeps.joins (counted d (q 0) (q 1)) q k n c s more few
      (subst (λ i. Awaits m own p (due d i) (joined q c s) k n) as_many after)
  run d q rests (grants e f r k j n cylinder (sweeps.keeps some) waits rise is on passed later) =
      let to : cylinder_of d.cylmax d.direction (first d.direction q) ≡ cylinder =
      rw is (asked_for d.cylmax cylinder d.direction on) in
      let next : Rests (sent (put d tt) cylinder) (taken q (sweep d.direction)) =
      steps.goes_first (put d tt) q cylinder rise (steps.keeps d q tt rests) waits is on in
      sweeps.grants (counted d (q 0) (q 1)) (counted d (q 0) (q 1)) q k j n tt (sweeps.keeps some) passed
      (rw to next) (rw to (run (sent (put d tt) cylinder) (taken q (sweep d.direction)) next later))
  run d q rests (grants e f r k j n cylinder (sweeps.turns nobody) waits rise is on passed later) =
      let dir : Direction = (turned d).direction in
      let to : cylinder_of d.cylmax dir (first dir q) ≡ cylinder = rw is (asked_for d.cylmax cylinder dir on) in
      let next : Rests (sent (turned (put d tt)) cylinder) (taken q (sweep dir)) =
      steps.goes_first (turned (put d tt)) q cylinder rise (steps.turns d q tt rests) waits is on in
      sweeps.grants (counted d (q 0) (q 1)) (turned (counted d (q 0) (q 1))) q k j n tt (sweeps.turns nobody) passed
      (rw to next) (rw to (run (sent (turned (put d tt)) cylinder) (taken q (sweep dir)) next later))

  pub before : (d : Disk (Unit {0})) (q : ℕ → List ℕ) {k n : ℕ} → Rests d q → AtMost m q
      → k < count_by (λ s. s == p) (q (sweep own)) → Meanwhile m own p d q k n
      → n ≤ grants_before m (counted d (q 0) (q 1)) own p k
  before d q rests few among meanwhile =
      in_time m p own (counted d (q 0) (q 1)) q (record { rests = rests; few = few; among = among })
      (run d q rests meanwhile)

  pub most : (d : Disk (Unit {0})) (q : ℕ → List ℕ) {k n : ℕ} → Rests d q → AtMost m q
      → k < count_by (λ s. s == p) (q (sweep own)) → Meanwhile m own p d q k n
      → n ≤ (2 * d.cylmax + 1) * (m - 1)
  most d q rests few among meanwhile =
      at_most m p own (counted d (q 0) (q 1)) q (record { rests = rests; few = few; among = among })
      (run d q rests meanwhile)
