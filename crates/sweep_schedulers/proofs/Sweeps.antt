-- What a disk head keeps of its waiting requests: when a request joins, when a request is granted, and when the drive
-- is handed off.
use Rattle.std.proofs.Common.{◌≡◌, ◌≢◌, ℕ, zero, suc, ◌+◌, ◌-◌, ◌≤◌, List, [], ◌∷◌, Bool, true, false, cond, leb}
use Rattle.std.proofs.Common.{Option, Some, None, refl, sym, ◌∙◌, arith}
use Rattle.std.specs.Prelude.{IsSome, slice_index}
use Rattle.std.specs.List.Sorted.{IsNonDecreasing}
use Rattle.std.proofs.lemmas.Bool.Decides.{nat_tests}
use Rattle.std.proofs.lemmas.List.Elements.{All-weaker}
use Rattle.hoare_law.specs.declared.event.History.{History}
use Rattle.hoare_law.specs.declared.event.Event.TheVariants.{Wait, Resume}
use Rattle.hoare_law.specs.Growth.{AddsTwo, Finishes}
use Rattle.hoare_law.specs.Waiting.{waiting}
use Rattle.hoare_law.specs.Sizes.{IsHoare}
use Rattle.hoare_law.specs.Priorities.{joined, taken, priorities}
use Rattle.hoare_law.proofs.Sorted.{All-put_in, All-behind_first}
use Rattle.sweep_schedulers.specs.declared.direction.Direction.{Direction}
use Rattle.sweep_schedulers.specs.declared.direction.Direction.TheVariants.{Up, Down}
use Rattle.sweep_schedulers.specs.Heads.{Disk, OnSweeps, HeadRests, HeadReady, HeadFree, sweep, opposite, turned, sent}
use Rattle.sweep_schedulers.specs.Heads.{toward, priority_at, waiting_here, counted, due}
use Rattle.sweep_schedulers.specs.HeadTraces.{Reaches, waited, HandsOn, keeps, turns}
use Rattle.sweep_schedulers.proofs.Lists.{All-others, All-first}
use Rattle.sweep_schedulers.proofs.Due.{at_here, joined_here, up_first, down_first, up_one, down_one}

-- dest is ahead of the head in this direction, or under it
abbrev IsAhead : {T : Type 0} → Disk T → Direction → ℕ → Type 0
IsAhead d Up dest = d.headpos ≤ dest
IsAhead d Down dest = dest ≤ d.headpos

ahead_by : {T : Type 0} (d : Disk T) (dest : ℕ) (low high : Bool) (dir : Direction)
    → leb d.headpos dest ≡ low → leb dest d.headpos ≡ high
    → IsAhead d (cond low (cond high (opposite dir) Up) Down) dest
ahead_by d dest true true Up e f = grind (arith, nat_tests)
ahead_by d dest true true Down e f = grind (arith, nat_tests)
ahead_by d dest true false dir e f = grind (arith, nat_tests)
ahead_by d dest false high dir e f = grind (arith, nat_tests)

-- the sweep that reaches dest has it ahead of the head, or under it
toward_ahead : {T : Type 0} (d : Disk T) (dest : ℕ) → IsAhead d (toward dest d) dest
toward_ahead d dest = ahead_by d dest (leb d.headpos dest) (leb dest d.headpos) d.direction refl refl

-- the sweep that reaches a cylinder isn't the present one if the head is there
other_by : {T : Type 0} (d : Disk T) (dest : ℕ) (low high : Bool) (dir : Direction)
    → leb d.headpos dest ≡ low → leb dest d.headpos ≡ high → dir ≡ cond low (cond high (opposite dir) Up) Down
    → d.headpos ≡ dest → ⊥
other_by d dest true true Up e f same here = cc
other_by d dest true true Down e f same here = cc
other_by d dest true false dir e f same here = grind (arith, nat_tests)
other_by d dest false high dir e f same here = grind (arith, nat_tests)

toward_other : {T : Type 0} (d : Disk T) (dest : ℕ) → d.direction ≡ toward dest d → d.headpos ≡ dest → ⊥
toward_other d dest = other_by d dest (leb d.headpos dest) (leb dest d.headpos) d.direction refl refl

-- a drive isn't both out and in
not_both : {X : Type 0} (o : Option X) → o ≡ None → IsSome o → ⊥
not_both None out some = cc
not_both (Some x) out some = cc

module _ {T : Type 0} {d : Disk T} (lists : ℕ → List ℕ) where
  -- rest holds with one more request, for a cylinder ahead of the head, or under it and on the other sweep
  rests_by : (dir : Direction) (dest : ℕ) → IsAhead d dir dest → (d.direction ≡ dir → d.headpos ≡ dest → ⊥)
      → dest ≤ d.cylmax → d.drive ≡ None → HeadRests d (lists 0) (lists 1)
      → HeadRests d (joined lists (sweep dir) (priority_at d.cylmax dir dest) 0)
      (joined lists (sweep dir) (priority_at d.cylmax dir dest) 1)
  rests_by Up dest ahead other on busy r = record {
    inv = r.inv;
    up_busy = λ some. busy;
    down_busy = λ some. busy;
    sweeps = record {
      ups_on_disk = All-put_in (λ p. p ≤ d.cylmax) dest (lists 0) on r.sweeps.ups_on_disk;
      downs_on_disk = r.sweeps.downs_on_disk;
      above = All-put_in (λ p. d.headpos ≤ p) dest (lists 0) ahead r.sweeps.above;
      below = r.sweeps.below;
    };
    stay = λ out. r.stay out ∙ sym (joined_here lists d.direction Up d.cylmax d.headpos dest other on);
  }
  rests_by Down dest ahead other on busy r = record {
    inv = r.inv;
    up_busy = λ some. busy;
    down_busy = λ some. busy;
    sweeps = record {
      ups_on_disk = r.sweeps.ups_on_disk;
      downs_on_disk = All-put_in (λ p. p ≤ d.cylmax) (d.cylmax - dest) (lists 1) (omega arith) r.sweeps.downs_on_disk;
      above = r.sweeps.above;
      below = All-put_in (λ p. d.cylmax - p ≤ d.headpos) (d.cylmax - dest) (lists 1) (omega arith) r.sweeps.below;
    };
    stay = λ out. r.stay out ∙ sym (joined_here lists d.direction Down d.cylmax d.headpos dest other on);
  }

  -- a request joins the sweep that reaches its cylinder
  pub HeadRests-joined : {d1 : Disk T} {c p dest : ℕ} → HeadRests d (lists 0) (lists 1) → d.drive ≡ None
      → dest ≤ d.cylmax → d1 ≡ d → c ≡ sweep (toward dest d1)
      → p ≡ priority_at d1.cylmax (toward dest d1) dest → HeadRests d (joined lists c p 0) (joined lists c p 1)
  HeadRests-joined {c = c} {p = p} {dest = dest} r busy on same to with =
      let sweeps : c ≡ sweep (toward dest d) = rw same at to in
      let urgent : p ≡ priority_at d.cylmax (toward dest d) dest = rw same at with in
      rw (sweeps, urgent) (rests_by (toward dest d) dest (toward_ahead d dest) (toward_other d dest) on busy r)

  -- with the drive in, the first of the present sweep may resume
  first_by : (dir : Direction) → d.direction ≡ dir → ((i : ℕ) → IsNonDecreasing (lists i)) → lists (sweep dir) ≢ []
      → HeadFree d (lists 0) (lists 1) → d.stay ≡ waiting_here d (lists 0) (lists 1)
      → HeadReady (sweep dir) (slice_index (lists (sweep dir)) 0) d (taken lists (sweep dir) 0)
      (taken lists (sweep dir) 1)
  first_by Up is rise some f stay = record {
    free = record {
      inv = f.inv;
      is_in = f.is_in;
      sweeps = record {
        ups_on_disk = All-others (λ p. p ≤ d.cylmax) (lists 0) f.sweeps.ups_on_disk;
        downs_on_disk = f.sweeps.downs_on_disk;
        above = All-others (λ p. d.headpos ≤ p) (lists 0) f.sweeps.above;
        below = f.sweeps.below;
      };
    };
    on_disk = All-first (λ p. p ≤ d.cylmax) (lists 0) some f.sweeps.ups_on_disk;
    first = All-behind_first (lists 0) (rise 0) some;
    direction = is;
    above = All-first (λ p. d.headpos ≤ p) (lists 0) some f.sweeps.above;
    stay = stay ∙ sym (up_first d.direction d.cylmax d.headpos (lists 0) (lists 1) is some);
  }
  first_by Down is rise some f stay = record {
    free = record {
      inv = f.inv;
      is_in = f.is_in;
      sweeps = record {
        ups_on_disk = f.sweeps.ups_on_disk;
        downs_on_disk = All-others (λ p. p ≤ d.cylmax) (lists 1) f.sweeps.downs_on_disk;
        above = f.sweeps.above;
        below = All-others (λ p. d.cylmax - p ≤ d.headpos) (lists 1) f.sweeps.below;
      };
    };
    on_disk = All-first (λ p. p ≤ d.cylmax) (lists 1) some f.sweeps.downs_on_disk;
    first = All-behind_first (lists 1) (rise 1) some;
    direction = is;
    below = All-first (λ p. d.cylmax - p ≤ d.headpos) (lists 1) some f.sweeps.below;
    stay = stay ∙ sym (down_first d.direction d.cylmax d.headpos (lists 0) (lists 1) is some);
  }

  pub HeadReady-first : {d1 : Disk T} {c : ℕ} → HeadFree d (lists 0) (lists 1)
      → d.stay ≡ waiting_here d (lists 0) (lists 1) → ((i : ℕ) → IsNonDecreasing (lists i)) → d1 ≡ d
      → c ≡ sweep d1.direction → lists c ≢ []
      → HeadReady c (slice_index (lists c) 0) d (taken lists c 0) (taken lists c 1)
  HeadReady-first {c = c} f stay rise same is some =
      let on : c ≡ sweep d.direction = rw same at is in
      rw on (first_by d.direction refl rise (rw on at some) f stay)

  -- with the drive in, rest holds if no request waits for either sweep
  pub HeadRests-nobody : (dir : Direction) → lists (sweep dir) ≡ [] → lists (sweep (opposite dir)) ≡ []
      → HeadFree d (lists 0) (lists 1)
      → HeadRests d (lists 0) (lists 1)
  HeadRests-nobody Up none other f = record {
    inv = f.inv;
    up_busy = λ some. absurd (some none);
    down_busy = λ some. absurd (some other);
    sweeps = f.sweeps;
    stay = λ out. absurd (not_both _ out f.is_in);
  }
  HeadRests-nobody Down none other f = record {
    inv = f.inv;
    up_busy = λ some. absurd (some other);
    down_busy = λ some. absurd (some none);
    sweeps = f.sweeps;
    stay = λ out. absurd (not_both _ out f.is_in);
  }

-- however many are counted as due, each waiting request waits for a cylinder ahead of the head or under it
pub OnSweeps-due : {T : Type 0} (d : Disk T) (n : ℕ) {ups downs : List ℕ} → OnSweeps d ups downs
    → OnSweeps (due d n) ups downs
OnSweeps-due d n s = record {
  ups_on_disk = s.ups_on_disk;
  downs_on_disk = s.downs_on_disk;
  above = s.above;
  below = s.below;
}

pub HeadFree-due : {T : Type 0} (d : Disk T) (n : ℕ) {ups downs : List ℕ} → HeadFree d ups downs
    → HeadFree (due d n) ups downs
HeadFree-due d n f = record { inv = f.inv; is_in = f.is_in; sweeps = OnSweeps-due d n f.sweeps }

-- a request that waited finds the drive in
pub HeadReady-free : {T : Type 0} (d : Disk T) (c p : ℕ) (ups downs : List ℕ) → HeadReady c p d ups downs
    → HeadFree d ups downs
HeadReady-free d zero p ups downs r = r.free
HeadReady-free d (suc c) p ups downs r = r.free

-- a drive that is in stays in when the head turns
pub HeadFree-turned : {T : Type 0} {d : Disk T} {ups downs : List ℕ} → HeadFree d ups downs
    → HeadFree (turned d) ups downs
HeadFree-turned f = record {
  inv = f.inv;
  is_in = f.is_in;
  sweeps = record {
    ups_on_disk = f.sweeps.ups_on_disk;
    downs_on_disk = f.sweeps.downs_on_disk;
    above = f.sweeps.above;
    below = f.sweeps.below;
  };
}

-- a sweep's condition is one of the two, both of which are Hoare's
pub sweep_hoare : (dir : Direction) → IsHoare 2 0 (sweep dir)
sweep_hoare Up = omega arith
sweep_hoare Down = omega arith

module _ {T : Type 0} (found : Disk T) (ups downs : List ℕ) where
  -- rest holds once the head is at the cylinder of the granted request, which was the first ahead of the head
  pub granted_by : (dir : Direction) (dest cylmax : ℕ) → dest ≤ cylmax → found.cylmax ≡ cylmax
      → HeadReady (sweep dir) (priority_at cylmax dir dest) found ups downs
      → HeadRests (counted (sent found dest) ups downs) ups downs
  granted_by Up dest cylmax on same r = record {
    inv = omega arith;
    up_busy = λ some. refl;
    down_busy = λ some. refl;
    sweeps = record {
      ups_on_disk = r.free.sweeps.ups_on_disk;
      downs_on_disk = r.free.sweeps.downs_on_disk;
      above = r.first;
      below = All-weaker (λ p. found.cylmax - p ≤ found.headpos) (λ p. found.cylmax - p ≤ dest)
          (λ p l. omega (arith, r.above)) downs r.free.sweeps.below;
    };
    stay = λ out. refl;
  }
  granted_by Down dest cylmax on same r = record {
    inv = omega arith;
    up_busy = λ some. refl;
    down_busy = λ some. refl;
    sweeps = record {
      ups_on_disk = r.free.sweeps.ups_on_disk;
      downs_on_disk = r.free.sweeps.downs_on_disk;
      above = All-weaker (λ p. found.headpos ≤ p) (λ p. dest ≤ p)
          (λ p l. omega (arith, r.below)) ups r.free.sweeps.above;
      below = All-weaker (λ p. cylmax - dest ≤ p) (λ p. found.cylmax - p ≤ dest) (λ p l. omega arith) downs r.first;
    };
    stay = λ out. refl;
  }

  -- a request that is granted at the cylinder under the head was counted
  less_by : (dir : Direction) (dest cylmax : ℕ) → dest ≤ cylmax → found.cylmax ≡ cylmax → found.headpos ≡ dest
      → HeadReady (sweep dir) (priority_at cylmax dir dest) found ups downs
      → (counted (sent found dest) ups downs).stay + 1 ≡ found.stay
  less_by Up dest cylmax on same here r =
      sym ((rw here at r.stay) ∙ up_one found.direction found.cylmax dest ups downs r.direction)
  less_by Down dest cylmax on same here r =
      let for : found.cylmax - (cylmax - dest) ≡ dest = omega arith in
      sym ((rw here at r.stay) ∙ down_one found.direction found.cylmax dest (cylmax - dest) ups downs r.direction for)

  -- rest holds after a request that waited was granted
  pub HeadRests-granted : {a a1 : Disk T} {c p dest : ℕ} → HeadReady c p found ups downs → a1 ≡ a
      → c ≡ sweep (toward dest a1) → p ≡ priority_at a1.cylmax (toward dest a1) dest → dest ≤ a.cylmax
      → found.cylmax ≡ a.cylmax → HeadRests (counted (sent found dest) ups downs) ups downs
  HeadRests-granted {a = a} {dest = dest} r same to with on disk =
      granted_by (toward dest a) dest a.cylmax on disk (rw (to, with, same) at r)

  -- and if the head is at its cylinder, one grant less is due there
  pub stay-granted : {a a1 : Disk T} {c p dest : ℕ} → HeadReady c p found ups downs → a1 ≡ a
      → c ≡ sweep (toward dest a1) → p ≡ priority_at a1.cylmax (toward dest a1) dest → dest ≤ a.cylmax
      → found.cylmax ≡ a.cylmax → found.headpos ≡ dest → (counted (sent found dest) ups downs).stay + 1 ≡ found.stay
  stay-granted {a = a} {dest = dest} r same to with on disk here =
      less_by (toward dest a) dest a.cylmax on disk here (rw (to, with, same) at r)

module _ {T : Type 0} (found : Disk T) where
  -- rest holds after a request that found the drive in was granted: no request waited
  pub HeadRests-at_once : (us ds : List ℕ) (dest : ℕ) → (found.drive ≡ None → ⊥) → dest ≤ found.cylmax
      → HeadRests found us ds → HeadRests (counted (sent found dest) us ds) us ds
  HeadRests-at_once [] [] dest is_in on r = record {
    inv = on;
    up_busy = λ some. refl;
    down_busy = λ some. refl;
    sweeps = record {
      ups_on_disk = λ k d below. absurd (omega arith);
      downs_on_disk = λ k d below. absurd (omega arith);
      above = λ k d below. absurd (omega arith);
      below = λ k d below. absurd (omega arith);
    };
    stay = λ out. refl;
  }
  HeadRests-at_once (x ∷ us) ds dest is_in on r = absurd (is_in (r.up_busy (λ e. cc)))
  HeadRests-at_once [] (x ∷ ds) dest is_in on r = absurd (is_in (r.down_busy (λ e. cc)))

  -- and no grant was due
  pub none_due : (us ds : List ℕ) → (found.drive ≡ None → ⊥) → HeadRests found us ds → 0 ≡ waiting_here found us ds
  none_due [] [] is_in r = none_here found.direction
    where
      none_here : (dir : Direction) → 0 ≡ at_here dir found.cylmax found.headpos [] []
      none_here Up = refl
      none_here Down = refl
  none_due (x ∷ us) ds is_in r = absurd (is_in (r.up_busy (λ e. cc)))
  none_due [] (x ∷ ds) is_in r = absurd (is_in (r.down_busy (λ e. cc)))

-- from the clause of a wait to the trace of a request
pub Reaches-waited : {T : Type 0} {k k1 c p dest : ℕ} {a a1 s1 found : Disk T} {e g1 h : History (Disk T)}
    → a.drive ≡ None
    → AddsTwo g1 (Wait k1 c p s1) (Resume k1 c found) h → k1 ≡ k → s1 ≡ a → g1 ≡ e → a1 ≡ a
    → c ≡ sweep (toward dest a1) → p ≡ priority_at a1.cylmax (toward dest a1) dest → Reaches k dest a e h found
Reaches-waited busy waits place state front same to with =
    waited _ _ busy (rw (place, state, front, to, with, same) at waits)

-- how the drive was handed off, with place, data and front by other names
pub HandsOn-as : {T : Type 0} {k k1 : ℕ} {d d1 : Disk T} {g g1 h : History (Disk T)} → HandsOn k1 d1 g1 h → k1 ≡ k
    → d1 ≡ d → g1 ≡ g → HandsOn k d g h
HandsOn-as hands place state front = rw (place, state, front) at hands

-- if n grants are due already, to count n as due changes nothing
counted_as : {T : Type 0} {k c : ℕ} (d : Disk T) (n : ℕ) {g h : History (Disk T)} → d.stay ≡ n → Finishes k c d g h
    → Finishes k c (due d n) g h
counted_as d n is finishes = rw (sym is) finishes

pub HandsOn-keeps : {T : Type 0} {k : ℕ} (d : Disk T) (ups downs : List ℕ) {g h : History (Disk T)}
    → ups ≡ priorities g.events 0 → downs ≡ priorities g.events 1 → d.stay ≡ waiting_here d ups downs
    → waiting (sweep d.direction) g.events ≢ [] → Finishes k (sweep d.direction) d g h → HandsOn k d g h
HandsOn-keeps d ups downs up down stay some finishes =
    keeps some (counted_as d _ (rw (up, down) at stay) finishes)

-- the due grants are counted when the drive is handed off, however many were counted before
pub HandsOn-due : {T : Type 0} {k : ℕ} (d : Disk T) (n : ℕ) {g h : History (Disk T)} → HandsOn k (due d n) g h
    → HandsOn k d g h
HandsOn-due d n (keeps some finishes) = keeps some finishes
HandsOn-due d n (turns none finishes) = turns none finishes
