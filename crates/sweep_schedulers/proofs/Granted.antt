-- How many grants come before that of a request that waits on a disk head.
use Rattle.std.proofs.Common.{◌≡◌, ◌≢◌, ◌==◌, ℕ, suc, ◌+◌, ◌-◌, ◌*◌, ◌<◌, ◌≤◌, List, [], Bool, true, false}
use Rattle.std.proofs.Common.{cond, None, refl, sym, subst, ◌∙◌, arith}
use Rattle.std.proofs.Math.Nat.{mul-le-mul_right, mul-add, suc-mul}
use Rattle.std.proofs.lemmas.Bool.Decides.{nat_tests}
use Rattle.std.specs.Prelude.{All}
use Rattle.hoare_law.specs.Priorities.{joined, taken, behind_first}
use Rattle.sweep_schedulers.specs.declared.direction.Direction.{Direction}
use Rattle.sweep_schedulers.specs.declared.direction.Direction.TheVariants.{Up, Down}
use Rattle.sweep_schedulers.specs.Heads.{Disk, HeadRests, sweep, opposite, turned, priority_at}
use Rattle.sweep_schedulers.specs.Sweeps.{AtMost, first, granted_first, KeepsOrTurns, keeps, turns, IsPassed, by_equal}
use Rattle.sweep_schedulers.specs.Sweeps.{by_other, Awaits, none, joins, grants, IsWaiting, reached, grants_before}
use Rattle.sweep_schedulers.proofs.Lists.{All-first}
use Rattle.sweep_schedulers.proofs.Due.{waiting_here-equal, before_head}
use Rattle.sweep_schedulers.proofs.Taken.{equals, All-counted, with_first, same_sweep, other_sweep, is_sweep, there}
use Rattle.sweep_schedulers.proofs.Taken.{few_apart, few_counted, taken_own, few_taken, among_taken, among_joined}

-- the number of grants that may come before that of the request, if the head is at `come`. On the request's own sweep
-- and at its cylinder, only those of the requests before it are left
abbrev left : Bool → ℕ → ℕ → ℕ → ℕ → ℕ → ℕ → ℕ
left true cylmax come stay w p k = cond (come == p) k (stay + (p - come - 1) * w + k)
left false cylmax come stay w p k = stay + (cylmax - come + p) * w + k

abbrev left_of : {T : Type 0} → ℕ → Direction → ℕ → ℕ → Disk T → ℕ
left_of m own p k d = left (sweep d.direction == sweep own) d.cylmax (reached d) d.stay (m - suc k) p k

-- with one stop less, and with fewer than w grants due, fewer grants are left: a stop has at most w of them
one_stop : (a b s t w k : ℕ) → suc s ≤ w → suc a ≤ b → suc (s + a * w + k) ≤ t + b * w + k
one_stop a b s t w k within further =
    let more : suc a * w ≤ b * w = mul-le-mul_right w further in
    let one : suc a * w ≡ a * w + w = suc-mul a w in
    omega (arith, within, more, one)

at_least : (same : Bool) (cylmax come stay w p k : ℕ) → k ≤ left same cylmax come stay w p k
at_least false cylmax come stay w p k = omega arith
at_least true cylmax come stay w p k = by (come == p)
  where
    by : (t : Bool) → k ≤ cond t k (stay + (p - come - 1) * w + k)
    by true = omega arith
    by false = omega arith

left_there : (cylmax come stay w p k : ℕ) → come ≡ p → left true cylmax come stay w p k ≡ k
left_there cylmax come stay w p k is = let passes : (come == p) ≡ true = grind (arith, nat_tests) in rw passes refl

left_before : (cylmax come stay w p k : ℕ) → come ≢ p
    → left true cylmax come stay w p k ≡ stay + (p - come - 1) * w + k
left_before cylmax come stay w p k apart =
    let fails : (come == p) ≡ false = grind (arith, nat_tests) in rw fails refl

-- one more is granted, at the cylinder under the head or at a later stop
module _ (cylmax come f p stay stay' w k : ℕ) (upto : come ≤ f) (here : f ≡ come → stay ≡ suc stay')
    (later : suc stay' ≤ w) where
  one_more : (a b : ℕ) → (f ≡ come → a ≡ b) → (come < f → suc a ≤ b) → suc (stay' + a * w + k) ≤ stay + b * w + k
  one_more a b as_far further = by (come == f) refl
    where
      by : (t : Bool) → (come == f) ≡ t → suc (stay' + a * w + k) ≤ stay + b * w + k
      by true is = let e : f ≡ come = grind (arith, nat_tests) in rw (as_far e, here e) (omega arith)
      by false is =
          let apart : come ≢ f = grind (arith, nat_tests) in
          one_stop a b stay' stay w k later (further (omega (arith, apart, upto)))

  one_on_own : f < p → suc (left true cylmax f stay' w p k) ≤ left true cylmax come stay w p k
  one_on_own before =
      let more : suc (stay' + (p - f - 1) * w + k) ≤ stay + (p - come - 1) * w + k =
      one_more (p - f - 1) (p - come - 1) (λ e. rw e refl) (λ l. omega (arith, l, before)) in
      let after = left_before cylmax f stay' w p k (λ e. omega (arith, e, before)) in
      let now = left_before cylmax come stay w p k (λ e. omega (arith, e, before, upto)) in
      omega (arith, more, after, now)

  one_on_other : f ≤ cylmax → suc (left false cylmax f stay' w p k) ≤ left false cylmax come stay w p k
  one_on_other on =
      one_more (cylmax - f + p) (cylmax - come + p) (λ e. rw e refl) (λ l. omega (arith, l, on))

one_turned : (cylmax come f p stay stay' w k : ℕ) → f < p → suc stay' ≤ w
    → suc (left true cylmax f stay' w p k) ≤ left false cylmax come stay w p k
one_turned cylmax come f p stay stay' w k before later =
    let after = left_before cylmax f stay' w p k (λ e. omega (arith, e, before)) in
    let more : suc (stay' + (p - f - 1) * w + k) ≤ stay + (cylmax - come + p) * w + k =
    one_stop (p - f - 1) (cylmax - come + p) stay' stay w k later (omega (arith, before)) in
    omega (arith, more, after)

-- a waiting request finds the drive out
pub is_out : {T : Type 0} (m p k : ℕ) (own : Direction) (d : Disk T) (q : ℕ → List ℕ) → IsWaiting m own p k d q
    → d.drive ≡ None
is_out m p k Up d q is = is.rests.up_busy (λ e. let a = is.among in let z : equals p (q 0) ≡ 0 = rw e refl in
    omega (arith, a, z))
is_out m p k Down d q is = is.rests.down_busy (λ e. let a = is.among in let z : equals p (q 1) ≡ 0 = rw e refl in
    omega (arith, a, z))

-- the due grants are those of the requests that wait for the present sweep at the position of the head
stay_is : {T : Type 0} (d : Disk T) (q : ℕ → List ℕ) → HeadRests d (q 0) (q 1) → d.drive ≡ None
    → d.stay ≡ equals (reached d) (q (sweep d.direction))
stay_is d q rests out =
    rests.stay out ∙ sym (waiting_here-equal d q (sweep d.direction) (reached d) rests.inv
    rests.sweeps.downs_on_disk refl refl)

on_disk : {T : Type 0} (dir : Direction) (d : Disk T) (q : ℕ → List ℕ) → HeadRests d (q 0) (q 1)
    → All (λ s. s ≤ d.cylmax) (q (sweep dir))
on_disk Up d q rests = rests.sweeps.ups_on_disk
on_disk Down d q rests = rests.sweeps.downs_on_disk

ahead : {T : Type 0} (dir : Direction) (d : Disk T) (q : ℕ → List ℕ) → HeadRests d (q 0) (q 1)
    → All (λ s. priority_at d.cylmax dir d.headpos ≤ s) (q (sweep dir))
ahead dir d q rests = before_head dir d.cylmax d.headpos q rests.inv rests.sweeps.above rests.sweeps.below

-- e is the disk, in the direction of the next grant
module _ {T : Type 0} (m p k j : ℕ) (own : Direction) (e : Disk T) (q : ℕ → List ℕ) (drive : T)
    (some : q (sweep e.direction) ≢ []) (passed : IsPassed own p e.direction (first e.direction q) k j)
    (rests : HeadRests (granted_first e drive q) (taken q (sweep e.direction) 0) (taken q (sweep e.direction) 1))
    (few : AtMost m q) (among : k < equals p (q (sweep own))) (on : first e.direction q ≤ e.cylmax) where
  pub still : IsWaiting m own p j (granted_first e drive q) (taken q (sweep e.direction))
  still = record {
    rests = rests;
    few = few_taken e.direction q m few;
    among = among_taken e.direction own q p k j some passed among;
  }

  reached_first : reached (granted_first e drive q) ≡ first e.direction q
  reached_first = there e.direction e.cylmax (first e.direction q) on

  -- one grant less is due there than requests waited
  one_less_due : equals (first e.direction q) (q (sweep e.direction)) ≡ suc (granted_first e drive q).stay
  one_less_due =
      let f = first e.direction q in
      let left_due : (granted_first e drive q).stay ≡ equals f (behind_first (q (sweep e.direction))) =
      stay_is (granted_first e drive q) (taken q (sweep e.direction)) rests refl
      ∙ (rw (reached_first, taken_own e.direction q) refl) in
      let passes : (f == f) ≡ true = grind (arith, nat_tests) in
      let all : equals f (q (sweep e.direction)) ≡ 1 + equals f (behind_first (q (sweep e.direction))) =
      with_first f (q (sweep e.direction)) some ∙ (rw passes refl) in
      omega (arith, left_due, all)

  within : (e.direction ≡ own → first e.direction q ≢ p) → suc (granted_first e drive q).stay ≤ m - suc k
  within apart =
      omega (arith, among, one_less_due, few_apart e.direction own q m (first e.direction q) p few apart)

  -- on its own sweep, the request isn't nearer to the head than the request that is granted next
  first_upto : e.direction ≡ own → first e.direction q ≤ p
  first_upto same =
      let all = ahead e.direction (granted_first e drive q) (taken q (sweep e.direction)) rests in
      let some_left : j < equals p (taken q (sweep e.direction) (sweep e.direction)) =
      subst (λ o. j < equals p (taken q (sweep e.direction) (sweep o))) (sym same) still.among in
      let upto = All-counted (λ s. reached (granted_first e drive q) ≤ s) p
      (taken q (sweep e.direction) (sweep e.direction)) all (omega (arith, some_left)) in
      omega (arith, upto, reached_first)

-- on the request's own sweep, a request of equal priority is granted first at its cylinder, and any other at the
-- cylinder under the head or at a stop before the request's
on_own : {k j : ℕ} (m p cylmax come f stay stay' : ℕ) (dir own : Direction) → dir ≡ own → come ≤ f → f ≤ p
    → IsPassed own p dir f k j → (f ≡ come → stay ≡ suc stay') → ((dir ≡ own → f ≢ p) → suc stay' ≤ m - suc k)
    → suc (left true cylmax f stay' (m - suc j) p j) ≤ left true cylmax come stay (m - suc k) p k
on_own m p cylmax come f stay stay' dir own same upto before (by_equal i on is) here later =
    omega (
      arith,
      left_there cylmax f stay' (m - suc i) p i is,
      at_least true cylmax come stay (m - suc (suc i)) p (suc i),
    )
on_own m p cylmax come f stay stay' dir own same upto before (by_other i apart) here later =
    let a : f ≢ p = apart same in
    one_on_own cylmax come f p stay stay' (m - suc i) i upto here (later apart) (omega (arith, a, before))

turned_to_own : {k j : ℕ} (m p cylmax come f stay stay' : ℕ) (dir own : Direction) → dir ≡ own → f ≤ p
    → IsPassed own p dir f k j → ((dir ≡ own → f ≢ p) → suc stay' ≤ m - suc k)
    → suc (left true cylmax f stay' (m - suc j) p j) ≤ left false cylmax come stay (m - suc k) p k
turned_to_own m p cylmax come f stay stay' dir own same before (by_equal i on is) later =
    omega (
      arith,
      left_there cylmax f stay' (m - suc i) p i is,
      at_least false cylmax come stay (m - suc (suc i)) p (suc i),
    )
turned_to_own m p cylmax come f stay stay' dir own same before (by_other i apart) later =
    let a : f ≢ p = apart same in
    one_turned cylmax come f p stay stay' (m - suc i) i (omega (arith, a, before)) (later apart)

on_other : {k j : ℕ} (m p cylmax come f stay stay' : ℕ) (dir own : Direction) → dir ≢ own → come ≤ f → f ≤ cylmax
    → IsPassed own p dir f k j → (f ≡ come → stay ≡ suc stay') → ((dir ≡ own → f ≢ p) → suc stay' ≤ m - suc k)
    → suc (left false cylmax f stay' (m - suc j) p j) ≤ left false cylmax come stay (m - suc k) p k
on_other m p cylmax come f stay stay' dir own differ upto on (by_equal i same is) here later = absurd (differ same)
on_other m p cylmax come f stay stay' dir own differ upto on (by_other i apart) here later =
    one_on_other cylmax come f p stay stay' (m - suc i) i upto here (later apart) on

-- while the request waits, a release finds a request, on the sweep on which the head continues
pub release_grants : {T : Type 0} (m p k : ℕ) (own : Direction) (d e : Disk T) (q : ℕ → List ℕ)
    → IsWaiting m own p k d q → KeepsOrTurns d q e → q (sweep e.direction) ≢ []
release_grants m p k own d e q is (keeps some) = some
release_grants m p k own d e q is (turns nobody) = by (sweep d.direction == sweep own) refl
  where
    waits : q (sweep own) ≢ []
    waits gone = let w = is.among in let z : equals p (q (sweep own)) ≡ 0 = rw gone refl in omega (arith, w, z)

    by : (t : Bool) → (sweep d.direction == sweep own) ≡ t → q (sweep (opposite d.direction)) ≢ []
    by true same = λ none_there. waits (rw (sym (same_sweep d.direction own same)) nobody)
    by false other = rw ((other_sweep d.direction own other).1) waits

module _ {T : Type 0} (m p k j : ℕ) (own : Direction) (d : Disk T) (q : ℕ → List ℕ) (drive : T)
    (is : IsWaiting m own p k d q) where
  -- the head keeps its direction
  one_kept : (some : q (sweep d.direction) ≢ []) → IsPassed own p d.direction (first d.direction q) k j
      → HeadRests (granted_first d drive q) (taken q (sweep d.direction) 0) (taken q (sweep d.direction) 1)
      → suc (left_of m own p j (granted_first d drive q)) ≤ left_of m own p k d
  one_kept some passed rests = by (sweep d.direction == sweep own) refl
    where
      f : ℕ
      f = first d.direction q

      on : f ≤ d.cylmax
      on = All-first (λ s. s ≤ d.cylmax) (q (sweep d.direction)) some (on_disk d.direction d q is.rests)

      upto : reached d ≤ f
      upto = All-first (λ s. reached d ≤ s) (q (sweep d.direction)) some (ahead d.direction d q is.rests)

      after : reached (granted_first d drive q) ≡ f
      after = reached_first m p k j own d q drive some passed rests is.few is.among on

      here : f ≡ reached d → d.stay ≡ suc (granted_first d drive q).stay
      here e =
          let due = stay_is d q is.rests (is_out m p k own d q is) in
          let one = one_less_due m p k j own d q drive some passed rests is.few is.among on in
          due ∙ (rw (sym e) one)

      later : (d.direction ≡ own → f ≢ p) → suc (granted_first d drive q).stay ≤ m - suc k
      later = within m p k j own d q drive some passed rests is.few is.among on

      by : (t : Bool) → (sweep d.direction == sweep own) ≡ t
          → suc (left t d.cylmax (reached (granted_first d drive q)) (granted_first d drive q).stay (m - suc j) p j)
          ≤ left t d.cylmax (reached d) d.stay (m - suc k) p k
      by true same =
          let own_sweep = same_sweep d.direction own same in
          let before = first_upto m p k j own d q drive some passed rests is.few is.among on own_sweep in
          rw after (on_own m p d.cylmax (reached d) f d.stay (granted_first d drive q).stay d.direction own own_sweep
          upto before passed here later)
      by false other =
          let differ = (other_sweep d.direction own other).0 in
          rw after (on_other m p d.cylmax (reached d) f d.stay (granted_first d drive q).stay d.direction own differ
          upto on passed here later)

  -- the head turns
  one_turn : q (sweep d.direction) ≡ [] → (some : q (sweep (opposite d.direction)) ≢ [])
      → IsPassed own p (opposite d.direction) (first (opposite d.direction) q) k j
      → HeadRests (granted_first (turned d) drive q) (taken q (sweep (opposite d.direction)) 0)
      (taken q (sweep (opposite d.direction)) 1)
      → suc (left_of m own p j (granted_first (turned d) drive q)) ≤ left_of m own p k d
  one_turn nobody some passed rests = by (sweep d.direction == sweep own) refl
    where
      dir : Direction
      dir = opposite d.direction

      f : ℕ
      f = first dir q

      on : f ≤ d.cylmax
      on = All-first (λ s. s ≤ d.cylmax) (q (sweep dir)) some (on_disk dir d q is.rests)

      by : (t : Bool) → (sweep d.direction == sweep own) ≡ t
          → suc (left_of m own p j (granted_first (turned d) drive q))
          ≤ left t d.cylmax (reached d) d.stay (m - suc k) p k
      by true same =
          let mine : q (sweep own) ≡ [] = rw (sym (same_sweep d.direction own same)) nobody in
          let none_waits : equals p (q (sweep own)) ≡ 0 = rw mine refl in
          let some_wait = is.among in
          absurd (omega (arith, some_wait, none_waits))
      by false other =
          let own_sweep = (other_sweep d.direction own other).1 in
          let before = first_upto m p k j own (turned d) q drive some passed rests is.few is.among on own_sweep in
          let after = reached_first m p k j own (turned d) q drive some passed rests is.few is.among on in
          let later = within m p k j own (turned d) q drive some passed rests is.few is.among on in
          rw (is_sweep dir own own_sweep, after) (turned_to_own m p d.cylmax (reached d) f d.stay
          (granted_first (turned d) drive q).stay dir own own_sweep before passed later)

granted_within : {T : Type 0} (m p : ℕ) (own : Direction) (d : Disk T) (q : ℕ → List ℕ) {k n : ℕ}
    → IsWaiting m own p k d q → Awaits m own p d q k n → n ≤ left_of m own p k d
granted_within m p own d q is (none e r i) = omega arith
granted_within m p own d q is (joins e r i n c s rests few later) =
    let waits : IsWaiting m own p i d (joined q c s) =
    record { rests = rests; few = few; among = among_joined q c s p i (sweep own) is.among } in
    granted_within m p own d (joined q c s) waits later
granted_within m p own d q is (grants _ _ r i j n drive (keeps some) passed rests later) =
    let f = first d.direction q in
    let on : f ≤ d.cylmax =
    All-first (λ s. s ≤ d.cylmax) (q (sweep d.direction)) some (on_disk d.direction d q is.rests) in
    let waits = still m p i j own d q drive some passed rests is.few is.among on in
    let more = granted_within m p own (granted_first d drive q) (taken q (sweep d.direction)) waits later in
    omega (arith, more, one_kept m p i j own d q drive is some passed rests)
granted_within m p own d q is (grants _ _ r i j n drive (turns nobody) passed rests later) =
    let dir = opposite d.direction in
    let some = release_grants m p i own d (turned d) q is (turns nobody) in
    let on : first dir q ≤ d.cylmax =
    All-first (λ s. s ≤ d.cylmax) (q (sweep dir)) some (on_disk dir d q is.rests) in
    let waits = still m p i j own (turned d) q drive some passed rests is.few is.among on in
    let more = granted_within m p own (granted_first (turned d) drive q) (taken q (sweep dir)) waits later in
    omega (arith, more, one_turn m p i j own d q drive is nobody some passed rests)

left_within : (same : Bool) (cylmax come stay w p k : ℕ)
    → left same cylmax come stay w p k ≤ stay + cond same (p - come - 1) (cylmax - come + p) * w + k
left_within false cylmax come stay w p k = omega arith
left_within true cylmax come stay w p k = by (come == p)
  where
    by : (t : Bool) → cond t k (stay + (p - come - 1) * w + k) ≤ stay + (p - come - 1) * w + k
    by true = omega arith
    by false = omega arith

pub in_time : {T : Type 0} (m p : ℕ) (own : Direction) (d : Disk T) (q : ℕ → List ℕ) {k n : ℕ}
    → IsWaiting m own p k d q → Awaits m own p d q k n → n ≤ grants_before m d own p k
in_time m p own d q {k} is waits =
    omega (
      arith,
      granted_within m p own d q is waits,
      left_within (sweep d.direction == sweep own) d.cylmax (reached d) d.stay (m - suc k) p k,
    )

-- at its cylinder the request is one of those that are due
pub at_its_cylinder : {T : Type 0} (m p : ℕ) (own : Direction) (d : Disk T) (q : ℕ → List ℕ) {k n : ℕ}
    → IsWaiting m own p k d q → own ≡ d.direction → p ≡ reached d → Awaits m own p d q k n → n < d.stay
at_its_cylinder m p own d q {k} is same there waits =
    let due : d.stay ≡ equals p (q (sweep own)) = rw (same, there) (stay_is d q is.rests (is_out m p k own d q is)) in
    let only : left_of m own p k d ≡ k =
    rw (is_sweep d.direction own (sym same)) (left_there d.cylmax (reached d) d.stay (m - suc k) p k (sym there)) in
    let some = is.among in
    omega (arith, granted_within m p own d q is waits, due, only, some)

-- the grants of all stops, if at most w are made at each stop and at the cylinder under the head
all_stops : (a b stay w k : ℕ) → stay ≤ w → suc a ≤ b → stay + a * w + k ≤ b * (w + k)
all_stops a b stay w k due further =
    let some : suc a * w ≤ b * w = mul-le-mul_right w further in
    let one : suc a * w ≡ a * w + w = suc-mul a w in
    let equal_ones : 1 * k ≤ b * k = mul-le-mul_right k (omega (arith, further)) in
    omega (arith, due, some, one, equal_ones, mul-add b w k)

left_at_most : (same : Bool) (cylmax come stay w p k : ℕ) → p ≤ cylmax
    → ((same ≡ true → come ≢ p) → stay ≤ w) → left same cylmax come stay w p k ≤ (2 * cylmax + 1) * (w + k)
left_at_most false cylmax come stay w p k on due =
    all_stops (cylmax - come + p) (2 * cylmax + 1) stay w k (due (λ e. absurd (cc))) (omega (arith, on))
left_at_most true cylmax come stay w p k on due = by (come == p) refl
  where
    by : (t : Bool) → (come == p) ≡ t
        → cond t k (stay + (p - come - 1) * w + k) ≤ (2 * cylmax + 1) * (w + k)
    by true is =
        let none_due : 0 + 0 * w + k ≤ (2 * cylmax + 1) * (w + k) =
        all_stops 0 (2 * cylmax + 1) 0 w k (omega arith) (omega arith) in
        omega (arith, none_due)
    by false is =
        let apart : come ≢ p = grind (arith, nat_tests) in
        all_stops (p - come - 1) (2 * cylmax + 1) stay w k (due (λ e. apart)) (omega (arith, on))

pub at_most : {T : Type 0} (m p : ℕ) (own : Direction) (d : Disk T) (q : ℕ → List ℕ) {k n : ℕ}
    → IsWaiting m own p k d q → Awaits m own p d q k n → n ≤ (2 * d.cylmax + 1) * (m - 1)
at_most m p own d q {k} {n} is waits = rw places (omega (arith, granted_within m p own d q is waits, most))
  where
    some : k < equals p (q (sweep own))
    some = is.among

    places : m - 1 ≡ m - suc k + k
    places = let l = few_counted own q m p is.few in omega (arith, some, l)

    on : p ≤ d.cylmax
    on = All-counted (λ s. s ≤ d.cylmax) p (q (sweep own)) (on_disk own d q is.rests) (omega (arith, some))

    due : ((sweep d.direction == sweep own) ≡ true → reached d ≢ p) → d.stay ≤ m - suc k
    due apart =
        let all = few_apart d.direction own q m (reached d) p is.few (λ e. apart (is_sweep d.direction own e)) in
        let here = stay_is d q is.rests (is_out m p k own d q is) in
        omega (arith, all, here, some)

    most : left_of m own p k d ≤ (2 * d.cylmax + 1) * (m - suc k + k)
    most = left_at_most (sweep d.direction == sweep own) d.cylmax (reached d) d.stay (m - suc k) p k on due
