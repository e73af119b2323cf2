-- What holds of a barrier and of its waiters when a party arrives, when the last begins the next generation, and when a
-- waiter resumes.
use Rattle.std.proofs.Common.{◌≡◌, ◌≢◌, ℕ, suc, ◌+◌, ◌<◌, List, [], ◌∷◌, length, refl, arith}
use Rattle.std.specs.Prelude.{All, slice_index}
use Rattle.hoare_law.specs.Priorities.{put_in, behind_first}
use Rattle.hoare_law.proofs.Sorted.{All-put_in, length-put_in}
use Rattle.cookbook.specs.Barriers.{Gathering, next, one_more, one_less, opened, BarrierRests, BarrierReady}

-- rest holds: a party that isn't the last may wait, once it is counted, with the generation as its priority
pub BarrierRests-come : {b a : Gathering} {p : ℕ} {q : List ℕ} (r : List ℕ) → BarrierRests b q
    → b.arrived + 1 < b.parties → a ≡ one_more b → r ≡ q → p ≡ b.generation
    → BarrierRests a (put_in (λ n. n) p r)
BarrierRests-come {b = b} {q = q} r rests room state lists priority = rw (state, lists, priority) (record {
  within = room;
  all_wait = omega (arith, rests.all_wait, length-put_in (λ n. n) b.generation q);
  of_this = All-put_in (λ p. p ≡ b.generation) b.generation q refl rests.of_this;
})

-- if all parties that have arrived wait, all are of generation p, and the next generation has begun, the first of them
-- may resume
first_ready : {b : Gathering} {p : ℕ} (q : List ℕ) → b.arrived < b.parties → length q ≡ b.arrived
    → b.generation ≡ next p → All (λ r. r ≡ p) q → q ≢ []
    → BarrierReady (slice_index q 0) b (behind_first q)
first_ready [] within all_wait begun of_last some = absurd (some refl)
first_ready (x ∷ q) within all_wait begun of_last some =
    let first = of_last 0 0 (omega arith) in
    rw first (record {
      within = within;
      but_one = omega (arith, all_wait);
      begun = begun;
      of_last = λ k d below. of_last (suc k) d (omega arith);
    })

-- when the next generation has begun, the first waiter may resume
pub BarrierReady-opened : {b d : Gathering} {q r : List ℕ} → BarrierRests b q → d ≡ opened b → r ≡ q → r ≢ []
    → BarrierReady (slice_index r 0) d (behind_first r)
BarrierReady-opened {q = q} rests state lists some =
    rw (state, lists) (first_ready q rests.within rests.all_wait refl rests.of_this (rw lists at some))

-- when a resumed waiter has counted itself as gone, the next may resume
pub BarrierReady-gone : {b d : Gathering} {p : ℕ} {q r : List ℕ} → BarrierReady p b q → d ≡ one_less b → r ≡ q → r ≢ []
    → BarrierReady (slice_index r 0) d (behind_first r)
BarrierReady-gone {b = b} {q = q} found state lists some =
    rw (state, lists)
    (first_ready q (omega (arith, found.within)) (omega (arith, found.but_one)) found.begun found.of_last
    (rw lists at some))
