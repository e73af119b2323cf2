-- What holds of a pool after a buffer was taken or became free, and what a stream that took a buffer found.
use Rattle.std.proofs.Common.{◌≡◌, ◌≢◌, ℕ, ◌+◌, ◌<◌, ◌≤◌, Bool, true, false, cond, List, [], length, get_or, set}
use Rattle.std.proofs.Common.{Option, Some, None, Err, ◌∙◌, arith}
use Rattle.std.specs.Prelude.{IfSome, is_none, ◌↔◌}
use Rattle.std.specs.List.{count_by, position}
use Rattle.std.proofs.lemmas.Bool.{iff_false}
use Rattle.std.proofs.lemmas.List.{length-set}
use Rattle.std.proofs.lemmas.List.Elements.{All-set}
use Rattle.std.proofs.lemmas.List.Quantifiers.{position-Some}
use Rattle.std.proofs.lemmas.List.Sums.{sum_by-set}
use Rattle.hoare_law.specs.declared.event.History.{History}
use Rattle.hoare_law.specs.declared.event.Event.TheVariants.{Admit, Wait, Resume}
use Rattle.hoare_law.specs.Priorities.{behind_first}
use Rattle.hoare_law.specs.Growth.{AddsLast, AddsTwo, Finishes}
use Rattle.timed_schedulers.specs.Pools.{Pooled, PoolHolds, PoolRests, PoolReady, with_owner, free_count, held}
use Rattle.timed_schedulers.specs.PoolTraces.{Takes, late}
use Rattle.timed_schedulers.specs.declared.pool.NoStream.{NoStream}

-- 1 if the test passes
abbrev pub one_if : {X : Type 0} → (X → Bool) → X → ℕ
one_if p x = cond (p x) 1 0

-- the number of owners that pass after b got another owner
pub count_by-set : (p : Option ℕ → Bool) (owners : List (Option ℕ)) (b : ℕ) (old new : Option ℕ) → b < length owners
    → get_or owners b None ≡ old
    → count_by p (set owners b new) + one_if p old ≡ count_by p owners + one_if p new
count_by-set p owners b old new within is = rw is at (sum_by-set (one_if p) owners b new None within)

PoolHolds-with_owner : (p : Pooled) (b : ℕ) (owner : Option ℕ) → PoolHolds p → IfSome owner (λ s. s < p.streams)
    → PoolHolds (with_owner p b owner)
PoolHolds-with_owner p b owner holds stream = record {
  size = rw (length-set p.owners b owner) holds.size;
  owners = All-set (λ o. IfSome o (λ s. s < p.streams)) p.owners b owner stream holds.owners;
}

-- after a buffer became free, the resumed process finds it, and it is the only free buffer
pub PoolReady-freed : {p p1 : Pooled} {q q1 : List ℕ} {b s : ℕ} → PoolRests p q → b < length p.owners
    → get_or p.owners b None ≡ Some s → p1 ≡ with_owner p b None → q1 ≡ q
    → q1 ≢ [] → PoolReady p1 (behind_first q1)
PoolReady-freed {p = p} {b = b} {s = s} rests within is freed waits some =
    let more : free_count (with_owner p b None) ≡ free_count p + 1 =
    omega (arith, count_by-set is_none p.owners b (Some s) None within is) in
    rw freed (record {
      inv = PoolHolds-with_owner p b None rests.inv tt;
      some = omega arith;
      others = λ others. omega (arith, more, rests.nonfree (λ none. some (waits ∙ none)));
    })

-- if a buffer is free, no process waits, so ready holds
pub PoolReady-idle : {p : Pooled} {q : List ℕ} → PoolRests p q → free_count p ≢ 0 → PoolReady p q
PoolReady-idle rests some =
    record { inv = rests.inv; some = omega arith; others = λ waits. absurd (some (rests.nonfree waits)) }

-- after a free buffer was taken, rest holds
pub PoolRests-taken : {p p1 : Pooled} {q q1 : List ℕ} {b s : ℕ} → PoolReady p q → s < p.streams
    → position is_none p.owners ≡ Some b → p1 ≡ with_owner p b (Some s) → q1 ≡ q → PoolRests p1 q1
PoolRests-taken {p = p} {b = b} {s = s} ready stream first taken waits =
    let there = position-Some is_none p.owners b None first in
    let fewer : free_count (with_owner p b (Some s)) + 1 ≡ free_count p =
    omega (arith, rw there.1 at (sum_by-set (one_if is_none) p.owners b (Some s) None there.0)) in
    rw (taken, waits) (record {
      inv = PoolHolds-with_owner p b (Some s) ready.inv stream;
      nonfree = λ some. omega (arith, fewer, ready.others some);
    })

-- a number that didn't pass the test is no stream
pub no_stream : {b : Bool} {s : ℕ} {p a : Pooled} → ((b ≡ true) ↔ (s < p.streams)) → b ≡ false → p ≡ a → a.streams ≤ s
no_stream {s = s} {p = p} tells not same =
    let none : p.streams ≤ s = omega (arith, iff_false tells not) in rw same at none

-- k waited, and then found that its stream is none of the pool's
pub Takes-late : {k k1 s n : ℕ} {a a1 found : Pooled} {f d d1 g h : History Pooled} {e : NoStream}
    → AddsLast f (Admit k a) d → s < a.streams → free_count a ≡ 0
    → AddsTwo d1 (Wait k1 0 n a1) (Resume k1 0 found) g → k1 ≡ k → a1 ≡ a → d1 ≡ d → n ≡ held s a → found.streams ≤ s
    → Finishes k 0 found g h → Takes k s f h (Err e)
Takes-late enters stream none waits place state front priority gone finishes =
    late _ _ _ _ _ enters (stream, none) (rw (place, state, front, priority) at waits) gone finishes
