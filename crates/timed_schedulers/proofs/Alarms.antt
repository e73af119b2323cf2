-- The rounds of a process that waits for its setting, and which process its signal resumes.
use Rattle.std.proofs.Common.{◌≡◌, ◌≢◌, ℕ, ◌+◌, ◌^◌, ◌<◌, ◌≤◌, List, [], ◌⊎◌, ⊎_elim, Ok, Bool, ◌∙◌, arith}
use Rattle.std.specs.Prelude.{All, slice_index}
use Rattle.std.specs.List.Sorted.{IsNonDecreasing}
use Rattle.std.proofs.lemmas.List.Elements.{All-weaker}
use Rattle.hoare_law.specs.declared.event.History.{History}
use Rattle.hoare_law.specs.declared.event.Event.TheVariants.{Admit, Wait, Resume}
use Rattle.hoare_law.specs.Priorities.{put_in, behind_first}
use Rattle.hoare_law.specs.Growth.{AddsLast, AddsTwo, Exits}
use Rattle.hoare_law.proofs.Growth.{Finishes-exit}
use Rattle.hoare_law.proofs.Joined.{length-some}
use Rattle.hoare_law.proofs.Sorted.{All-put_in, All-behind_first}
use Rattle.timed_schedulers.specs.AlarmTraces.{Rounds, none, more, Wakes, woke}
use Rattle.timed_schedulers.specs.Alarms.{AlarmReady}

-- k entered at the time a, waited for its setting each time it found an earlier time, and finds the time `now`
pub record Waited (k setting a : ℕ) (f g : History ℕ) (now : ℕ) : Type 0 where
  pub front : History ℕ
  pub enters : AddsLast f (Admit k a) front
  pub rounds : Rounds k setting front a g now

-- the time is no later than the setting; each waiter is due later than the time, or no earlier than the setting
pub record Early (setting now : ℕ) (q : List ℕ) : Type 0 where
  pub due : now ≤ setting
  pub others : All (λ r. now < r) q ⊎ All (λ r. setting ≤ r) q

pub Waited-none : {k setting a s : ℕ} {f g : History ℕ} → AddsLast f (Admit k s) g → a ≡ s → Waited k setting a f g s
Waited-none {g = g} enters same = rw same (record { front = g; enters = enters; rounds = none })

pub Waited-more : {k k1 setting a s now found : ℕ} {f g g1 h : History ℕ} → Waited k setting a f g found
    → found < setting
    → AddsTwo g1 (Wait k1 0 setting s) (Resume k1 0 now) h → k1 ≡ k → s ≡ found → g1 ≡ g → Waited k setting a f h now
Waited-more {now = now} {found = found} {g = g} {h = h} w early waits place state front = record {
  front = w.front;
  enters = w.enters;
  rounds = more g h found now w.rounds early (rw (place, state, front) at waits);
}

-- before the setting, each waiter is due later than the time, and so is the setting
pub Early-before : {setting now : ℕ} {q : List ℕ} → Early setting now q → now < setting
    → All (λ r. now < r) (put_in (λ n. n) setting q)
Early-before {setting = setting} {now = now} {q = q} e before = All-put_in (λ r. now < r) setting q before
    (⊎_elim (λ all. all) (λ all. All-weaker (λ r. setting ≤ r) (λ r. now < r) (λ x l. omega arith) q all) e.others)

-- no waiter is overdue: before the setting none is due, and at the setting each is due then or later
pub Early-after : {setting now : ℕ} {q : List ℕ} → Early setting now q → All (λ r. now ≤ r) q
Early-after {setting = setting} {now = now} {q = q} e =
    let due : now ≤ setting = e.due in
    ⊎_elim
    (λ all. All-weaker (λ r. now < r) (λ r. now ≤ r) (λ x l. omega arith) q all)
    (λ all. All-weaker (λ r. setting ≤ r) (λ r. now ≤ r) (λ x l. omega arith) q all)
    e.others

-- if no waiter is overdue, the first is due no later than the others
pub AlarmReady-first : {now now1 : ℕ} {q q1 : List ℕ} → IsNonDecreasing q → All (λ r. now ≤ r) q → now1 ≡ now → q1 ≡ q
    → q1 ≢ []
    → AlarmReady (slice_index q1 0) now1 (behind_first q1)
AlarmReady-first {now = now} {q = q} rises all time same some =
    let waits : q ≢ [] = λ none. some (same ∙ none) in
    rw (time, same) (record { due = all 0 0 (length-some q waits); first = All-behind_first q rises waits })

-- at its setting k signals and leaves
pub woken : {k k1 n a setting found answer s : ℕ} {f g g1 h : History ℕ} {b : Bool} → Waited k setting a f g found
    → setting ≡ a + n → found ≡ setting
    → answer ≡ found → setting < 2 ^ 64 → Exits k1 0 s g1 h b → k1 ≡ k → s ≡ found → g1 ≡ g → Wakes k n f h (Ok answer)
woken {n = n} {a = a} {found = found} {answer = answer} {g = g} w sum due told small exits place state front =
    let then : found ≡ a + n = due ∙ sum in
    let last : answer ≡ a + n = told ∙ then in
    rw last
    (woke a w.front g w.enters (rw sum at small) (rw (sum, then) at w.rounds)
    (Finishes-exit exits place (state ∙ then) front))
