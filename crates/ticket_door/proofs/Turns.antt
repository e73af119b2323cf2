-- Whose turn it is, and what SERVING and the bells are then.
use Rattle.std.proofs.Common.{◌≡◌, ◌≢◌, ℕ, ◌+◌, ◌-◌, ◌*◌, ◌<◌, ◌≤◌, ◌%◌, ◌^◌, true, false, List, refl, sym, ap, ◌∙◌}
use Rattle.std.proofs.Common.{subst, arith, ne_eqb, true≢false}
use mathlib.Core.Logic.{dite}
use native.Mathlib.Decide.{ℕ_discrete}
use Rattle.std.proofs.Math.Nat.{mod-add-mod}
use Rattle.atomic_table.proofs.Lists.{one_turn}
use Rattle.hoare_law.specs.declared.event.Event.{Event}
use Rattle.hoare_law.specs.declared.event.History.{History}
use Rattle.hoare_law.specs.declared.event.Event.TheVariants.{Admit, Wait, Signal, Pass, Leave, Resume, Back, Notify}
use Rattle.hoare_law.specs.declared.event.Event.TheVariants.{Broadcast, SignalTo}
use Rattle.hoare_law.specs.declared.turn.Turn.{Turn}
use Rattle.hoare_law.specs.declared.turn.Turn.TheVariants.{Free, Held, Owed, Return}
use Rattle.hoare_law.specs.Events.{place_of, with_event}
use Rattle.hoare_law.specs.Legal.{Allowed, IsLegal}
use Rattle.hoare_law.specs.Turns.{turn, outside}
use Rattle.hoare_law.proofs.Ended.{outside-owed, outside-returning}
use Rattle.hoare_law.proofs.Turns.{outside-other}
use Rattle.wait_book.specs.Contents.{one, times, next_of}
use Rattle.wait_book.specs.declared.steps.Next.TheVariants as next
use Rattle.wait_book.proofs.Times.{one_same, one_apart}
use Rattle.door_frame.proofs.Steps.{IsDue, owed, returning}
use Rattle.hoare_law.specs.Admissions.{is_admit}
use Rattle.ticket_door.specs.Rule.{Gate, open_gate, shut_by, shut, taken, bell_value}

pub taken_le : (t : Turn) → taken t ≤ 1
taken_le Free = omega arith
taken_le (Held k) = omega arith
taken_le (Owed k c) = omega arith
taken_le (Return k) = omega arith

pub taken_free : (t : Turn) → taken t ≡ 0 → t ≡ Free
taken_free Free e = refl
taken_free (Held k) e = absurd (omega (arith, e))
taken_free (Owed k c) e = absurd (omega (arith, e))
taken_free (Return k) e = absurd (omega (arith, e))

pub free_next : (t : Turn) → next_of t ≡ next.Free → t ≡ Free
free_next Free e = refl
free_next (Held k) e = absurd (cc)
free_next (Owed k c) e = absurd (cc)
free_next (Return k) e = absurd (cc)

-- if the place j is due, its bell is rung, and no other is
pub record Rings (j : ℕ) (t : Turn) : Type 0 where
  pub busy : taken t ≡ 1
  pub here : bell_value t j ≡ 1
  pub else_ : (k : ℕ) → k ≢ j → bell_value t k ≡ 0

apart : (j k : ℕ) → k ≢ j → one j k ≡ 0
apart j k ne = one_apart j k (ne_eqb j k (λ e. ne (sym e)))

pub rings_due : (j : ℕ) (t : Turn) → IsDue j t → Rings j t
rings_due j t (owed c is) = subst (Rings j) (sym is) (record { busy = refl; here = one_same j; else_ = apart j })
rings_due j t (returning is) = subst (Rings j) (sym is) (record { busy = refl; here = one_same j; else_ = apart j })

pub for_next : (t : Turn) (j : ℕ) → next_of t ≡ next.For j → IsDue j t
for_next Free j e = absurd (cc)
for_next (Held k) j e = absurd (cc)
for_next (Owed k c) j e = owed c (let same : k ≡ j = cc in ap (λ i. Owed i c) same)
for_next (Return k) j e = returning (let same : k ≡ j = cc in ap (λ i. Return i) same)

bell_else : (j k : ℕ) → one j k ≢ 1 → one j k ≡ 0
bell_else j k n =
    dite (ℕ_discrete j k) (λ same. absurd (n (subst (λ i. one j i ≡ 1) same (one_same j))))
    (λ ne. one_apart j k (ne_eqb j k ne))

bell_due : (j k : ℕ) → one j k ≡ 1 → j ≡ k
bell_due j k e = dite (ℕ_discrete j k) (λ same. same) (λ ne. absurd (omega (arith, one_apart j k (ne_eqb j k ne), e)))

-- a bell that isn't rung is silent
pub bell_value_else : (t : Turn) (k : ℕ) → bell_value t k ≢ 1 → bell_value t k ≡ 0
bell_value_else Free k n = refl
bell_value_else (Held j) k n = refl
bell_value_else (Owed j c) k n = bell_else j k n
bell_value_else (Return j) k n = bell_else j k n

-- a place whose bell is rung is due
pub bell_value_due : (t : Turn) (k : ℕ) → bell_value t k ≡ 1 → IsDue k t
bell_value_due Free k e = absurd (omega (arith, e))
bell_value_due (Held j) k e = absurd (omega (arith, e))
bell_value_due (Owed j c) k e = owed c (ap (λ i. Owed i c) (bell_due j k e))
bell_value_due (Return j) k e = returning (ap (λ i. Return i) (bell_due j k e))

pub due_busy : (k : ℕ) (t : Turn) → IsDue k t → t ≢ Free
due_busy k t (owed c is) e = let no : Owed k c ≡ Free = sym is ∙ e in cc
due_busy k t (returning is) e = let no : Return k ≡ Free = sym is ∙ e in cc

pub due_not_held : (k j : ℕ) (t : Turn) → IsDue k t → t ≢ Held j
due_not_held k j t (owed c is) e = let no : Owed k c ≡ Held j = sym is ∙ e in cc
due_not_held k j t (returning is) e = let no : Return k ≡ Held j = sym is ∙ e in cc

pub due_inside : {D : Type 0} (h : History D) (k : ℕ) → IsLegal h → IsDue k (turn h.events)
    → outside k h.events ≡ false
due_inside h k legal (owed c is) = outside-owed h k c legal is
due_inside h k legal (returning is) = outside-returning h.events k is

-- the places with a ticket are still outside after an event of a place that wasn't outside
pub still_outside : {D : Type 0} (f : History D) (e : Event D) (k : ℕ) (q : List ℕ) → place_of e ≡ k
    → outside k f.events ≡ false → ((j : ℕ) → 0 < times j q → outside j f.events ≡ true) → (j : ℕ) → 0 < times j q
    → outside j (with_event f e).events ≡ true
unfolding with_event
still_outside f e k q mine inside out j some =
    let apart : place_of e ≢ j = λ same.
    true≢false (sym (out j some) ∙ ap (λ i. outside i f.events) (sym same ∙ mine) ∙ inside) in
    outside-other j f.events e apart ∙ out j some

-- nobody is admitted if the turn isn't free
pub no_admit : {D : Type 0} (f : History D) (e : Event D) → Allowed f e → turn f.events ≢ Free → is_admit e ≡ false
no_admit f (Admit k s) may busy = absurd (busy may.fits.0)
no_admit f (Wait k c p s) may busy = refl
no_admit f (Signal k c w s) may busy = refl
no_admit f (Pass k c w s) may busy = refl
no_admit f (SignalTo k c w s) may busy = refl
no_admit f (Leave k s) may busy = refl
no_admit f (Resume k c s) may busy = refl
no_admit f (Back k s) may busy = refl
no_admit f (Notify k c w s) may busy = refl
no_admit f (Broadcast k c s) may busy = refl

pub held_busy : (k : ℕ) (t : Turn) → t ≡ Held k → t ≢ Free
held_busy k t is e = let no : Held k ≡ Free = sym is ∙ e in cc

-- NEXT, once the next ticket is taken
pub next_word : (first x : ℕ) → ((first + x) % 2 ^ 64 + 1) % 2 ^ 64 ≡ (first + (x + 1)) % 2 ^ 64
next_word first x =
    mod-add-mod (first + x) (2 ^ 64) 1
    ∙ ap (λ n. n % 2 ^ 64) (let same : first + x + 1 ≡ first + (x + 1) = omega arith in same)

-- SERVING, once the next ticket is served
pub next_turn : (first x b : ℕ) → ((2 * (first + x) + b) % 2 ^ 64 + 2) % 2 ^ 64 ≡ (2 * (first + (x + 1)) + b) % 2 ^ 64
next_turn first x b =
    mod-add-mod (2 * (first + x) + b) (2 ^ 64) 2
    ∙ ap (λ n. n % 2 ^ 64) (let same : 2 * (first + x) + b + 2 ≡ 2 * (first + (x + 1)) + b = omega arith in same)

-- if a ticket not far ahead of the served ticket has the same value of SERVING, it is the served ticket
pub served_only : (first served x : ℕ) → served ≤ x → x < served + 66
    → (2 * (first + served)) % 2 ^ 64 ≡ (2 * (first + x)) % 2 ^ 64
    → served ≡ x
served_only first served x le lt e =
    let same =
    one_turn (2 * (first + served)) (2 * (first + x)) (2 ^ 64) (omega (arith, le)) (omega (arith, lt)) e in
    omega (arith, same)

-- if SERVING is even, the gate isn't shut
pub even_open : (a b : ℕ) (g : Gate) → (2 * a + shut g) % 2 ^ 64 ≡ (2 * b) % 2 ^ 64 → g ≡ open_gate
even_open a b open_gate e = refl
even_open a b (shut_by k v) e = absurd (omega (arith, e))

-- the gate's bit is set, and cleared again
pub shut_word : (a : ℕ) → (2 * a) % 2 ^ 64 + 1 ≡ (2 * a + 1) % 2 ^ 64
shut_word a = omega arith

pub open_bit : (a : ℕ) → (2 * a) % 2 ^ 64 ≡ (2 * a + 0) % 2 ^ 64
open_bit a = omega arith

pub open_word : (a : ℕ) → ((2 * a + 1) % 2 ^ 64 + (2 ^ 64 - 1)) % 2 ^ 64 ≡ (2 * a + 0) % 2 ^ 64
open_word a = omega arith

-- SERVING while the ticket of this number is served
pub turn_word : (first start x ticket : ℕ) → first ≡ start → ticket ≡ (first + x) % 2 ^ 64
    → (2 * ticket) % 2 ^ 64 ≡ (2 * (start + x)) % 2 ^ 64
turn_word first start x ticket same is =
    ap (λ n. (2 * n) % 2 ^ 64) is ∙ twice (first + x) ∙ ap (λ n. (2 * (n + x)) % 2 ^ 64) same
  where
    twice : (n : ℕ) → (2 * (n % 2 ^ 64)) % 2 ^ 64 ≡ (2 * n) % 2 ^ 64
    twice n = omega arith
