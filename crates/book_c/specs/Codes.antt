-- The codes that C gets for results and refusals.
use Rattle.std.specs.Prelude.{ℕ, ◌≡◌, ◌<◌, ◌≤◌, false, nat_lt, if◌then◌else◌, length, Option, Some, None}
use Rattle.hoare_law.specs.declared.event.Event.{Event}
use Rattle.hoare_law.specs.declared.event.History.{History}
use Rattle.hoare_law.specs.Turns.{turn, outside}
use Rattle.hoare_law.specs.Waiting.{chosen, priority_of, wait_by}
use Rattle.hoare_law.specs.Priorities.{priorities}
use Rattle.wait_book.specs.declared.steps.Next.{Next}
use Rattle.wait_book.specs.declared.steps.Next.TheVariants.{Free, For, Held}
use Rattle.wait_book.specs.declared.steps.Step.{Step}
use Rattle.wait_book.specs.declared.steps.StepRefused.{StepRefused}
use Rattle.wait_book.specs.declared.steps.StepRefused.TheVariants.{NoPlace, NotFree, NotOutside, NotInside, NoCondition}
use Rattle.wait_book.specs.declared.steps.StepRefused.TheVariants.{WrongKind}
use Rattle.wait_book.specs.declared.steps.MakeRefused.{MakeRefused}
use Rattle.wait_book.specs.declared.steps.MakeRefused.TheVariants.{BadPlaces, BadConditions, Memory}
use Rattle.wait_book.specs.Contents.{Contents, IsOf, IsPlaceBelow, next_of}
use Rattle.wait_book.specs.Stepping.{act_refusal, after_signal_to, after_step, kind_refusal, refusal_of, settled}
use Rattle.book_c.specs.Held.{Holds}

-- the place that resumes or is inside, or 64 if the monitor is free
abbrev pub code_of : Next → ℕ
code_of Free = 64
code_of (For k) = k
code_of (Held k) = k

abbrev pub refusal_code : StepRefused → ℕ
refusal_code NoPlace = 101
refusal_code NotFree = 102
refusal_code NotOutside = 103
refusal_code NotInside = 104
refusal_code NoCondition = 105
refusal_code WrongKind = 106

abbrev pub make_code : MakeRefused → ℕ
make_code BadPlaces = 109
make_code BadConditions = 110
make_code Memory = 111

-- the code is whose turn it is after these events: the place that resumes or is inside, which is below 64, or 64 if the
-- monitor is free
pub record Tells (h : History (Unit {0})) (code : ℕ) : Type 0 where
  pub is : code ≡ code_of (next_of (turn h.events))
  pub below : IsPlaceBelow 64 (next_of (turn h.events))

-- what a step made of a book of history h, and its code. Either it was done, and the code is that of the turn then. Or
-- it was refused: the code is the refusal's, and the book is still of its history
pub data Stepped (h : History (Unit {0})) (step : Step) (new : Contents) (code : ℕ) : Type 0 where
  done : refusal_of h step ≡ None → IsOf new (after_step h step) → Tells (after_step h step) code
      → Stepped h step new code
  refused : (r : StepRefused) → refusal_of h step ≡ Some r → IsOf new h → code ≡ refusal_code r
      → Stepped h step new code

-- what a signal of place k to place w on c made of a book of history h, and its code: as of a step
pub data SignalledTo (h : History (Unit {0})) (k c w : ℕ) (new : Contents) (code : ℕ) : Type 0 where
  was_done : act_refusal h k (kind_refusal h false c) ≡ None
      → IsOf new (settled (after_signal_to h k c w (wait_by w c h.events)))
      → Tells (settled (after_signal_to h k c w (wait_by w c h.events))) code
      → SignalledTo h k c w new code
  was_refused : (r : StepRefused) → act_refusal h k (kind_refusal h false c) ≡ Some r → IsOf new h
      → code ≡ refusal_code r → SignalledTo h k c w new code

-- such a signal that finds a book of a history leaves it there
abbrev pub SignalsTo : ℕ → Contents → ℕ → ℕ → ℕ → ℕ → Contents → ℕ → Type 0
SignalsTo live old k c w live' new code =
    (h : History (Unit {0})) → Holds live old h → (live' ≡ 1) × SignalledTo h k c w new code

-- a step that finds a book (live is 1) of a history makes of it what the step says, and leaves it there
abbrev pub Steps : ℕ → Contents → Step → ℕ → Contents → ℕ → Type 0
Steps live old step live' new code =
    (h : History (Unit {0})) → Holds live old h → (live' ≡ 1) × Stepped h step new code

-- a refusal leaves the book as it was
abbrev pub RefusalKeeps : Contents → Contents → ℕ → Type 0
RefusalKeeps old new code = 64 < code → new ≡ old

-- if there is no book (live is 0), the code is 107, and C's words are as they were
abbrev pub LacksBook : {W : Type 0} → ℕ → W → W → ℕ → Type 0
LacksBook live old new code = live ≡ 0 → (code ≡ 107) × (new ≡ old)

-- a code below 64 is a place of the book, which has so many; else it is 64, or a refusal, 101 to 107
pub record IsStepCode (places code : ℕ) : Type 0 where
  pub place : code < 64 → code < places
  pub refusal : 64 < code → 101 ≤ code
  pub most : code ≤ 107

-- an answer from `least` to `most`, the code of a refusal, or 107 if there is no book
pub data IsAnswer (least most refusal code : ℕ) : Type 0 where
  answer : least ≤ code → code ≤ most → IsAnswer least most refusal code
  refused_by : code ≡ refusal → IsAnswer least most refusal code
  no_book : code ≡ 107 → IsAnswer least most refusal code

-- 1 if the place is outside, else 0; or 101 if no place has this number
abbrev pub outside_code : History (Unit {0}) → ℕ → ℕ
outside_code h k = if nat_lt k h.sizes.places then (if outside k h.events then 1 else 0) else 101

-- 1 if there is a value, else 0
abbrev pub some_code : {X : Type 0} → Option X → ℕ
some_code None = 0
some_code (Some x) = 1

-- 1 if a place waits on the condition, so that a signal would resume it, else 0; or 105 if no condition has this number
abbrev pub queue_code : History (Unit {0}) → ℕ → ℕ
queue_code h c = if nat_lt c h.sizes.conditions then some_code (chosen c h.events) else 105

abbrev pub priority_or : Option (Event (Unit {0})) → ℕ → ℕ
priority_or None kept = kept
priority_or (Some e) kept = priority_of e

-- the priority of the place that a signal would resume, or the former value if there is no such place or condition
abbrev pub first_or : History (Unit {0}) → ℕ → ℕ → ℕ
first_or h c kept = if nat_lt c h.sizes.conditions then priority_or (chosen c h.events) kept else kept

-- 0 if a condition has this number, else 105
abbrev pub condition_code : History (Unit {0}) → ℕ → ℕ
condition_code h c = if nat_lt c h.sizes.conditions then 0 else 105

-- the number of places that wait on the condition, or the former value if no condition has this number
abbrev pub count_or : History (Unit {0}) → ℕ → ℕ → ℕ
count_or h c kept = if nat_lt c h.sizes.conditions then length (priorities h.events c) else kept
