-- The answer to a command after a history, and how an answer is spelled.
use Rattle.std.specs.Prelude.{ℕ, List, [], ◌∷◌, ◌++◌, Bool, true, false, Option, Some, None, Result, Ok, Err, codes}
use Rattle.std.specs.Prelude.{decimal}
use Rattle.hoare_law.specs.declared.event.Event.{Event}
use Rattle.hoare_law.specs.declared.event.History.{History}
use Rattle.hoare_law.specs.declared.turn.Turn.{Turn}
use Rattle.hoare_law.specs.declared.turn.Turn.TheVariants as turns
use Rattle.hoare_law.specs.Turns.{turn}
use Rattle.hoare_law.specs.Waiting.{waiting, chosen, priority_of}
use Rattle.wait_book.specs.declared.steps.Next.{Next}
use Rattle.wait_book.specs.declared.steps.Next.TheVariants as next
use Rattle.wait_book.specs.declared.steps.Step.{Step}
use Rattle.wait_book.specs.declared.steps.StepRefused.{StepRefused}
use Rattle.wait_book.specs.declared.steps.StepRefused.TheVariants.{NoPlace, NotFree, NotOutside, NotInside, NoCondition}
use Rattle.wait_book.specs.declared.steps.StepRefused.TheVariants.{WrongKind}
use Rattle.wait_book.specs.Stepping.{refusal_of, condition_refusal, after_step}
use Rattle.hoare_script.specs.declared.answers.Answer.{Answer}
use Rattle.hoare_script.specs.declared.answers.Answer.TheVariants.{Free, Inside, Waiting, Nobody, Priority, Refused}
use Rattle.hoare_script.specs.declared.lines.Command.{Command}
use Rattle.hoare_script.specs.declared.lines.Command.TheVariants.{Do, Queue, First}

-- the place that is inside, or to which the monitor is owed or returns; or that the monitor is free
abbrev pub turn_answer : Turn → Answer
turn_answer turns.Free = Free
turn_answer (turns.Held k) = Inside k
turn_answer (turns.Owed k c) = Inside k
turn_answer (turns.Return k) = Inside k

-- the answer to a step, and the history after it, by its refusal, if there is one
abbrev pub step_answer : History (Unit {0}) → Step → Option StepRefused → Answer
step_answer h s None = turn_answer (turn (after_step h s).events)
step_answer h s (Some r) = Refused r

abbrev pub history_by : History (Unit {0}) → Step → Option StepRefused → History (Unit {0})
history_by h s None = after_step h s
history_by h s (Some r) = h

abbrev pub is_nonempty : {X : Type 0} → List X → Bool
is_nonempty [] = false
is_nonempty (x ∷ xs) = true

-- true if a process waits on c; or the refusal
abbrev pub queue_answer : History (Unit {0}) → ℕ → Option StepRefused → Answer
queue_answer h c None = Waiting (is_nonempty (waiting c h.events))
queue_answer h c (Some r) = Refused r

abbrev pub priority_answer : Option (Event (Unit {0})) → Answer
priority_answer None = Nobody
priority_answer (Some e) = Priority (priority_of e)

-- the priority of the chosen waiter on c, if there is one; or the refusal
abbrev pub first_answer : History (Unit {0}) → ℕ → Option StepRefused → Answer
first_answer h c None = priority_answer (chosen c h.events)
first_answer h c (Some r) = Refused r

-- the answer to a command after the history h, and the history after the command
unfoldable pub answer_to : History (Unit {0}) → Command → Answer
answer_to h (Do s) = step_answer h s (refusal_of h s)
answer_to h (Queue c) = queue_answer h c (condition_refusal h c)
answer_to h (First c) = first_answer h c (condition_refusal h c)

unfoldable pub history_after : History (Unit {0}) → Command → History (Unit {0})
history_after h (Do s) = history_by h s (refusal_of h s)
history_after h (Queue c) = h
history_after h (First c) = h

abbrev pub refusal_number : StepRefused → ℕ
refusal_number NoPlace = 1
refusal_number NotFree = 2
refusal_number NotOutside = 3
refusal_number NotInside = 4
refusal_number NoCondition = 5
refusal_number WrongKind = 6

abbrev pub text_of : Answer → List ℕ
text_of Free = codes "free"
text_of (Inside k) = decimal k
text_of (Waiting true) = codes "true"
text_of (Waiting false) = codes "false"
text_of Nobody = codes "none"
text_of (Priority p) = decimal p
text_of (Refused r) = codes "refused " ++ decimal (refusal_number r)

-- a line with its answer
abbrev pub answer_line : List ℕ → Answer → List ℕ
answer_line line answer = line ++ (codes " -> " ++ (text_of answer ++ 10 ∷ []))

-- the answer to a step of the book with this outcome
abbrev pub outcome_answer : Result Next StepRefused → Answer
outcome_answer (Ok next.Free) = Free
outcome_answer (Ok (next.Held k)) = Inside k
outcome_answer (Ok (next.For k)) = Inside k
outcome_answer (Err r) = Refused r
