-- What the calls of a book promise is the answer to a command.
use Rattle.std.proofs.Common.{◌≡◌, ◌≢◌, ℕ, ◌<◌, ◌≤◌, Bool, true, false, List, [], ◌∷◌, Option, Some, None, Result, Ok}
use Rattle.std.proofs.Common.{Err, refl, ap, sym, ◌∙◌, subst, cond}
use Rattle.std.specs.Prelude.{IsTrue, MatchResult, IfOk, OnErr}
use Rattle.std.specs.Option.{option_map}
use Rattle.hoare_law.specs.declared.event.Event.{Event}
use Rattle.hoare_law.specs.declared.event.History.{History}
use Rattle.hoare_law.specs.declared.event.Sizes.{Sizes}
use Rattle.hoare_law.specs.declared.turn.Turn.{Turn}
use Rattle.hoare_law.specs.declared.turn.Turn.TheVariants as turns
use Rattle.hoare_law.specs.Waiting.{waiting, chosen, priority_of}
use Rattle.wait_book.specs.declared.steps.Step.{Step}
use Rattle.wait_book.specs.declared.steps.Next.{Next}
use Rattle.wait_book.specs.declared.steps.StepRefused.{StepRefused}
use Rattle.wait_book.specs.declared.steps.StepRefused.TheVariants.{NoCondition}
use Rattle.wait_book.specs.Contents.{Contents, IsOf, next_of}
use Rattle.wait_book.specs.Stepping.{refusal_of, condition_refusal, after_step, IsSettled}
use Rattle.hoare_script.specs.declared.lines.Command.{Command}
use Rattle.hoare_script.specs.declared.lines.Command.TheVariants.{Do, Queue, First}
use Rattle.hoare_script.specs.declared.answers.Answer.{Answer}
use Rattle.hoare_script.specs.declared.answers.Answer.TheVariants.{Waiting, Nobody, Priority, Refused}
use Rattle.hoare_script.specs.Answers.{outcome_answer, answer_to, history_after, history_by, step_answer, queue_answer}
use Rattle.hoare_script.specs.Answers.{first_answer, turn_answer, priority_answer, is_nonempty}
use Rattle.std.proofs.lemmas.Bool.{lt-ltb, le-ltb}

-- the outcome of a step and the turn after it have the same answer
outcome_answer-next_of : (t : Turn) → outcome_answer (Ok (next_of t)) ≡ turn_answer t
outcome_answer-next_of turns.Free = refl
outcome_answer-next_of (turns.Held k) = refl
outcome_answer-next_of (turns.Owed k c) = refl
outcome_answer-next_of (turns.Return k) = refl

-- a step of a book of the history h
pub answer_to-Do : (old new : Contents) (h : History (Unit {0})) (s : Step) (r : Result Next StepRefused) → IsOf old h
    → MatchResult r (λ _. (refusal_of h s ≡ None) × IsOf new (after_step h s)) (λ e. refusal_of h s ≡ Some e)
    → IfOk r (λ n. (n ≡ next_of new.turn) × IsSettled n) → OnErr r (new ≡ old)
    → (outcome_answer r ≡ answer_to h (Do s)) × IsOf new (history_after h (Do s))
unfolding answer_to history_after
answer_to-Do old new h s (Ok n) o m t e = (
  ap (λ v. outcome_answer (Ok v)) t.0 ∙ outcome_answer-next_of new.turn ∙ sym (ap turn_answer m.1.turn_is)
      ∙ sym (ap (step_answer h s) m.0),
  subst (λ (v : Option StepRefused). IsOf new (history_by h s v)) (sym m.0) m.1,
)
answer_to-Do old new h s (Err r) o m t e = (
  sym (ap (step_answer h s) m),
  subst (λ (v : Option StepRefused). IsOf new (history_by h s v)) (sym m)
      (subst (λ (v : Contents). IsOf v h) (sym e) o),
)

condition_refusal-none : (b : Contents) (h : History (Unit {0})) (c : ℕ) → IsOf b h → c < b.sizes.conditions
    → condition_refusal h c ≡ None
condition_refusal-none b h c o l =
    ap (λ t. cond t None (Some NoCondition))
    (lt-ltb c h.sizes.conditions (subst (λ (n : Sizes). c < n.conditions) (sym o.sizes) l))

condition_refusal-some : (b : Contents) (h : History (Unit {0})) (c : ℕ) → IsOf b h → b.sizes.conditions ≤ c
    → condition_refusal h c ≡ Some NoCondition
condition_refusal-some b h c o l =
    ap (λ t. cond t None (Some NoCondition))
    (le-ltb c h.sizes.conditions (subst (λ (n : Sizes). n.conditions ≤ c) (sym o.sizes) l))

-- no such condition
pub answer_to-Queue_refused : (b : Contents) (h : History (Unit {0})) (c : ℕ) → IsOf b h → b.sizes.conditions ≤ c
    → Refused NoCondition ≡ answer_to h (Queue c)
unfolding answer_to
answer_to-Queue_refused b h c o l = sym (ap (queue_answer h c) (condition_refusal-some b h c o l))

pub answer_to-First_refused : (b : Contents) (h : History (Unit {0})) (c : ℕ) → IsOf b h → b.sizes.conditions ≤ c
    → Refused NoCondition ≡ answer_to h (First c)
unfolding answer_to
answer_to-First_refused b h c o l = sym (ap (first_answer h c) (condition_refusal-some b h c o l))

is_nonempty-test : {X : Type 0} (t : Bool) (xs : List X) → (IsTrue t → xs ≢ []) → (xs ≢ [] → IsTrue t)
    → t ≡ is_nonempty xs
is_nonempty-test true [] f g = absurd (f refl refl)
is_nonempty-test false [] f g = refl
is_nonempty-test true (x ∷ xs) f g = refl
is_nonempty-test false (x ∷ xs) f g = g (λ e. cc)

pub answer_to-Queue : (b : Contents) (h : History (Unit {0})) (c : ℕ) (t : Bool) → IsOf b h → c < b.sizes.conditions
    → (IsTrue t → waiting c h.events ≢ []) × (waiting c h.events ≢ [] → IsTrue t) → Waiting t ≡ answer_to h (Queue c)
unfolding answer_to
answer_to-Queue b h c t o l w =
    ap Waiting (is_nonempty-test t (waiting c h.events) w.0 w.1)
    ∙ sym (ap (queue_answer h c) (condition_refusal-none b h c o l))

-- the answer with a priority, or that no process waits
abbrev pub priority_or_none : Option ℕ → Answer
priority_or_none None = Nobody
priority_or_none (Some p) = Priority p

priority_or_none-option_map : (e : Option (Event (Unit {0})))
    → priority_or_none (option_map priority_of e) ≡ priority_answer e
priority_or_none-option_map None = refl
priority_or_none-option_map (Some e) = refl

pub answer_to-First : (b : Contents) (h : History (Unit {0})) (c : ℕ) (p q : Option ℕ) → IsOf b h
    → c < b.sizes.conditions
    → p ≡ option_map priority_of (chosen c h.events) → p ≡ q → priority_or_none q ≡ answer_to h (First c)
unfolding answer_to
answer_to-First b h c p q o l e f =
    ap priority_or_none (sym f ∙ e) ∙ priority_or_none-option_map (chosen c h.events)
    ∙ sym (ap (first_answer h c) (condition_refusal-none b h c o l))

pub history_after-Queue : (h : History (Unit {0})) (c : ℕ) → history_after h (Queue c) ≡ h
unfolding history_after
history_after-Queue h c = refl

pub history_after-First : (h : History (Unit {0})) (c : ℕ) → history_after h (First c) ≡ h
unfolding history_after
history_after-First h c = refl

-- a command that adds nothing to the history
pub answer_to-unchanged : (b : Contents) (h : History (Unit {0})) (command asked : Command) (r : Answer) → IsOf b h
    → history_after h asked ≡ h → command ≡ asked → r ≡ answer_to h asked
    → (r ≡ answer_to h command) × IsOf b (history_after h command)
answer_to-unchanged b h command asked r o e f a =
    (a ∙ sym (ap (answer_to h) f), subst (λ (v : History (Unit {0})). IsOf b v) (sym (ap (history_after h) f ∙ e)) o)
