-- What each place does by its own last event after a command, by the answer; and that no place is owed the monitor then.
use Rattle.std.proofs.Common.{◌≡◌, ◌==◌, ◌<◌, ◌+◌, ℕ, suc, zero, Bool, true, false, cond, eqb-true, add-one, arith}
use Rattle.std.proofs.Common.{take, List, [], ◌∷◌, length, slice_index_or, Option, Some, None, refl, ap, sym, ◌∙◌, subst}
use Rattle.hoare_law.specs.declared.event.Event.TheVariants as event
use Rattle.hoare_law.specs.declared.turn.Turn.{Turn}
use Rattle.hoare_law.specs.declared.turn.Turn.TheVariants.{Free, Held, Owed, Return}
use Rattle.hoare_law.specs.Events.{place_of, with_event}
use Rattle.hoare_law.specs.Called.{called}
use Rattle.hoare_law.specs.Waiting.{chosen, waiting}
use Rattle.hoare_law.specs.Turns.{urgent, turn, turn_by, IsGivenUp}
use Rattle.hoare_law.proofs.Held.{is_inside}
use Rattle.hoare_law.proofs.Leaving.{given_up-left}
use Rattle.hoare_law.proofs.Turns.{turn-push}
use Rattle.wait_book.specs.declared.steps.Step.{Step}
use Rattle.wait_book.specs.declared.steps.Step.TheVariants.{Enter, Wait, Signal, Pass, Leave, Notify, Broadcast}
use Rattle.wait_book.specs.declared.steps.StepRefused.{StepRefused}
use Rattle.wait_book.specs.declared.steps.StepRefused.TheVariants.{NoPlace, NotInside}
use Rattle.wait_book.specs.Stepping.{is_held_by, act_refusal, kind_refusal, refusal_of, after_signal, after_pass}
use Rattle.wait_book.specs.Stepping.{after_notify, after_broadcast, after_claim, settled, after_step}
use Rattle.hoare_script.specs.Answers.{turn_answer, step_answer, history_by, answer_to, history_after}
use Rattle.hoare_script.specs.declared.lines.Command.{Command}
use Rattle.hoare_script.specs.declared.lines.Command.TheVariants.{Do, Queue, First}
use Rattle.picture_program.specs.declared.monitor.Lane.{Lane}
use Rattle.picture_program.specs.declared.monitor.Lane.TheVariants as lanes
use Rattle.picture_program.specs.Lanes.{IsClaimed, actor, last_answered, last_commanded, last_left, last_of, left_as, left_by, opening}
use Rattle.picture_program.specs.declared.script.Script.{Script}
use Rattle.picture_program.specs.Rows.{after_commands, history_before}
use Rattle.picture_program.proofs.Does.{Log, Act, inside_last, last_of-push}

-- the turn after one more event
turn-with : (h : Log) (e : Act)
    → turn (with_event h e).events ≡ turn_by e (urgent (with_event h e).events) (called (with_event h e).events)
unfolding with_event
turn-with h e = turn-push h.events e

-- no place is owed the monitor, and place k did what a step and its answer say since it did `before`
abbrev IsMoved : Log → Step → ℕ → Lane → Type 0
IsMoved h s k before =
    IsClaimed (turn h.events) × (last_of h k ≡ last_answered s k before (turn_answer (turn h.events)))

-- after an event that releases the monitor the place that is owed it resumes
released : (h : Log) (s : Step) (e : Act) (k : ℕ) → is_inside e ≡ false → place_of e ≡ actor s → left_by e ≡ left_as s
    → IsMoved (settled (with_event h e)) s k (last_of h k)
released h s e k out same leaves =
    let g : Log = with_event h e in
    by g (turn g.events) refl (given_up-left h e out)
    (last_of-push h e k ∙ ap (λ (j : ℕ). cond (j == k) (left_by e) (last_of h k)) same
    ∙ ap (λ (l : Lane). cond (actor s == k) l (last_of h k)) leaves)
  where
    moved : (g f : Log) (j : ℕ) → turn f.events ≡ Held j → last_of f k ≡ cond (j == k) lanes.Inside (last_of g k)
        → last_of g k ≡ last_left s k (last_of h k) → IsMoved f s k (last_of h k)
    moved g f j is resumes left = (
      subst IsClaimed (sym is) tt,
      resumes ∙ ap (λ (l : Lane). cond (j == k) lanes.Inside l) left
          ∙ ap (λ (t : Turn). last_answered s k (last_of h k) (turn_answer t)) (sym is),
    )

    by : (g : Log) (t : Turn) → turn g.events ≡ t → IsGivenUp t → last_of g k ≡ last_left s k (last_of h k)
        → IsMoved (after_claim g t) s k (last_of h k)
    by g Free is up left = (
      subst IsClaimed (sym is) tt,
      left ∙ ap (λ (t : Turn). last_answered s k (last_of h k) (turn_answer t)) (sym is),
    )
    by g (Held j) is up left = absurd up
    by g (Owed j c) is up left =
        let f : Log = with_event g (event.Resume j c tt) in
        moved g f j (turn-with g (event.Resume j c tt)) (last_of-push g (event.Resume j c tt) k) left
    by g (Return j) is up left =
        let f : Log = with_event g (event.Back j tt) in
        moved g f j (turn-with g (event.Back j tt)) (last_of-push g (event.Back j tt) k) left

-- an event that leaves its place inside
stays_by : (h : Log) (s : Step) (e : Act) (k : ℕ) → place_of e ≡ actor s → left_by e ≡ lanes.Inside
    → ((us : List ℕ) (ws : List Act) → turn_by e us ws ≡ Held (actor s)) → IsMoved (with_event h e) s k (last_of h k)
stays_by h s e k same inside held =
    let is : turn (with_event h e).events ≡ Held (actor s) = turn-with h e ∙ held _ _ in (
      subst IsClaimed (sym is) tt,
      last_of-push h e k ∙ ap (λ (j : ℕ). cond (j == k) (left_by e) (last_of h k)) same
          ∙ ap (λ (l : Lane). cond (actor s == k) l (last_of h k)) inside ∙ by (actor s == k)
          ∙ ap (λ (t : Turn). last_answered s k (last_of h k) (turn_answer t)) (sym is),
    )
  where
    by : (t : Bool) → cond t lanes.Inside (last_of h k) ≡ cond t lanes.Inside (cond t (left_as s) (last_of h k))
    by true = refl
    by false = refl

-- if nothing happens, the acting place stays inside
stays_so : (h : Log) (s : Step) (k : ℕ) → turn h.events ≡ Held (actor s) → IsMoved h s k (last_of h k)
stays_so h s k held = (
  subst IsClaimed (sym held) tt,
  by (actor s == k) refl ∙ ap (λ (t : Turn). last_answered s k (last_of h k) (turn_answer t)) (sym held),
)
  where
    by : (t : Bool) → (actor s == k) ≡ t
        → last_of h k ≡ cond t lanes.Inside (cond t (left_as s) (last_of h k))
    by true is = sym (inside_last h k (held ∙ ap Held (eqb-true (actor s) k is)))
    by false is = refl

-- a place that isn't refused a step on a condition has the turn
held_is : (h : Log) (j c : ℕ) (mesa : Bool) → act_refusal h j (kind_refusal h mesa c) ≡ None → turn h.events ≡ Held j
held_is h j c mesa r = by_turn (turn h.events) (by_test _ _ (kind_refusal h mesa c) r)
  where
    by_test : (a b : Bool) (further : Option StepRefused)
        → cond a (cond b further (Some NotInside)) (Some NoPlace) ≡ None → b ≡ true
    by_test true true further is = refl
    by_test true false further is = absurd (cc)
    by_test false b further is = absurd (cc)

    by_turn : (t : Turn) → is_held_by j t ≡ true → t ≡ Held j
    by_turn Free is = absurd (cc)
    by_turn (Held i) is = ap Held (eqb-true i j is)
    by_turn (Owed i d) is = absurd (cc)
    by_turn (Return i) is = absurd (cc)

-- what a place does after a step that isn't refused
stepped : (h : Log) (s : Step) (k : ℕ) → refusal_of h s ≡ None → IsMoved (after_step h s) s k (last_of h k)
stepped h (Enter j) k r = stays_by h (Enter j) (event.Admit j tt) k refl refl (λ us ws. refl)
stepped h (Wait j c p) k r = released h (Wait j c p) (event.Wait j c p tt) k refl refl refl
stepped h (Leave j) k r = released h (Leave j) (event.Leave j tt) k refl refl refl
stepped h (Signal j c) k r = by (chosen c h.events)
  where
    held : turn h.events ≡ Held j
    held = held_is h j c false r

    by : (o : Option Act) → IsMoved (settled (after_signal h j c o)) (Signal j c) k (last_of h k)
    by None =
        subst (λ (t : Turn). IsMoved (after_claim h t) (Signal j c) k (last_of h k)) (sym held)
        (stays_so h (Signal j c) k held)
    by (Some e) = released h (Signal j c) (event.Signal j c (place_of e) tt) k refl refl refl
stepped h (Pass j c) k r = by (chosen c h.events)
  where
    by : (o : Option Act) → IsMoved (settled (after_pass h j c o)) (Pass j c) k (last_of h k)
    by None = released h (Pass j c) (event.Leave j tt) k refl refl refl
    by (Some e) = released h (Pass j c) (event.Pass j c (place_of e) tt) k refl refl refl
stepped h (Notify j c) k r = by (chosen c h.events)
  where
    by : (o : Option Act) → IsMoved (after_notify h j c o) (Notify j c) k (last_of h k)
    by None = stays_so h (Notify j c) k (held_is h j c true r)
    by (Some x) = stays_by h (Notify j c) (event.Notify j c (place_of x) tt) k refl refl (λ us ws. refl)
stepped h (Broadcast j c) k r = by (waiting c h.events)
  where
    by : (ws : List Act) → IsMoved (after_broadcast h j c ws) (Broadcast j c) k (last_of h k)
    by [] = stays_so h (Broadcast j c) k (held_is h j c true r)
    by (w ∷ ws) = stays_by h (Broadcast j c) (event.Broadcast j c tt) k refl refl (λ us vs. refl)

-- what a place does after a command, by its answer
pub acted : (h : Log) (c : Command) (k : ℕ) → IsClaimed (turn h.events)
    → IsClaimed (turn (history_after h c).events)
    × (last_of (history_after h c) k ≡ last_commanded c k (last_of h k) (answer_to h c))
unfolding history_after answer_to
acted h (Do s) k claimed = by (refusal_of h s) refl
  where
    by : (o : Option StepRefused) → refusal_of h s ≡ o → IsClaimed (turn (history_by h s o).events)
        × (last_of (history_by h s o) k ≡ last_answered s k (last_of h k) (step_answer h s o))
    by None is = stepped h s k is
    by (Some r) is = (claimed, refl)
acted h (Queue c) k claimed = (claimed, refl)
acted h (First c) k claimed = (claimed, refl)

-- the history after the next command
pub after_commands-next : (h : Log) (cs : List Command) (i : ℕ) (d : Command) → i < length cs
    → after_commands h (take (i + 1) cs) ≡ history_after (after_commands h (take i cs)) (slice_index_or cs i d)
after_commands-next h cs i d below = ap (λ (n : ℕ). after_commands h (take n cs)) (add-one i) ∙ by h cs i below
  where
    by : (g : Log) (ds : List Command) (n : ℕ) → n < length ds
        → after_commands g (take (suc n) ds) ≡ history_after (after_commands g (take n ds)) (slice_index_or ds n d)
    by g [] n less = absurd (omega (arith, less))
    by g (c ∷ ds) zero less = refl
    by g (c ∷ ds) (suc n) less = by (history_after g c) ds n (omega (arith, less))

-- the same of a command that is read at an index
pub history_next : (script : Script) (n : ℕ) (c : Command) → n < length script.commands.items
    → c ≡ slice_index_or script.commands.items n c
    → history_after (history_before script n) c ≡ history_before script (n + 1)
history_next script n c below is =
    ap (history_after (history_before script n)) is
    ∙ sym (after_commands-next (opening script.header) script.commands.items n c below)
