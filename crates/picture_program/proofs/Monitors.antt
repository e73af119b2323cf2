-- A monitor stays at the end of its history, and its lanes show that history.
use Rattle.std.proofs.Common.{◌≡◌, ◌<◌, ◌≤◌, ◌&&◌, ◌↔◌, ◌+◌, ℕ, Bool, true, false, cond, leb, List, length, slice_index_or}
use Rattle.std.proofs.Common.{Option, None, Some, refl, ap, slice_set, sym, ◌∙◌, subst, arith, ⊎_elim}
use Rattle.std.proofs.lemmas.Bool.{cases_lt}
use Rattle.std.proofs.lemmas.Bool.Decides.{nat_tests}
use Rattle.std.proofs.lemmas.Grind.{get_or-set_at}
use Rattle.std.proofs.lemmas.List.{get_or-set_other}
use Rattle.hoare_law.specs.declared.event.Sizes.{Sizes}
use Rattle.hoare_law.proofs.Opening.{turn-opened}
use Rattle.wait_book.specs.declared.steps.MakeRefused.{MakeRefused}
use Rattle.wait_book.specs.declared.steps.MakeRefused.TheVariants.{BadPlaces, BadConditions}
use Rattle.wait_book.specs.Contents.{IsOf, make_refusal}
use Rattle.wait_book.specs.Numbers.{notified_position}
use Rattle.hoare_script.specs.Answers.{answer_to, history_after}
use Rattle.hoare_script.specs.declared.answers.Answer.{Answer}
use Rattle.hoare_script.specs.declared.lines.Command.{Command}
use Rattle.hoare_script.specs.declared.lines.Header.{Header}
use Rattle.hoare_script.specs.Lines.{sizes_in}
use Rattle.picture_program.specs.declared.monitor.Lane.{Lane}
use Rattle.picture_program.specs.declared.monitor.Lane.TheVariants as lanes
use Rattle.picture_program.specs.declared.monitor.Monitor.{Monitor}
use Rattle.picture_program.specs.Lanes.{Does, IsAt, IsClaimed, last_commanded, last_of, numbered, opening}
use Rattle.picture_program.proofs.Does.{Log, Does-lane, lane_of}
use Rattle.picture_program.proofs.Steps.{acted}

-- a book that was made has at most 64 places
pub few_places : (n : Sizes) → make_refusal n ≡ None → n.places ≤ 64
few_places n is = by (leb 1 n.places) (leb n.places 64) refl is
  where
    conditions : Option MakeRefused
    conditions = cond (leb 1 n.conditions && (leb n.conditions 8 && leb n.mesa n.conditions)) None (Some BadConditions)

    by : (a b : Bool) → leb n.places 64 ≡ b → cond (a && b) conditions (Some BadPlaces) ≡ None → n.places ≤ 64
    by true true e x = grind (arith, nat_tests)
    by true false e x = absurd (cc)
    by false b e x = absurd (cc)

pub at_opening : (header : Header) (m : Monitor) → IsOf m.opened (opening header) → length m.last ≡ 64
    → ((k : ℕ) → k < 64 → slice_index_or m.last k lanes.Outside ≡ lanes.Outside) → IsAt m (opening header)
at_opening header m of long out = record {
  book = of;
  claimed = subst IsClaimed (sym (turn-opened (sizes_in header) tt)) tt;
  long = long;
  each = out;
}

pub at_next : (old new : Monitor) (h : Log) (c : Command) (a : Answer) → IsAt old h → a ≡ answer_to h c
    → IsOf new.opened (history_after h c) → length new.last ≡ length old.last
    → ((k : ℕ) → k < length old.last → slice_index_or new.last k lanes.Outside
    ≡ last_commanded c k (slice_index_or old.last k lanes.Outside) a)
    → IsAt new (history_after h c)
at_next old new h c a at is of long each = record {
  book = of;
  claimed = (acted h c 0 at.claimed).0;
  long = long ∙ at.long;
  each = λ k below.
      each k (subst (λ (n : ℕ). k < n) (sym at.long) below)
      ∙ ap (λ (l : Lane). last_commanded c k l a) (at.each k below)
      ∙ ap (last_commanded c k (last_of h k)) is
      ∙ sym (acted h c k at.claimed).1;
}

pub lane_is : (m : Monitor) (h : Log) (k : ℕ) (drawn : Lane) → IsAt m h → k < 64
    → drawn ≡ numbered (notified_position h.events k) (slice_index_or m.last k lanes.Outside)
    → (lane : Lane) → Does h k lane ↔ (lane ≡ drawn)
lane_is m h k drawn at below is lane =
    let one : Does h k lane ↔ (lane ≡ lane_of h k) = Does-lane m.opened h k lane at.book at.claimed in
    let same : drawn ≡ lane_of h k = is ∙ ap (numbered (notified_position h.events k)) (at.each k below) in
    (λ d. one.0 d ∙ sym same, λ e. one.1 (e ∙ same))

-- one more lane is what its place does
pub lane_more : (h : Log) (drawn : List Lane) (n : ℕ) (l : Lane) → n < length drawn
    → ((lane : Lane) → Does h n lane ↔ (lane ≡ l))
    → ((k : ℕ) → k < n → (lane : Lane) → Does h k lane ↔ (lane ≡ slice_index_or drawn k lanes.Outside))
    → (k : ℕ) → k < n + 1 → (lane : Lane)
    → Does h k lane ↔ (lane ≡ slice_index_or (slice_set drawn n l) k lanes.Outside)
lane_more h drawn n l within one done k below lane = ⊎_elim
    (λ less. subst (λ (x : Lane). Does h k lane ↔ (lane ≡ x))
    (sym (get_or-set_other drawn n k l lanes.Outside (λ e. absurd (omega (arith, less, e))))) (done k less lane))
    (λ least. let same : k ≡ n = omega (arith, least, below) in
    subst (λ (x : Lane). Does h k lane ↔ (lane ≡ x)) (sym (get_or-set_at drawn n k l lanes.Outside same within))
    (subst (λ (j : ℕ). Does h j lane ↔ (lane ≡ l)) (sym same) (one lane)))
    (cases_lt k n)
