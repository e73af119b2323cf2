-- The first seat opens the door, by two loads of SERVING.
use Rattle.std.proofs.Common.{◌≡◌, ℕ, ◌+◌, ◌*◌, ◌<◌, ◌%◌, ◌^◌, true, false, List, [], ◌∷◌, set, length, length-set}
use Rattle.std.proofs.Common.{get_or-set_same, Some, None, refl, sym, ap, ◌∙◌, subst, arith}
use mathlib.Core.Option.{none}
use lib.ListN.{replicate}
use lib.Seq.{set-get_or}
use Rattle.std.proofs.lemmas.List.{get_or-set_other, get_or-replicate, length-replicate}
use Rattle.atomic_table.specs.Table.{step, Allows}
use Rattle.hoare_law.specs.Admissions.{admissions}
use Rattle.hoare_law.specs.Sizes.{Kinds, sizes_at}
use Rattle.hoare_law.specs.Called.{called}
use Rattle.hoare_law.specs.Events.{opened}
use Rattle.hoare_law.specs.Lawful.{Rest, Ready}
use Rattle.hoare_law.specs.Priorities.{nobody}
use Rattle.hoare_law.specs.Turns.{turn, urgent}
use Rattle.wait_book.specs.Contents.{IsOf}
use Rattle.door_frame.specs.declared.guarded.Guarded.{Guarded}
use Rattle.door_frame.specs.declared.view.SeatView.TheVariants.{Unopened, Opening}
use Rattle.door_frame.specs.Rule.{TableInvariant}
use Rattle.door_frame.specs.Steps.{SeatState, begins, opens}
use Rattle.door_frame.proofs.Steps as frame
use Rattle.ticket_door.specs.Rule.{Initial, WordsFit, open_gate, next_at, serving_at, bell_at}

module _ {D : Type 0} (first n : ℕ) where
  -- the words fit a door that has just been opened: no place has a ticket, and the first ticket is served
  opened_tells : (kinds : Kinds) (s : D) (ws : List ℕ) → Initial first n true ws
      → WordsFit first n (opened (sizes_at kinds n) s) (λ _. None) ws
  unfolding turn admissions urgent called
  opened_tells kinds s ws st = record {
    words_are = st.words_are;
    queue = [];
    once = λ k. omega arith;
    below = λ k some. absurd (omega (arith, some));
    are_outside = λ k some. absurd (omega (arith, some));
    gate = open_gate;
    holder = tt;
    tokens_are = λ k. refl;
    next = st.next ∙ ap (λ (m : ℕ). m % 2 ^ 64) (let same : first ≡ first + 0 = omega arith in same);
    served = 0;
    due = refl;
    serving = st.serving ∙ ap (λ (m : ℕ). m % 2 ^ 64)
        (let same : 2 * first ≡ 2 * (first + 0) + 0 = omega arith in same);
    kept = tt;
    bells = st.bells;
  }

  module _ (rest : Rest D) (ready : Ready D) (kinds : Kinds) where
    begun : (ws : List ℕ) → Initial first n false ws → Initial first n true ws
    begun ws st = record { words_are = st.words_are; next = st.next; serving = st.serving; bells = st.bells }

    pub begins_at : (slots id : ℕ) (m : SeatState D) → m ≡ (Unopened n, [])
        → Allows (TableInvariant (Initial first n) (WordsFit first n) rest ready kinds n) slots id m serving_at (λ r. r)
        (begins (step slots serving_at 0 0 none) m)
    begins_at slots id m is =
        frame.begins_at (Initial first n) (WordsFit first n) rest ready kinds n slots id serving_at (λ r. r)
        (step slots serving_at 0 0 none) m is
        (λ ws st. subst (Initial first n true) (sym (set-get_or ws serving_at 0)) (begun ws st))

    pub opens_at : (slots id : ℕ) (x : Guarded D) (m : SeatState D) → m ≡ (Opening n, (0, Some x) ∷ [])
        → rest x.state nobody
        → IsOf x.book (opened (sizes_at kinds n) tt)
        → Allows (TableInvariant (Initial first n) (WordsFit first n) rest ready kinds n) slots id m serving_at (λ r. r)
        (opens kinds (step slots serving_at 0 0 none) m)
    opens_at slots id x m is at_rest book =
        frame.opens_at (Initial first n) (WordsFit first n) rest ready kinds n slots id serving_at (λ r. r) x
        (step slots serving_at 0 0 none) m is at_rest book
        (λ ws st. subst (WordsFit first n (opened (sizes_at kinds n) x.state) (λ _. None))
        (sym (set-get_or ws serving_at 0)) (opened_tells kinds x.state ws st))

-- the words before the door opens
pub started : (first n : ℕ) (ws : List ℕ) → first < 2 ^ 64
    → ws ≡ set (set (replicate (8 * n + 16) 0) next_at first) serving_at ((2 * first) % 2 ^ 64)
    → Initial first n false ws
started first n ws small is = subst (Initial first n false) (sym is) (record {
  words_are = long;
  next = get_or-set_other (set zeros next_at first) serving_at next_at served 0 (λ e. omega (arith, e))
      ∙ get_or-set_same zeros next_at first 0 (omega (arith, wide)) ∙ same;
  serving = get_or-set_same (set zeros next_at first) serving_at served 0
      (omega (arith, length-set zeros next_at first, wide));
  bells = λ k b. get_or-set_other (set zeros next_at first) serving_at (bell_at k) served 0 (λ e. omega (arith, e))
      ∙ get_or-set_other zeros next_at (bell_at k) first 0 (λ e. omega (arith, e))
      ∙ get_or-replicate (8 * n + 16) (bell_at k) 0 0 (omega (arith, b));
})
  where
    zeros : List ℕ
    zeros = replicate (8 * n + 16) 0

    wide : length zeros ≡ 8 * n + 16
    wide = length-replicate (8 * n + 16) 0

    served : ℕ
    served = (2 * first) % 2 ^ 64

    long : length (set (set zeros next_at first) serving_at served) ≡ 8 * n + 16
    long = length-set (set zeros next_at first) serving_at served ∙ length-set zeros next_at first ∙ wide

    same : first ≡ first % 2 ^ 64
    same = omega (arith, small)
