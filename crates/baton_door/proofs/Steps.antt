-- Each step on the state word keeps the rule.
use Rattle.std.proofs.Common.{◌≡◌, ◌≢◌, ℕ, ◌+◌, ◌<◌, eqb, true, false, List, [], ◌∷◌, get_or, set, length, length-set}
use Rattle.std.proofs.Common.{get_or-set_same, Some, None, refl, sym, ap, ◌∙◌}
use Rattle.std.proofs.Common.{subst, arith, eq-eqb, ne_eqb}
use mathlib.Core.Option.{none}
use native.Mathlib.Decide.{ℕ_discrete}
use prog.Atomic.{either}
use Rattle.atomic_table.specs.Table.{step, Allows}
use Rattle.hoare_law.specs.declared.event.Event.{Event}
use Rattle.hoare_law.specs.Sizes.{Kinds, sizes_at}
use Rattle.hoare_law.specs.declared.event.History.{History}
use Rattle.hoare_law.specs.declared.event.Event.TheVariants.{Admit}
use Rattle.hoare_law.specs.Events.{own, latest_data, opened, with_event}
use Rattle.hoare_law.specs.Lawful.{Rest, Ready, Stands}
use Rattle.hoare_law.specs.Priorities.{nobody}
use Rattle.hoare_law.specs.Called.{called}
use Rattle.hoare_law.specs.Turns.{turn, outside, urgent, IsGivenUp}
use Rattle.hoare_law.proofs.Entering.{outside-same}
use Rattle.wait_book.specs.declared.steps.Next.{Next}
use Rattle.wait_book.specs.Contents.{IsOf}
use Rattle.door_frame.specs.declared.guarded.Guarded.{Guarded}
use Rattle.door_frame.specs.declared.view.SeatView.TheVariants.{Unopened, Opening}
use Rattle.door_frame.specs.Refusals.{NotFree, NotOwed}
use Rattle.door_frame.specs.Rule.{Cells, Tokens, TableInvariant}
use Rattle.door_frame.specs.Steps.{SeatState, Gives, Notes, Refused, begins, opens, gives_as, notes_as, due}
use Rattle.door_frame.specs.Views.{alone}
use Rattle.door_frame.proofs.Steps as frame
use Rattle.baton_door.specs.Rule.{Initial, WordsFit, word_of}
use Rattle.baton_door.specs.Steps.{ComesAt, comes, admits, claims}
use Rattle.baton_door.specs.Words.{word_of_next}
use Rattle.baton_door.proofs.Words.{word_of-next, word_of-free, word_of-due}

-- the word x after a compare-exchange that expects a number and writes 1
abbrev pub taken_at : ℕ → ℕ → ℕ
taken_at expected x = either (eqb x expected) 1 x

taken_at-hit : (expected x : ℕ) → x ≡ expected → taken_at expected x ≡ 1
taken_at-hit expected x hit = ap (λ b. either b 1 x) (eq-eqb x expected hit)

taken_at-miss : (expected x : ℕ) → x ≢ expected → taken_at expected x ≡ x
taken_at-miss expected x miss = ap (λ b. either b 1 x) (ne_eqb x expected miss)

written : (ws : List ℕ) (w : ℕ) → length ws ≡ 8 → get_or (set ws 0 w) 0 0 ≡ w
written ws w wide = get_or-set_same ws 0 w 0 (omega (arith, wide))

-- the state word is held once the first seat has the slot
begun : (ws : List ℕ) → Initial false ws → Initial true (set ws 0 (taken_at 0 (get_or ws 0 0)))
begun ws b = record {
  words_are = length-set ws 0 (taken_at 0 (get_or ws 0 0)) ∙ b.words_are;
  word = written ws (taken_at 0 (get_or ws 0 0)) b.words_are ∙ taken_at-hit 0 (get_or ws 0 0) b.word;
}

module _ {D : Type 0} where
  -- the state word is free when the door has just been opened
  opened_tells : (kinds : Kinds) (n : ℕ) (s : D) (ws : List ℕ) → Initial true ws
      → WordsFit (opened (sizes_at kinds n) s) (λ _. None) (set ws 0 0)
  unfolding turn urgent called
  opened_tells kinds n s ws b = record {
    words_are = length-set ws 0 0 ∙ b.words_are;
    word = written ws 0 b.words_are;
    no_tokens = λ k. refl;
  }

  -- the words fit the history h if the state word is set to that of the turn after h
  rewritten : (f h : History D) (tokens : Tokens) (ws : List ℕ) (w : ℕ) → word_of (turn h.events) ≡ w
      → WordsFit f tokens ws
      → WordsFit h tokens (set ws 0 w)
  rewritten f h tokens ws w is t = record {
    words_are = length-set ws 0 w ∙ t.words_are;
    word = written ws w t.words_are ∙ sym is;
    no_tokens = t.no_tokens;
  }

  module _ (rest : Rest D) (ready : Ready D) (kinds : Kinds) (n : ℕ) where
    abbrev K : Cells D → Type 0
    K = TableInvariant Initial WordsFit rest ready kinds n

    -- the two opening steps
    pub begins_at : (slots id : ℕ) (m : SeatState D) → m ≡ (Unopened n, [])
        → Allows K slots id m 0 (taken_at 0) (begins (step slots 0 0 1 none) m)
    begins_at slots id m is =
        frame.begins_at Initial WordsFit rest ready kinds n slots id 0 (taken_at 0) (step slots 0 0 1 none) m is begun

    pub opens_at : (slots id : ℕ) (x : Guarded D) (m : SeatState D) → m ≡ (Opening n, (0, Some x) ∷ [])
        → rest x.state nobody
        → IsOf x.book (opened (sizes_at kinds n) tt)
        → Allows K slots id m 0 (λ _. 0) (λ _. opens kinds (step slots 0 0 0 none) m 0)
    opens_at slots id x m is at_rest book =
        frame.opens_at Initial WordsFit rest ready kinds n slots id 0 (λ _. 0) x (step slots 0 0 0 none) m is at_rest
        book
        (λ ws b. opened_tells kinds n x.state ws b)

    -- the second opening step, if it picks kinds that are equal to those of the door
    pub opens_as : (picked : Kinds) → picked ≡ kinds → (slots id : ℕ) (x : Guarded D) (m : SeatState D)
        → m ≡ (Opening n, (0, Some x) ∷ []) → rest x.state nobody → IsOf x.book (opened (sizes_at picked n) tt)
        → Allows K slots id m 0 (λ _. 0) (λ _. opens picked (step slots 0 0 0 none) m 0)
    opens_as picked same slots id x m is at_rest book =
        subst (λ (z : Kinds). Allows K slots id m 0 (λ _. 0) (λ _. opens z (step slots 0 0 0 none) m 0)) (sym same)
        (opens_at slots id x m is at_rest (subst (λ (z : Kinds). IsOf x.book (opened (sizes_at z n) tt)) same book))

    -- place k enters by the event if the state word is as expected; else the step changes no word, and k learns the
    -- log, of which Cause holds
    comes_at : (slots id k expected : ℕ) (f : History D) (event : ℕ → History D → D → Event D)
        (Cause : ℕ → History D → Type 0) (m : SeatState D)
        → m ≡ (alone k f, [])
        → ((log : History D) → word_of (turn log.events) ≢ expected → Cause k log)
        → ((log : History D) → Stands rest ready log → k < log.sizes.places → own k log.events ≡ own k f.events
        → word_of (turn log.events) ≡ expected
        → IsGivenUp (turn log.events) × frame.Enters rest ready k log (event k f (latest_data log)))
        → Allows K slots id m 0 (taken_at expected) (comes rest ready event Cause (step slots 0 expected 1 none) m)
    comes_at slots id k expected f event Cause m at missed enters =
        subst
        (λ (p : SeatState D). Allows K slots id p 0 (taken_at expected)
        (comes rest ready event Cause (step slots 0 expected 1 none) p))
        (sym at)
        (frame.told_as K slots id me 0 (taken_at expected) _
        (comes rest ready event Cause (step slots 0 expected 1 none) me)
        (λ r m' c j g is.
        let q = frame.alone_is k j f g [] [] is in
        subst (λ (p : ℕ × History D). ComesAt expected rest ready event Cause p.0 p.1 r m') (λ i. (q.0 i, q.1 i)) c)
        (frame.comes_or Initial WordsFit rest ready kinds n slots id k 0 f None None (event k f) (taken_at expected)
        (λ r. r ≡ expected) (Refused rest ready (Cause k) k f) (λ log. Unit {0})
        (λ r. ℕ_discrete r expected)
        (λ s r here miss. frame.learns_log Initial WordsFit rest ready kinds n s r 0 id
        (taken_at expected (get_or s.words 0 0)) k f (Cause k) here (taken_at-miss expected (get_or s.words 0 0) miss)
        (missed r.log (λ same. miss (r.words_fit.word ∙ same)))) brings))
      where
        me : SeatState D
        me = (alone k f, [])

        brings : (log : History D) (tokens : Tokens) (ws : List ℕ) → Stands rest ready log → log.sizes.places ≡ n
            → k < n
            → own k log.events ≡ own k f.events → tokens k ≡ None → WordsFit log tokens ws → get_or ws 0 0 ≡ expected
            → frame.BringsIn Initial WordsFit rest ready kinds k 0 None (taken_at expected) (λ log. Unit {0}) log
            tokens ws
            (event k f (latest_data log))
        brings log tokens ws stands places small same no_token t hit =
            let e = enters log stands (subst (λ (m : ℕ). k < m) (sym places) small) same (sym t.word ∙ hit) in
            let h : History D = with_event log (event k f (latest_data log)) in record {
              given_up = e.0;
              enters = e.1;
              also = tt;
              tokens' = tokens;
              token_now = no_token;
              others = λ j ne. refl;
              words_fit =
                  subst (λ (w : ℕ). WordsFit h tokens (set ws 0 w)) (sym (taken_at-hit expected (get_or ws 0 0) hit))
                  (rewritten log h tokens ws 1 (ap word_of e.1.inside) t);
            }

    -- a place that is outside enters if it is the turn of no place; else it learns the history
    pub admits_at : (slots id k : ℕ) (f : History D) (m : SeatState D) → m ≡ (alone k f, []) → outside k f.events ≡ true
        → Allows K slots id m 0 (taken_at 0) (admits rest ready (step slots 0 0 1 none) m)
    admits_at slots id k f m is out = comes_at slots id k 0 f (λ j g. Admit j) (λ j. NotFree) m is
        (λ log no free. no (ap word_of free))
        (λ log stands below same w.
        let free = word_of-free (turn log.events) w in (
          frame.given_up_free (turn log.events) free,
          frame.enters_admit rest ready k log below free (outside-same k f log same out),
        ))

    -- a place returns if the monitor is owed to it; else it learns the history
    pub claims_at : (slots id k : ℕ) (f : History D) (m : SeatState D) (w : ℕ) → m ≡ (alone k f, []) → w ≡ k + 2
        → Allows K slots id m 0 (taken_at w) (claims rest ready (step slots 0 w 1 none) m)
    claims_at slots id k f m w is mine = comes_at slots id k w f due NotOwed m is
        (λ log no next. no (sym (word_of-next (turn log.events)) ∙ ap word_of_next next ∙ sym mine))
        (λ log stands below same t.
        let due_to = word_of-due (turn log.events) k (t ∙ mine) in
        (frame.given_up_due k (turn log.events) due_to, frame.enters_due rest ready k log f stands same due_to))

    -- the place inside releases the monitor and writes which place is next, or none
    pub gives_at : (slots id k : ℕ) (f : History D) (x : Guarded D) (who : Next) (event : D → Event D)
        (m : SeatState D) (w : ℕ)
        → m ≡ (alone k f, (0, Some x) ∷ []) → Gives rest ready event k f x who → w ≡ word_of_next who
        → Allows K slots id m 0 (λ _. w) (λ _. gives_as event (step slots 0 w 0 none) m w)
    gives_at slots id k f x who event m w is p word =
        subst (λ (q : SeatState D). Allows K slots id q 0 (λ _. w) (λ _. gives_as event (step slots 0 w 0 none) q w))
        (sym is)
        (frame.gives_ok Initial WordsFit rest ready kinds n slots id k 0 (λ _. w) f x who event (step slots 0 w 0 none)
        p
        (λ tokens ws places small none t.
        let h : History D = with_event f (event x.state) in
        rewritten f h tokens ws w (sym (word_of-next (turn h.events)) ∙ ap word_of_next (sym p.next_is) ∙ sym word) t))

    -- the place inside notifies others: the state word stays the same
    pub notes_at : (slots id k : ℕ) (f : History D) (event : History D → Event D) (m : SeatState D)
        → m ≡ (alone k f, (0, None) ∷ [])
        → Notes rest ready (event f) k f → Allows K slots id m 0 (λ r. r) (notes_as event (step slots 0 0 0 none) m)
    notes_at slots id k f event m is p =
        frame.notes_at Initial WordsFit rest ready kinds n slots id k 0 f event (step slots 0 0 0 none) m is p
        (λ tokens ws t. record {
          words_are = t.words_are;
          word = t.word ∙ ap word_of (p.inside ∙ sym p.stays);
          no_tokens = t.no_tokens;
        })
