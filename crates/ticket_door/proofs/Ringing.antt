-- Bells: a place that hands the monitor off rings a bell, and the place whose bell is rung returns.
use Rattle.std.proofs.Common.{◌≡◌, ◌≢◌, ℕ, ◌+◌, ◌<◌, ◌%◌, ◌^◌, true, List, [], ◌∷◌, get_or, set, length, length-set}
use Rattle.std.proofs.Common.{get_or-set_same, Option, Some, None, refl, sym, ap, ◌∙◌, subst, arith}
use Rattle.std.proofs.lemmas.List.{get_or-set_other}
use mathlib.Core.Logic.{dite}
use native.Mathlib.Decide.{ℕ_discrete}
use mathlib.Core.Option.{none}
use Rattle.atomic_table.specs.Table.{Step, step, Allows}
use Rattle.hoare_law.specs.declared.event.Event.{Event}
use Rattle.hoare_law.specs.Sizes.{Kinds}
use Rattle.hoare_law.specs.declared.event.History.{History}
use Rattle.hoare_law.specs.declared.turn.Turn.{Turn}
use Rattle.hoare_law.specs.Events.{latest_data, with_event}
use Rattle.hoare_law.specs.Lawful.{Rest, Ready}
use Rattle.hoare_law.specs.Turns.{turn, outside}
use Rattle.hoare_law.proofs.Held.{held_one, outside-held}
use Rattle.wait_book.specs.Contents.{times}
use Rattle.wait_book.specs.declared.steps.Next.TheVariants as next
use Rattle.door_frame.specs.declared.guarded.Guarded.{Guarded}
use Rattle.door_frame.specs.Rule.{Cells, Tokens, TableInvariant}
use Rattle.door_frame.specs.Refusals.{NotOwed}
use Rattle.door_frame.specs.Steps.{SeatState, Gives, Refused, gives_as, due}
use Rattle.door_frame.specs.Views.{alone}
use Rattle.door_frame.proofs.Steps as frame
use Rattle.hoare_law.specs.Admissions.{admissions, admitted}
use Rattle.ticket_door.specs.Rule.{Initial, WordsFit, HasHolder, token_in, IsKept, next_at, serving_at, bell_at, taken}
use Rattle.ticket_door.specs.Rule.{bell_value}
use Rattle.ticket_door.specs.Steps.{takes_bell, TakesBellAt}
use Rattle.hoare_law.proofs.Admissions.{admitted-length, admitted-other}
use Rattle.ticket_door.proofs.Turns.{for_next, rings_due, bell_value_else, bell_value_due, no_admit, held_busy}
use Rattle.ticket_door.proofs.Gate.{holder_stays}
use Rattle.ticket_door.proofs.Turns.{due_busy, due_not_held}
use Rattle.ticket_door.proofs.Turns.{due_inside, still_outside}

module _ {D : Type 0} (first n : ℕ) where
  -- a bell has another number, and it is somebody's turn before and after
  rewritten : (f h : History D) (tokens : Tokens) (ws : List ℕ) (k y : ℕ) → k < n → taken (turn f.events) ≡ 1
      → taken (turn h.events) ≡ 1 → admitted h.events ≡ admitted f.events
      → bell_value (turn h.events) k ≡ y → ((j : ℕ) → j ≢ k → bell_value (turn h.events) j ≡ bell_value (turn f.events)
      j)
      → (t : WordsFit first n f tokens ws) → ((j : ℕ) → 0 < times j t.queue → outside j h.events ≡ true)
      → HasHolder n h t.gate
      → WordsFit first n h tokens (set ws (bell_at k) y)
  rewritten f h tokens ws k y small before after alike here else_ t out holder =
      let same : admissions h.events ≡ admissions f.events =
      sym (admitted-length h.events) ∙ ap length alike ∙ admitted-length f.events in
      let wide = t.words_are in record {
        words_are = length-set ws (bell_at k) y ∙ wide;
        queue = t.queue;
        once = t.once;
        below = t.below;
        are_outside = out;
        gate = t.gate;
        holder = holder;
        tokens_are = λ j. t.tokens_are j ∙ ap (λ (b : List ℕ). token_in t.gate b t.queue j) (sym alike);
        next = get_or-set_other ws (bell_at k) next_at y 0 (λ eq. omega (arith, eq)) ∙ t.next
            ∙ ap (λ (m : ℕ). (first + (m + length t.queue)) % 2 ^ 64) (sym same);
        served = t.served;
        due = let d = t.due in omega (arith, d, before, after, same);
        serving = get_or-set_other ws (bell_at k) serving_at y 0 (λ eq. omega (arith, eq)) ∙ t.serving;
        kept = subst (λ (m : ℕ). IsKept first t.served m t.queue t.gate) (sym same) t.kept;
        bells = λ j b. dite (ℕ_discrete j k)
            (λ is. subst (λ (i : ℕ). get_or (set ws (bell_at k) y) (bell_at i) 0 ≡ bell_value (turn h.events) i)
            (sym is)
            (get_or-set_same ws (bell_at k) y 0 (omega (arith, wide, small)) ∙ sym here))
            (λ ne. get_or-set_other ws (bell_at k) (bell_at j) y 0 (λ eq. ne (omega (arith, eq))) ∙ t.bells j b
            ∙ sym (else_ j ne));
      }

  module _ (rest : Rest D) (ready : Ready D) (kinds : Kinds) where
    abbrev K : Cells D → Type 0
    K = TableInvariant (Initial first n) (WordsFit first n) rest ready kinds n

    -- a place that releases the monitor to the place j rings j's bell
    pub gives_ring : (slots id k j : ℕ) (f : History D) (x : Guarded D) (event : D → Event D)
        (st : Step (Option (Guarded D)))
        → j < n → Gives rest ready event k f x (next.For j)
        → Allows K slots id (alone k f, (0, Some x) ∷ []) (bell_at j) (λ _. 1)
        (gives_as event st (alone k f, (0, Some x) ∷ []))
    gives_ring slots id k j f x event st small p =
        frame.gives_ok (Initial first n) (WordsFit first n) rest ready kinds n slots id k (bell_at j) (λ _. 1) f x
        (next.For j) event st p
        (λ tokens ws places below none t. let h : History D = with_event f (event x.state) in
        let r = rings_due j (turn h.events) (for_next (turn h.events) j (sym p.next_is)) in
        rewritten f h tokens ws j 1 small (ap taken p.inside) r.busy
        (admitted-other f (event x.state) (no_admit f (event x.state) p.allowed (held_busy k _ p.inside))) r.here
        (λ i ne. r.else_ i ne ∙ sym (ap (λ (u : Turn). bell_value u i) p.inside)) t
        (still_outside f (event x.state) k t.queue p.mine (outside-held f.events k p.inside) t.are_outside)
        (holder_stays n f (event x.state) k t.gate (admitted f.events) t.queue p.mine (sym (t.tokens_are k) ∙ none)
        (λ i is. held_one f.events i k is p.inside) t.holder))

    pub takes_bell_ok : (slots id k : ℕ) (f : History D) (st : Step (Option (Guarded D)))
        → Allows K slots id (alone k f, []) (bell_at k) (λ _. 0) (takes_bell rest ready st (alone k f, []))
    takes_bell_ok slots id k f st =
        frame.told_as K slots id (alone k f, []) (bell_at k) (λ _. 0) _ (takes_bell rest ready st (alone k f, []))
        (λ r m c j g is. let q = frame.alone_is k j f g [] [] is in
        subst (λ (p : ℕ × History D). TakesBellAt rest ready p.0 p.1 r m) (λ i. (q.0 i, q.1 i)) c)
        (frame.comes_or (Initial first n) (WordsFit first n) rest ready kinds n slots id k (bell_at k) f None None (due
        k f)
        (λ _. 0) (λ r. r ≡ 1) (Refused rest ready (NotOwed k) k f) (λ log. Unit {0})
        (λ r. ℕ_discrete r 1)
        (λ s r at miss. let b = r.words_fit.bells k (r.fronts id (alone k f) at).0.below in
        frame.learns_log (Initial first n) (WordsFit first n) rest ready kinds n s r (bell_at k) id 0 k f (NotOwed k) at
        (sym (b ∙ bell_value_else (turn r.log.events) k (λ one. miss (b ∙ one))))
        (λ owed. miss (b ∙ (rings_due k (turn r.log.events) (for_next (turn r.log.events) k owed)).here)))
        (λ log tokens ws stands places small same has t hit. let is = bell_value_due (turn log.events) k
        (sym (t.bells k small) ∙ hit) in let r = rings_due k (turn log.events) is in
        let e = frame.enters_due rest ready k log f stands same is in
        let h : History D = with_event log (due k f (latest_data log)) in record {
          given_up = frame.given_up_due k (turn log.events) is;
          enters = e;
          also = tt;
          tokens' = tokens;
          token_now = has;
          others = λ j ne. refl;
          words_fit =
              rewritten log h tokens ws k 0 small r.busy (ap taken e.inside)
              (admitted-other log (due k f (latest_data log))
              (no_admit log (due k f (latest_data log)) e.allowed (due_busy k _ is))) (ap
              (λ (u : Turn). bell_value u k) e.inside)
              (λ j ne. ap (λ (u : Turn). bell_value u j) e.inside ∙ sym (r.else_ j ne)) t
              (still_outside log (due k f (latest_data log)) k t.queue e.mine (due_inside log k stands.legal is)
              t.are_outside)
              (holder_stays n log (due k f (latest_data log)) k t.gate (admitted log.events) t.queue e.mine
              (sym (t.tokens_are k) ∙ has) (λ i held. absurd (due_not_held k i _ is held)) t.holder);
        }))

    -- the same of a seat with that view, and a word that is the bell's
    pub gives_ring_at : (slots id k j : ℕ) (f : History D) (x : Guarded D) (event : D
        → Event D) (bell : ℕ) (m : SeatState D)
        → j < n
        → m ≡ (alone k f, (0, Some x) ∷ []) → Gives rest ready event k f x (next.For j) → bell ≡ bell_at j
        → Allows K slots id m bell (λ _. 1) (λ _. gives_as event (step slots bell 1 0 none) m 1)
    gives_ring_at slots id k j f x event bell m small is p here =
        subst
        (λ (q : SeatState D × ℕ). Allows K slots id q.0 q.1 (λ _. 1) (λ _. gives_as event (step slots q.1 1 0 none) q.0
        1))
        (λ i. (sym is i, sym here i))
        (gives_ring slots id k j f x event (step slots (bell_at j) 1 0 none) small p)

    pub takes_bell_at : (slots id k : ℕ) (f : History D) (bell : ℕ) (m : SeatState D) → m ≡ (alone k f, [])
        → bell ≡ bell_at k
        → Allows K slots id m bell (λ _. 0) (takes_bell rest ready (step slots bell 0 0 none) m)
    takes_bell_at slots id k f bell m is here =
        subst (λ (q : SeatState D × ℕ). Allows K slots id q.0 q.1 (λ _. 0)
        (takes_bell rest ready (step slots q.1 0 0 none)
        q.0))
        (λ i. (sym is i, sym here i))
        (takes_bell_ok slots id k f (step slots (bell_at k) 0 0 none))
