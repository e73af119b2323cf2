-- Why a place that tries isn't admitted.
use Rattle.std.proofs.Common.{◌≡◌, ◌≢◌, ⊎_elim, inl, inr, ℕ, ◌+◌, ◌*◌, ◌<◌, ◌%◌, ◌^◌, Bool, true, false, List, [], ◌∷◌}
use Rattle.std.proofs.Common.{◌++◌, get_or, length, None, refl, sym, ap, ◌∙◌, subst, arith, append-nil, append_assoc}
use Rattle.std.proofs.Common.{true≢false}
use mathlib.Core.Logic.{dite}
use native.Mathlib.Decide.{ℕ_discrete}
use Rattle.hoare_law.specs.declared.event.Event.{Event}
use Rattle.hoare_law.specs.declared.event.History.{History}
use Rattle.hoare_law.specs.declared.event.Event.TheVariants.{Admit, Wait, Signal, Pass, Leave, Resume, Back, Notify}
use Rattle.hoare_law.specs.declared.event.Event.TheVariants.{Broadcast, SignalTo}
use Rattle.hoare_law.specs.declared.turn.Turn.TheVariants.{Free, Held}
use Rattle.hoare_law.specs.Admissions.{is_admit, admissions, admitted}
use Rattle.hoare_law.specs.Events.{own, with_event}
use Rattle.hoare_law.specs.Growth.{Begins}
use Rattle.hoare_law.specs.Lawful.{Rest, Ready, Stands}
use Rattle.hoare_law.specs.Turns.{turn}
use Rattle.hoare_law.proofs.Admissions.{admissions-other}
use Rattle.hoare_law.proofs.Growth.{Begins-refl, Begins-trans, Begins-push}
use Rattle.hoare_law.proofs.Turns.{turn-push}
use Rattle.wait_book.specs.Contents.{times}
use Rattle.wait_book.proofs.Times.{one_same}
use Rattle.door_frame.specs.Refusals.{IsBarred, NotFree, WasBarred}
use Rattle.door_frame.specs.Rule.{Tokens}
use Rattle.door_frame.specs.Steps.{SeatState, Refused}
use Rattle.door_frame.specs.Views.{alone}
use Rattle.ticket_door.specs.Rule.{WordsFit, Gate, open_gate, shut_by, shut, token_in, HasHolder, next_at, serving_at}
use Rattle.ticket_door.specs.Rule.{taken}
use Rattle.ticket_door.specs.Tries.{IsPassed, NextTells, ServingTells}
use Rattle.ticket_door.proofs.Gate.{not_shut}

-- after an admission it is a place's turn
entered_now : {D : Type 0} (h : History D) (e : Event D) → is_admit e ≡ true → NotFree (with_event h e)
unfolding with_event
entered_now h (Admit k s) is free = let no : Held k ≡ Free = sym (turn-push h.events (Admit k s)) ∙ free in cc
entered_now h (Wait k c p s) is free = absurd (true≢false (sym is))
entered_now h (Signal k c w s) is free = absurd (true≢false (sym is))
entered_now h (Pass k c w s) is free = absurd (true≢false (sym is))
entered_now h (SignalTo k c w s) is free = absurd (true≢false (sym is))
entered_now h (Leave k s) is free = absurd (true≢false (sym is))
entered_now h (Resume k c s) is free = absurd (true≢false (sym is))
entered_now h (Back k s) is free = absurd (true≢false (sym is))
entered_now h (Notify k c w s) is free = absurd (true≢false (sym is))
entered_now h (Broadcast k c s) is free = absurd (true≢false (sym is))

-- if h begins with g and has more admissions, it was a place's turn at some moment between
pub entered_between : {D : Type 0} (k : ℕ) (g h : History D) → Begins g h → admissions g.events ≢ admissions h.events
    → WasBarred k g h
unfolding with_event
entered_between {D = D} k g h b = by g b.later b.sizes b.opening b.is
  where
    split : (g : History D) (e : Event D) → Begins (with_event g e) h
        → (admissions (with_event g e).events ≢ admissions h.events → WasBarred k (with_event g e) h)
        → admissions g.events ≢ admissions h.events → (b : Bool) → is_admit e ≡ b → WasBarred k g h
    split g e ends further more true admits =
        record { moment = with_event g e; begins = Begins-push g e; ends = ends; barred = inl (entered_now g e admits) }
    split g e ends further more false other =
        let r = further (λ same. more (sym (admissions-other g e other) ∙ same)) in
        record { moment = r.moment; begins = Begins-trans (Begins-push g e) r.begins; ends = r.ends; barred = r.barred }

    by : (g : History D) (later : List (Event D)) → g.sizes ≡ h.sizes → g.opening ≡ h.opening
        → g.events ++ later ≡ h.events → admissions g.events ≢ admissions h.events → WasBarred k g h
    by g [] sizes opening is more = absurd (more (ap admissions (sym (append-nil g.events) ∙ is)))
    by g (e ∷ later) sizes opening is more =
        let grown : (g.events ++ e ∷ []) ++ later ≡ h.events = append_assoc g.events (e ∷ []) later ∙ is in
        split g e (record { sizes = sizes; opening = opening; later = later; is = grown })
        (λ more. by (with_event g e) later sizes opening grown more) more (is_admit e) refl

-- the place k, which knew f, read the ticket w in NEXT when it learned g, and learned h, in which w is passed
passed_barred : {D : Type 0} (first : ℕ) {k w : ℕ} {f g h : History D} → Begins f g → NextTells first k w g → Begins g h
    → IsPassed first w k h → WasBarred k f h
passed_barred {D = D} first {k = k} {w = w} {f = f} {g = g} {h = h} to_g told to_h passed =
    ⊎_elim (λ is. ⊎_elim (at_next is) (λ b. at_end b) passed)
    (λ other. record { moment = g; begins = to_g; ends = to_h; barred = inr other }) told
  where
    at_end : IsBarred k h → WasBarred k f h
    at_end b = record { moment = h; begins = Begins-trans to_g to_h; ends = Begins-refl h; barred = b }

    at_next : w ≡ (first + admissions g.events) % 2 ^ 64 → w ≢ (first + admissions h.events) % 2 ^ 64
        → WasBarred k f h
    at_next is passed =
        let r = entered_between k g h to_h
        (λ same. passed (is ∙ ap (λ (m : ℕ). (first + m) % 2 ^ 64) same)) in
        record { moment = r.moment; begins = Begins-trans to_g r.begins; ends = r.ends; barred = r.barred }

-- the place k, which knew f, read the ticket w in NEXT, learned h since, in which w is passed, and isn't admitted
pub refused_later : {D : Type 0} {rest : Rest D} {ready : Ready D} (first : ℕ) {k w : ℕ} {f h : History D}
    {l m : SeatState D} → (r : Refused rest ready (NextTells first k w) k f l) → Begins r.log h
    → own k h.events ≡ own k r.log.events → Stands rest ready h → IsPassed first w k h → m ≡ (alone k h, [])
    → Refused rest ready (WasBarred k f) k f m
refused_later first {h = h} r begins same stands passed is = record {
  log = h;
  me_is = is;
  begins = Begins-trans r.begins begins;
  own_are = same ∙ r.own_are;
  stands = stands;
  cause = passed_barred first r.begins r.cause begins passed;
}

-- a ticket that isn't served while the history is h is passed
pub unserved_passed : {D : Type 0} (first : ℕ) {k w r : ℕ} {h : History D} → ServingTells first k r h
    → r ≢ (2 * w) % 2 ^ 64 → IsPassed first w k h
unserved_passed first {w = w} {h = h} told other =
    ⊎_elim (λ is. inl (λ next. other (is ∙ sym (twice next)))) (λ barred. inr barred) told
  where
    twice : w ≡ (first + admissions h.events) % 2 ^ 64 → (2 * w) % 2 ^ 64 ≡ (2 * (first + admissions h.events)) % 2 ^ 64
    twice is = ap (λ (m : ℕ). (2 * m) % 2 ^ 64) is ∙ double (first + admissions h.events)
      where
        double : (n : ℕ) → (2 * (n % 2 ^ 64)) % 2 ^ 64 ≡ (2 * n) % 2 ^ 64
        double n = omega arith

-- a ticket that isn't in NEXT while the history is h is passed
pub untaken_passed : {D : Type 0} (first : ℕ) {k w r : ℕ} {h : History D} → NextTells first k r h → r ≢ w
    → IsPassed first w k h
untaken_passed first told other =
    ⊎_elim (λ is. inl (λ next. other (is ∙ sym next))) (λ another. inr (inr another)) told

module _ {D : Type 0} (first n : ℕ) where
  -- what NEXT tells a place that isn't in the queue
  pub next_tells : (k : ℕ) (log : History D) (tokens : Tokens) (ws : List ℕ) → log.sizes.places ≡ n
      → (t : WordsFit first n log tokens ws) → times k t.queue ≡ 0 → NextTells first k (get_or ws next_at 0) log
  next_tells k log tokens ws places t none = by t.queue refl
    where
      by : (q : List ℕ) → t.queue ≡ q → NextTells first k (get_or ws next_at 0) log
      by [] is = inl (t.next ∙ ap (λ (m : ℕ). (first + m) % 2 ^ 64)
          (let empty = ap length is in
          let same : admissions log.events + length t.queue ≡ admissions log.events = omega (arith, empty) in same))
      by (j ∷ q) is =
          let some : 0 < times j t.queue = subst (λ (p : List ℕ). 0 < times j p) (sym is) (omega (arith, one_same j)) in
          inr (record {
            other = j;
            below = subst (λ (m : ℕ). j < m) (sym places) (t.below j some);
            apart = λ same. let here = subst (λ (i : ℕ). 0 < times i t.queue) same some in omega (arith, here, none);
            is_outside = t.are_outside j some;
          })

  -- what SERVING tells a place without a token
  pub serving_tells : (k : ℕ) (log : History D) (tokens : Tokens) (ws : List ℕ) → log.sizes.places ≡ n
      → tokens k ≡ None → (t : WordsFit first n log tokens ws) → ServingTells first k (get_or ws serving_at 0) log
  serving_tells k log tokens ws places none t = by t.gate refl
    where
      by : (g : Gate) → t.gate ≡ g → ServingTells first k (get_or ws serving_at 0) log
      by open_gate is = dite (ℕ_discrete (taken (turn log.events)) 0)
          (λ free. inl (t.serving ∙ ap (λ (g : Gate). (2 * (first + t.served) + shut g) % 2 ^ 64) is
          ∙ ap (λ (m : ℕ). m % 2 ^ 64)
          (let due = t.due in
          let same : 2 * (first + t.served) + 0 ≡ 2 * (first + admissions log.events) = omega (arith, due, free) in same)))
          (λ busy. inr (inl (λ free. busy (ap taken free))))
      by (shut_by j v) is =
          let holder : HasHolder n log (shut_by j v) = subst (HasHolder n log) is t.holder in
          let free : token_in (shut_by j v) (admitted log.events) t.queue k ≡ None =
          subst (λ (g : Gate). token_in g (admitted log.events) t.queue k ≡ None) is (sym (t.tokens_are k) ∙ none) in
          inr (⊎_elim
          (λ out. inr (record {
            other = j;
            below = subst (λ (m : ℕ). j < m) (sym places) holder.0;
            apart = λ same. not_shut j v (admitted log.events) t.queue k free (sym same);
            is_outside = out;
          }))
          (λ held. inl (λ free. let no : Held j ≡ Free = sym held ∙ free in cc)) holder.1)
