-- A place that is inside by its own events has the turn, in a legal history.
use Rattle.std.proofs.Common.{◌≡◌, ◌==◌, ℕ, zero, suc, List, [], ◌∷◌, ◌++◌, length, Bool, true, false, cond, Some}
use Rattle.std.proofs.Common.{refl, ap, sym, ◌∙◌, arith, eq-eqb, eqb-true, true≢false, length-append}
use Rattle.std.proofs.Common.{append_assoc}
use Rattle.std.proofs.lemmas.List.{append-nil}
use Rattle.hoare_law.specs.declared.event.Event.{Event}
use Rattle.hoare_law.specs.declared.event.Event.TheVariants.{Admit, Wait, Signal, Pass, Leave, Resume, Back, Notify}
use Rattle.hoare_law.specs.declared.event.Event.TheVariants.{Broadcast, SignalTo}
use Rattle.hoare_law.specs.declared.event.History.{History}
use Rattle.hoare_law.specs.declared.turn.Turn.TheVariants.{Held}
use Rattle.hoare_law.specs.Called.{called}
use Rattle.hoare_law.specs.Events.{place_of, own, newest, cut_to}
use Rattle.hoare_law.specs.Legal.{Allowed, IsLegal}
use Rattle.hoare_law.specs.Turns.{urgent, turn, turn_by, is_in, inside}
use Rattle.hoare_law.proofs.Events.{newest-push, own-push}
use Rattle.hoare_law.proofs.Filters.{HasLast, nothing, pushed, has_last}
use Rattle.hoare_law.proofs.Fronts.{place_of-held}
use Rattle.hoare_law.proofs.Held.{is_inside, own-held}
use Rattle.hoare_law.proofs.Turns.{turn-push}

module _ {S : Type 0} where
  in_by : (b : Bool) (xs : List (Event S)) (e : Event S)
      → is_in (newest (xs ++ cond b (e ∷ []) [])) ≡ cond b (is_in (Some e)) (is_in (newest xs))
  in_by true xs e = ap is_in (newest-push xs e)
  in_by false xs e = ap (λ l. is_in (newest l)) (append-nil xs)

  -- a place is inside as it was, unless it acted last
  inside-push : (k : ℕ) (h : List (Event S)) (e : Event S)
      → inside k (h ++ e ∷ []) ≡ cond (place_of e == k) (is_in (Some e)) (inside k h)
  unfolding inside
  inside-push k h e = ap (λ l. is_in (newest l)) (own-push k h e) ∙ in_by (place_of e == k) (own k h) e

  nobody_inside : (k : ℕ) (h : List (Event S)) → h ≡ [] → inside k h ≡ false
  unfolding inside
  nobody_inside k h none = ap (λ l. is_in (newest (own k l))) none

  -- after such an event it is the turn of its place
  turn_by_in : (e : Event S) (us : List ℕ) (ws : List (Event S)) → is_in (Some e) ≡ true
      → turn_by e us ws ≡ Held (place_of e)
  turn_by_in (Admit k s) us ws is = refl
  turn_by_in (Resume k c s) us ws is = refl
  turn_by_in (Back k s) us ws is = refl
  turn_by_in (Notify k c w s) us ws is = refl
  turn_by_in (Broadcast k c s) us ws is = refl
  turn_by_in (Wait k c p s) us ws is = absurd (cc)
  turn_by_in (Signal k c w s) us ws is = absurd (cc)
  turn_by_in (SignalTo k c w s) us ws is = absurd (cc)
  turn_by_in (Pass k c w s) us ws is = absurd (cc)
  turn_by_in (Leave k s) us ws is = absurd (cc)

  is_in-stays : (e : Event S) → is_inside e ≡ true → is_in (Some e) ≡ true
  is_in-stays (Admit k s) is = refl
  is_in-stays (Resume k c s) is = refl
  is_in-stays (Back k s) is = refl
  is_in-stays (Notify k c w s) is = refl
  is_in-stays (Broadcast k c s) is = refl
  is_in-stays (Wait k c p s) is = absurd (cc)
  is_in-stays (Signal k c w s) is = absurd (cc)
  is_in-stays (SignalTo k c w s) is = absurd (cc)
  is_in-stays (Pass k c w s) is = absurd (cc)
  is_in-stays (Leave k s) is = absurd (cc)

  -- the place whose turn it is, is inside
  pub inside_by_turn : (h : List (Event S)) (k : ℕ) → turn h ≡ Held k → inside k h ≡ true
  unfolding inside
  inside_by_turn h k is = let r = own-held h k is in ap is_in r.1 ∙ is_in-stays r.0 r.2

  module _ (h : History S) (k : ℕ) where
    -- the last event is the place's own, and it is inside by it; or it was inside before, and then no other place may
    -- act
    by_last : (b : Bool) (g : List (Event S)) (e : Event S) → (place_of e == k) ≡ b
        → (inside k g ≡ true → turn g ≡ Held k) → Allowed (cut_to h g) e
        → cond b (is_in (Some e)) (inside k g) ≡ true → turn (g ++ e ∷ []) ≡ Held k
    by_last true g e mine before may is =
        turn-push g e ∙ turn_by_in e (urgent (g ++ e ∷ [])) (called (g ++ e ∷ [])) is
        ∙ ap Held (eqb-true (place_of e) k mine)
    by_last false g e other before may is =
        let same : place_of e ≡ k = place_of-held (cut_to h g) k e (before is) may in
        absurd (true≢false (sym (eq-eqb (place_of e) k same) ∙ other))

    -- so it is after each beginning f, by induction on its length
    inside_upto : (n : ℕ) (f later : List (Event S)) → HasLast f → length f ≡ n → IsLegal h → h.events ≡ f ++ later
        → inside k f ≡ true → turn f ≡ Held k
    inside_upto n f later (nothing none) many legal starts is =
        absurd (true≢false (sym is ∙ nobody_inside k f none))
    inside_upto zero f later (pushed g e ends) many legal starts is =
        absurd (omega (arith, many, ap length ends, length-append g (e ∷ [])))
    inside_upto (suc n) f later (pushed g e ends) many legal starts is =
        let before : h.events ≡ g ++ e ∷ later = starts ∙ ap (λ l. l ++ later) ends ∙ append_assoc g (e ∷ []) later in
        ap turn ends
        ∙ by_last (place_of e == k) g e refl
        (inside_upto n g (e ∷ later) (has_last g)
        (omega (arith, many, ap length ends, length-append g (e ∷ []))) legal before)
        (legal.each g later e before)
        (sym (inside-push k g e) ∙ ap (inside k) (sym ends) ∙ is)

  pub inside-held : (h : History S) (k : ℕ) → IsLegal h → inside k h.events ≡ true → turn h.events ≡ Held k
  inside-held h k legal is = inside_upto h k (length h.events) h.events [] (has_last h.events) refl legal
      (sym (append-nil h.events)) is
