-- A place gets inside, from outside, from a wait or from a signal: its front, whose turn it is, and what it finds.
use Rattle.std.proofs.Common.{◌≡◌, ◌==◌, not, ℕ, true, false, cond, List, [], ◌∷◌, ◌++◌, Some, refl, ap, sym, ◌∙◌}
use Rattle.std.proofs.Common.{subst, eq-eqb}
use Rattle.std.specs.List.{list_all}
use Rattle.hoare_law.specs.declared.event.Event.{Event}
use Rattle.hoare_law.specs.declared.event.History.{History}
use Rattle.hoare_law.specs.declared.event.Sizes.{Sizes}
use Rattle.hoare_law.specs.declared.event.Event.TheVariants.{Admit, Wait, Resume, Back}
use Rattle.hoare_law.specs.declared.turn.Turn.TheVariants.{Held}
use Rattle.hoare_law.specs.Events.{place_of, data_of, own, newest, latest_data, with_event}
use Rattle.hoare_law.specs.Growth.{Begins, Grows, AddsLast, AddsTwo}
use Rattle.hoare_law.specs.Lawful.{Rest, Ready, Stands}
use Rattle.hoare_law.specs.Priorities.{priorities}
use Rattle.hoare_law.specs.Turns.{After, stays, frees, hands, after, turn, turn_of, urgent, outside, is_out}
use Rattle.hoare_law.specs.Sizes.{IsHoare, IsMesa}
use Rattle.hoare_law.specs.Waiting.{takes, waiting}
use Rattle.hoare_law.specs.Called.{called}
use Rattle.hoare_law.proofs.Events.{own-push, newest-push}
use Rattle.hoare_law.proofs.Fronts.{rest-free, rest-return, ready-owed, rest-owed}
use Rattle.hoare_law.proofs.Growth.{Begins-trans, Begins-push, Grows-one, Grows-trans}
use Rattle.hoare_law.proofs.Held.{is_stay, is_inside, in_not_waiting, concerns-own}
use Rattle.hoare_law.proofs.Legal.{IsLegal-last, Stands-front}
use Rattle.hoare_law.proofs.Priorities.{priorities-own, waiting-outside, waiting-return}
use Rattle.hoare_law.proofs.Owed.{waiting-owed}
use Rattle.hoare_law.proofs.Turns.{turn-push}

held_by : {S : Type 0} (a : After) (k : ℕ) (us : List ℕ) (ws : List (Event S)) → is_stay a ≡ true
    → turn_of a k us ws ≡ Held k
held_by stays k us ws is = refl
held_by frees k us ws is = absurd (cc)
held_by (hands w c) k us ws is = absurd (cc)

module _ {S : Type 0} where
  -- the events of k, with one more at the end
  pub own-last : (k : ℕ) (h : List (Event S)) (e : Event S) → place_of e ≡ k → own k (h ++ e ∷ []) ≡ own k h ++ e ∷ []
  own-last k h e mine = own-push k h e ∙ ap (λ b. own k h ++ cond b (e ∷ []) []) (eq-eqb (place_of e) k mine)

  adds_one : (k : ℕ) (f h : History S) (e : Event S) → place_of e ≡ k → Begins f h → own k h.events ≡ own k f.events
      → Grows k (e ∷ []) f (with_event h e)
  unfolding with_event
  adds_one k f h e mine begins same = record {
    begins = Begins-trans begins (Begins-push h e);
    adds = own-last k h.events e mine ∙ ap (λ l. l ++ e ∷ []) same;
  }

  ends_with : (h : History S) (e : Event S) → newest (with_event h e).events ≡ Some e
  unfolding with_event
  ends_with h e = newest-push h.events e

  -- k is inside after an event that brings it inside, and after a notify or a broadcast of its own
  pub turn-in : (h : History S) (k : ℕ) (e : Event S) → is_inside e ≡ true → place_of e ≡ k
      → turn (with_event h e).events ≡ Held k
  unfolding with_event
  turn-in h k e inside mine =
      turn-push h.events e
      ∙ held_by (after e) (place_of e) (urgent (h.events ++ e ∷ [])) (called (h.events ++ e ∷ [])) inside
      ∙ ap (λ i. Held i) mine

  -- a place is outside in each history with the same events of that place
  pub outside-same : (k : ℕ) (f h : History S) → own k h.events ≡ own k f.events → outside k f.events ≡ true
      → outside k h.events ≡ true
  unfolding outside
  outside-same k f h same out = ap (λ l. is_out (newest l)) same ∙ out

  -- the sizes stay the same
  pub sizes-with : (f h : History S) (e : Event S) (n : Sizes) → Begins f h → f.sizes ≡ n → (with_event h e).sizes ≡ n
  unfolding with_event
  sizes-with f h e n begins is = sym begins.sizes ∙ is

  -- k, which knew f, adds one event at the end
  pub AddsLast-one : (k : ℕ) (f h : History S) (e : Event S) → place_of e ≡ k → Begins f h
      → own k h.events ≡ own k f.events
      → AddsLast f e (with_event h e)
  AddsLast-one k f h e mine begins same = record {
    grows = adds_one (place_of e) f h e refl begins
        (ap (λ j. own j h.events) mine ∙ same ∙ ap (λ j. own j f.events) (sym mine));
    ends = ends_with h e;
  }

  -- k adds another event after one of its own
  pub AddsTwo-one : (k : ℕ) (f : History S) (d : Event S) (h : History S) (e : Event S) → place_of d ≡ k
      → place_of e ≡ k
      → Begins (with_event f d) h → own k h.events ≡ own k (with_event f d).events → AddsTwo f d e (with_event h e)
  AddsTwo-one k f d h e first mine begins same =
      let one : AddsLast (with_event f d) e (with_event h e) = AddsLast-one k (with_event f d) h e mine begins same in
      record {
        grows = Grows-trans
            (subst (λ (j : ℕ). Grows j (d ∷ []) f (with_event f d)) (first ∙ sym mine)
            (Grows-one d f (with_event f d) refl))
            one.grows;
        begins = one.grows.begins;
        ends = one.ends;
      }

  module _ (rest : Rest S) (ready : Ready S) where
    stood : (h : History S) (e : Event S) → Stands rest ready (with_event h e) → Stands rest ready h
    stood h e stands = Stands-front (Begins-push h e) stands

    -- a place that gets inside finds the data and the priorities as they were left
    finds : (asks : S → (ℕ → List ℕ) → Type 0) (h : History S) (e : Event S) → is_inside e ≡ true
        → ((d j : ℕ) → takes d j e ≡ false)
        → ((d : ℕ) → list_all (λ x. not (place_of e == place_of x)) (waiting d h.events) ≡ true)
        → data_of e ≡ latest_data h
        → asks (latest_data h) (priorities h.events) → asks (data_of e) (priorities (with_event h e).events)
    unfolding with_event
    finds asks h e inside alone apart same asked =
        subst (asks (data_of e))
        (sym (priorities-own h.events e (λ d j. concerns-own e d j (alone d j)) (λ d. in_not_waiting e d inside) apart))
        (subst (λ (t : S). asks t (priorities h.events)) (sym same) asked)

    -- what an admitted place finds
    pub finds-admit : (h : History S) (k : ℕ) (s : S) → Stands rest ready (with_event h (Admit k s))
        → rest s (priorities (with_event h (Admit k s)).events)
    finds-admit h k s stands =
        let may = (IsLegal-last h (Admit k s) stands.legal).fits in
        finds rest h (Admit k s) refl (λ d j. refl) (λ d. waiting-outside h.events k d may.1) may.2
        (rest-free h (stood h (Admit k s) stands).lawful may.0)

    pub finds-back : (h : History S) (k : ℕ) (s : S) → Stands rest ready (with_event h (Back k s))
        → rest s (priorities (with_event h (Back k s)).events)
    finds-back h k s stands =
        let may = (IsLegal-last h (Back k s) stands.legal).fits in
        finds rest h (Back k s) refl (λ d j. refl) (λ d. waiting-return h.events k d may.0) may.1
        (rest-return h k (stood h (Back k s) stands).lawful may.0)

    -- what a place finds that waited on one of Hoare's conditions
    pub finds-resume : (h f : History S) (k c p : ℕ) (s t : S)
        → own k h.events ≡ own k (with_event f (Wait k c p s)).events → IsHoare h.sizes.conditions h.sizes.mesa c
        → Stands rest ready (with_event h (Resume k c t))
        → ready c p t (priorities (with_event h (Resume k c t)).events)
    unfolding with_event
    finds-resume h f k c p s t same hoare stands =
        let may = (IsLegal-last h (Resume k c t) stands.legal).fits in
        let before = stood h (Resume k c t) stands in
        finds (ready c p) h (Resume k c t) refl (λ d j. refl) (λ d. waiting-owed h k c d before.legal may.0) may.1
        (ready-owed h k c p s before hoare may.0
        (ap newest (same ∙ own-last k f.events (Wait k c p s) refl) ∙ newest-push (own k f.events) (Wait k c p s)))

    -- what a place finds that waited on a Mesa condition
    pub finds-called : (h : History S) (k c : ℕ) (t : S) → IsMesa h.sizes.conditions h.sizes.mesa c
        → Stands rest ready (with_event h (Resume k c t))
        → rest t (priorities (with_event h (Resume k c t)).events)
    finds-called h k c t mesa stands =
        let may = (IsLegal-last h (Resume k c t) stands.legal).fits in
        let before = stood h (Resume k c t) stands in
        finds rest h (Resume k c t) refl (λ d j. refl) (λ d. waiting-owed h k c d before.legal may.0) may.1
        (rest-owed h k c before mesa may.0)
