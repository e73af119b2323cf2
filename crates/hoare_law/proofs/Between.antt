-- What happened between the two events that a call added.
use Rattle.std.proofs.Common.{◌≡◌, ◌==◌, ◌+◌, ◌*◌, false, ◌≤◌, ℕ, List, [], ◌∷◌, ◌++◌, length, cond, true, Some}
use Rattle.std.proofs.Common.{refl, ap, sym, ◌∙◌, arith, eq-eqb, append_assoc}
use Rattle.std.proofs.lemmas.List.{append-nil, append_cancel_left, append_cancel_right}
use Rattle.std.proofs.lemmas.List.Elements.{filter-append}
use Rattle.hoare_law.specs.declared.event.Event.{Event}
use Rattle.hoare_law.specs.declared.event.History.{History}
use Rattle.hoare_law.specs.declared.event.Event.TheVariants.{Back}
use Rattle.hoare_law.specs.Events.{place_of, own, newest, with_event, cut_to}
use Rattle.hoare_law.specs.Turns.{is_signal, urgent}
use Rattle.hoare_law.specs.Legal.{IsLegal}
use Rattle.hoare_law.specs.Growth.{AddsTwo}
use Rattle.hoare_law.specs.Admissions.{admissions}
use Rattle.hoare_law.specs.Overtaking.{releases, returned, visits, waiting_anywhere}
use Rattle.hoare_law.proofs.Filters.{HasLast, nothing, pushed, has_last}
use Rattle.hoare_law.proofs.Events.{newest-push, own-push}
use Rattle.hoare_law.proofs.Signallers.{signal_between, signalled, meanwhile, given_up, given_up-one}
use Rattle.hoare_law.proofs.Signallers.{legal_upto, length-parts}
use Rattle.hoare_law.proofs.Resuming.{no_elements}
use Rattle.hoare_law.proofs.Visits.{few_visits, few_in_all}

-- if the second part of a list of two parts is empty, the first part is the list
all_of : {X : Type 0} (whole front behind : List X) → whole ≡ front ++ behind → behind ≡ [] → front ≡ whole
all_of whole front behind is none = sym (is ∙ ap (λ l. front ++ l) none ∙ append-nil front)

module _ {S : Type 0} where
  -- the events between two events of a place; none of them is its own
  pub record Between (f : History S) (d e : Event S) (h : History S) : Type 0 where
    pub later : List (Event S)
    pub is : h.events ≡ f.events ++ d ∷ (later ++ e ∷ [])
    pub alone : own (place_of e) later ≡ []

  between_by : (f : History S) (d e : Event S) (h : History S) (later : List (Event S)) → place_of d ≡ place_of e
      → AddsTwo f d e h → h.events ≡ f.events ++ d ∷ (later ++ e ∷ []) → Between f d e h
  between_by f d e h later mine adds is =
      let k : ℕ = place_of e in
      let split : own k h.events ≡ own k f.events ++ own k (d ∷ (later ++ e ∷ [])) =
      ap (own k) is ∙ filter-append (λ x. place_of x == k) f.events (d ∷ (later ++ e ∷ [])) in
      let first : own k (d ∷ (later ++ e ∷ [])) ≡ d ∷ own k (later ++ e ∷ []) =
      ap (λ b. cond b (d ∷ own k (later ++ e ∷ [])) (own k (later ++ e ∷ []))) (eq-eqb (place_of d) k mine) in
      let last : own k (later ++ e ∷ []) ≡ own k later ++ e ∷ [] =
      own-push k later e ∙ ap (λ b. own k later ++ cond b (e ∷ []) []) (eq-eqb (place_of e) k refl) in
      let both : d ∷ (own k later ++ e ∷ []) ≡ d ∷ e ∷ [] =
      append_cancel_left (own k f.events) _ _
      (ap (λ l. own k f.events ++ l) (sym (first ∙ ap (λ l. d ∷ l) last)) ∙ sym split ∙ adds.grows.adds) in
      let tails : own k later ++ e ∷ [] ≡ e ∷ [] = cc in
      record { later = later; is = is; alone = append_cancel_right (own k later) [] (e ∷ []) tails }

  pub between_two : (f : History S) (d e : Event S) (h : History S) → place_of d ≡ place_of e → AddsTwo f d e h
      → (d ≡ e → ⊥) → Between f d e h
  unfolding with_event
  between_two f d e h mine adds apart = by adds.begins.later adds.begins.is (has_last adds.begins.later)
    where
      by : (later : List (Event S)) → (f.events ++ d ∷ []) ++ later ≡ h.events → HasLast later → Between f d e h
      by later is (nothing none) =
          let ends : newest h.events ≡ Some d =
          ap newest (sym is ∙ ap (λ l. (f.events ++ d ∷ []) ++ l) none ∙ append-nil _) ∙ newest-push f.events d in
          let both : Some d ≡ Some e = sym ends ∙ adds.ends in
          absurd (apart (let one : d ≡ e = cc in one))
      by later is (pushed more x at) =
          let whole : h.events ≡ (f.events ++ d ∷ more) ++ x ∷ [] =
          sym is ∙ ap (λ l. (f.events ++ d ∷ []) ++ l) at ∙ append_assoc f.events (d ∷ []) (more ++ x ∷ [])
          ∙ sym (append_assoc f.events (d ∷ more) (x ∷ [])) in
          let both : Some x ≡ Some e = sym (ap newest whole ∙ newest-push (f.events ++ d ∷ more) x) ∙ adds.ends in
          let one : x ≡ e = cc in
          between_by f d e h more mine adds
          (whole ∙ append_assoc f.events (d ∷ more) (x ∷ []) ∙ ap (λ y. f.events ++ d ∷ (more ++ y ∷ [])) one)

  -- what happened between a signal and its return
  pub signal_returned : (f h : History S) (e : Event S) (t : S) → is_signal e ≡ true → IsLegal h
      → AddsTwo f e (Back (place_of e) t) h
      → (later : List (Event S)) × (h.events ≡ f.events ++ e ∷ (later ++ Back (place_of e) t ∷ []))
      × (own (place_of e) later ≡ []) × (returned later ≡ urgent f.events)
      × (releases later ≡ length (urgent f.events) + 1) × (admissions later ≡ 0)
      × (visits later ≤ length (waiting_anywhere f.events) + 2 * length (urgent f.events))
      × (visits later + 3 ≤ 2 * f.sizes.places)
  signal_returned f h e t is legal adds =
      let k : ℕ = place_of e in
      let b = between_two f e (Back k t) h refl adds
      (λ same. let no : true ≡ false = sym is ∙ ap is_signal same in cc) in
      let g : History S = cut_to h (f.events ++ e ∷ b.later) in
      let at : h.events ≡ g.events ++ Back k t ∷ [] =
      b.is ∙ sym (append_assoc f.events (e ∷ b.later) (Back k t ∷ [])) in
      let fits : IsLegal g = legal_upto h g.events (Back k t ∷ []) at legal in
      let behind : g.events ≡ (f.events ++ e ∷ []) ++ b.later = sym (append_assoc f.events (e ∷ []) b.later) in
      let now = signalled (cut_to g f.events) e is (fits.each f.events b.later e refl) in
      let m = meanwhile g (f.events ++ e ∷ []) b.later (urgent f.events) k [] fits behind now.now b.alone in
      let times = signal_between h f.events b.later [] e t is legal b.is b.alone in
      let ups : releases b.later + given_up (f.events ++ e ∷ [])
      ≡ length (returned b.later) + given_up ((f.events ++ e ∷ []) ++ b.later) = m.times in
      let shut : given_up (f.events ++ e ∷ []) ≡ 0 = now.kept in
      let one = given_up-one ((f.events ++ e ∷ []) ++ b.later) in
      let many : length (urgent f.events) ≡ length (returned b.later) + length m.left =
      length-parts _ (returned b.later) m.left m.came in
      let none : m.left ≡ [] = no_elements m.left (omega (arith, times, ups, shut, one, many)) in
      let sizes : h.sizes.places ≡ f.sizes.places = ap (λ n. n.places) (sym adds.grows.begins.sizes) in
      let few = few_in_all g f.events b.later e is fits refl b.alone in (
        b.later,
        b.is,
        b.alone,
        all_of (urgent f.events) (returned b.later) m.left m.came none,
        times,
        m.nobody,
        few_visits g f.events b.later e is fits refl b.alone,
        omega (arith, few, sizes),
      )
