-- How fronts grow, step by step.
use Rattle.std.proofs.Common.{◌≡◌, ◌==◌, ℕ, List, [], ◌∷◌, ◌++◌, Bool, false, refl, sym, ap, ◌∙◌, append_assoc}
use Rattle.std.proofs.Common.{append-nil, arith}
use Rattle.std.proofs.lemmas.List.Elements.{filter-append}
use Rattle.hoare_law.specs.declared.event.Event.{Event}
use Rattle.hoare_law.specs.declared.event.History.{History}
use Rattle.hoare_law.specs.declared.event.Event.TheVariants.{Admit, Wait, Leave, Resume}
use Rattle.hoare_law.specs.Events.{own, place_of, with_event}
use Rattle.hoare_law.specs.Growth.{Begins, Grows, AddsLast, AddsTwo, GetsInside, waited, Exits, just_left, Signals}
use Rattle.hoare_law.specs.Growth.{resumed_one, nobody_waited, Finishes, exited, signalled}

pub Begins-refl : {S : Type 0} (h : History S) → Begins h h
Begins-refl h = record { sizes = refl; opening = refl; later = []; is = append-nil h.events }

pub Begins-trans : {S : Type 0} {f g h : History S} → Begins f g → Begins g h → Begins f h
Begins-trans {f = f} a b = record {
  sizes = a.sizes ∙ b.sizes;
  opening = a.opening ∙ b.opening;
  later = a.later ++ b.later;
  is = sym (append_assoc f.events a.later b.later) ∙ (ap (λ x. x ++ b.later) a.is ∙ b.is);
}

pub Begins-push : {S : Type 0} (h : History S) (e : Event S) → Begins h (with_event h e)
unfolding with_event
Begins-push h e = record { sizes = refl; opening = refl; later = e ∷ []; is = refl }

pub Grows-trans : {S : Type 0} {k : ℕ} {s t : List (Event S)} {f g h : History S} → Grows k s f g → Grows k t g h
    → Grows k (s ++ t) f h
Grows-trans {k = k} {s = s} {t = t} {f = f} a b = record {
  begins = Begins-trans a.begins b.begins;
  adds = b.adds ∙ (ap (λ x. x ++ t) a.adds ∙ append_assoc (own k f.events) s t);
}

pub own-one : {S : Type 0} (e : Event S) → own (place_of e) (e ∷ []) ≡ e ∷ []
own-one e = grind (arith)

-- one more event
pub Grows-one : {S : Type 0} (e : Event S) (f h : History S) → h ≡ with_event f e → Grows (place_of e) (e ∷ []) f h
unfolding with_event
Grows-one e f h is = rw is (record {
  begins = record { sizes = refl; opening = refl; later = e ∷ []; is = refl };
  adds = filter-append (λ x. place_of x == place_of e) f.events (e ∷ [])
      ∙ ap (λ x. own (place_of e) f.events ++ x) (own-one e);
})

-- What a procedure adds, from the clauses of its calls. Each lemma takes a call's clause as it is, and an equation for
-- each of the place, the data and the front that the clause names otherwise.
module _ {S : Type 0} {k k1 : ℕ} {s s1 : S} {g g1 h : History S} where
  -- the place entered, was held up, and waited
  pub GetsInside-waited : {held_up : History S → S → Type 0} {condition priority : S → ℕ} {c p : ℕ} {d : S}
      {f : History S}
      → AddsLast f (Admit k s) g → held_up g s
      → AddsTwo g1 (Wait k1 c p s1) (Resume k1 c d) h → k1 ≡ k → s1 ≡ s → g1 ≡ g → c ≡ condition s → p ≡ priority s
      → GetsInside k held_up condition priority f h d
  GetsInside-waited enters held waits place state front on with =
      waited g s enters held (rw (place, state, front, on, with) at waits)

  -- the place left
  pub leaves-as : h ≡ with_event g1 (Leave k1 s1) → k1 ≡ k → s1 ≡ s → g1 ≡ g → h ≡ with_event g (Leave k s)
  leaves-as leaves place state front = rw (place, state, front) at leaves

  -- the last act of the place was a signal joined with the exit
  pub Finishes-exit : {c : ℕ} {b : Bool} → Exits k1 c s1 g1 h b → k1 ≡ k → s1 ≡ s → g1 ≡ g → Finishes k c s g h
  Finishes-exit exits place state front = exited _ (rw (place, state, front) at exits)

-- the last acts of the place were a signal and then an exit
pub Finishes-signal : {S : Type 0} {k c : ℕ} {s t : S} {f g h : History S} {b : Bool} → Signals k c s t f g b
    → h ≡ with_event g (Leave k t) → Finishes k c s f h
Finishes-signal {t = t} {g = g} (resumed_one w chooses adds) is = signalled w t g chooses adds is
Finishes-signal (nobody_waited none same kept) is = exited false (just_left none (rw (← same, ← kept) is))
