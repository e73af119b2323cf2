-- The place inside notifies waiters on a Mesa condition: that this is allowed, that it owes nothing, and what its front
-- then says.
use Rattle.std.proofs.Common.{◌≡◌, ◌≢◌, ◌==◌, ◌≤◌, not, ℕ, List, [], ◌∷◌, ◌++◌, length, Bool, true, false, cond, Some}
use Rattle.std.proofs.Common.{refl, ap, sym, ◌∙◌, subst, arith, ne_eqb, eq-eqb, true≢false, length-append}
use Rattle.std.specs.Prelude.{All}
use Rattle.std.specs.List.{filter, list_all}
use Rattle.std.proofs.lemmas.Bool.{not-true}
use Rattle.std.proofs.lemmas.List.Elements.{All-nil, All-cons, All-weaker, filter-append, filter_agree}
use Rattle.hoare_law.specs.declared.event.Event.{Event}
use Rattle.hoare_law.specs.declared.event.History.{History}
use Rattle.hoare_law.specs.declared.event.Event.TheVariants.{Notify, Broadcast}
use Rattle.hoare_law.specs.declared.turn.Turn.TheVariants.{Held}
use Rattle.hoare_law.specs.Events.{place_of, own, newest, with_event}
use Rattle.hoare_law.specs.Sizes.{IsMesa}
use Rattle.hoare_law.specs.Priorities.{in_order}
use Rattle.hoare_law.specs.Called.{called_by, called}
use Rattle.hoare_law.specs.Lawful.{Rest, Ready, Owes}
use Rattle.hoare_law.specs.Legal.{Allowed, IsLegal}
use Rattle.hoare_law.specs.Turns.{turn}
use Rattle.hoare_law.specs.Waiting.{priority_of, condition_of, waits_on, waiting, chosen}
use Rattle.hoare_law.proofs.Tests.{both_true, eq_swap}
use Rattle.hoare_law.proofs.Filters.{filter-all, list_all-from_All}
use Rattle.hoare_law.proofs.Called.{called-push}
use Rattle.hoare_law.proofs.Held.{is_inside, in_not_waiting, own-held}
use Rattle.hoare_law.proofs.Priorities.{Chooses-chosen}
use Rattle.hoare_law.proofs.Rules.{chosen-longest}
use Rattle.hoare_law.proofs.Owed.{IsCalled, All-called}
use Rattle.hoare_law.proofs.Entering.{turn-in}
use Rattle.hoare_law.proofs.Leaving.{Chooses-place}
use Rattle.hoare_law.proofs.Waiters.{held-in_range, chosen-in_range, waiting-once}

module _ {S : Type 0} where
  -- the place inside may notify the waiter that a signal would resume
  pub Allowed-notify : (f : History S) (k c : ℕ) (x : Event S) (s : S) → IsLegal f → turn f.events ≡ Held k
      → IsMesa f.sizes.conditions f.sizes.mesa c → chosen c f.events ≡ Some x
      → Allowed f (Notify k c (place_of x) s)
  Allowed-notify f k c x s legal held mesa is = record {
    in_range = (held-in_range f k legal held, (mesa.0, (chosen-in_range c f x legal is).0));
    fits = (held, Chooses-place c f.events x is, mesa);
  }

  -- it may notify all waiters, if there is one
  pub Allowed-broadcast : (f : History S) (k c : ℕ) (s : S) → IsLegal f → turn f.events ≡ Held k
      → IsMesa f.sizes.conditions f.sizes.mesa c → waiting c f.events ≢ []
      → Allowed f (Broadcast k c s)
  Allowed-broadcast f k c s legal held mesa some =
      record { in_range = (held-in_range f k legal held, mesa.0); fits = (held, some, mesa) }

  -- neither owes anything
  pub Owes-notify : (rest : Rest S) (ready : Ready S) (f : List (Event S)) (k c w : ℕ) (s : S)
      → Owes rest ready f (Notify k c w s)
  unfolding Owes
  Owes-notify rest ready f k c w s = tt

  pub Owes-broadcast : (rest : Rest S) (ready : Ready S) (f : List (Event S)) (k c : ℕ) (s : S)
      → Owes rest ready f (Broadcast k c s)
  unfolding Owes
  Owes-broadcast rest ready f k c s = tt

  -- each leaves its place inside
  pub turn-notify : (f : History S) (k c w : ℕ) (s : S) → turn (with_event f (Notify k c w s)).events ≡ Held k
  turn-notify f k c w s = turn-in f k (Notify k c w s) refl refl

  pub turn-broadcast : (f : History S) (k c : ℕ) (s : S) → turn (with_event f (Broadcast k c s)).events ≡ Held k
  turn-broadcast f k c s = turn-in f k (Broadcast k c s) refl refl

  -- the place inside isn't notified
  pub others_called : (h : History S) (k : ℕ) → IsLegal h → turn h.events ≡ Held k
      → list_all (λ x. not (k == place_of x)) (called h.events) ≡ true
  others_called h k legal held = list_all-from_All (λ x. not (k == place_of x)) (called h.events)
      (All-weaker (IsCalled h) (λ x. not (k == place_of x) ≡ true) other (called h.events) (All-called h legal))
    where
      other : (x : Event S) → IsCalled h x → not (k == place_of x) ≡ true
      other x was = ap not (ne_eqb k (place_of x) (λ same.
          let r : (e : Event S) × (newest (own k h.events) ≡ Some e) × (is_inside e ≡ true) =
          own-held h.events k held in
          let both : Some r.0 ≡ Some x = sym r.1 ∙ ap (λ j. newest (own j h.events)) same ∙ was.last in
          let one : r.0 ≡ x = cc in
          true≢false
          (sym was.waits ∙ ap (waits_on (condition_of x)) (sym one) ∙ in_not_waiting r.0 (condition_of x) r.2)))

  -- so a notify or a broadcast leaves those that were notified before as they are
  pub called-call : (h : History S) (e : Event S) → IsLegal h → turn h.events ≡ Held (place_of e)
      → called (with_event h e).events ≡ called h.events ++ called_by h.events e
  unfolding with_event
  called-call h e legal held =
      called-push h.events e
      ∙ ap (λ l. l ++ called_by h.events e) (filter-all _ (called h.events) (others_called h (place_of e) legal held))

  pub called-broadcast : (h : History S) (k c : ℕ) (s : S) → IsLegal h → Allowed h (Broadcast k c s)
      → called (with_event h (Broadcast k c s)).events ≡ called h.events ++ in_order priority_of (waiting c h.events)
  called-broadcast h k c s legal may = called-call h (Broadcast k c s) legal may.fits.0

  -- a notify notifies the chosen waiter alone
  pub called_by-notify : (h : List (Event S)) (k c : ℕ) (x : Event S) (s : S) → chosen c h ≡ Some x
      → called_by h (Notify k c (place_of x) s) ≡ x ∷ []
  called_by-notify h k c x s is =
      let p : Event S → Bool = λ y. place_of y == place_of x in
      let r = chosen-longest c h x is in
      let short : length (filter p (waiting c h)) ≤ 1 =
      subst (λ (l : List (Event S)). length l ≤ 1)
      (filter_agree (λ y. place_of x == place_of y) p (λ y. eq_swap (place_of x) (place_of y)) (waiting c h))
      (waiting-once c (place_of x) h) in
      let split : filter p (waiting c h) ≡ filter p r.0 ++ x ∷ filter p r.1 =
      ap (filter p) r.2 ∙ filter-append p r.0 (x ∷ r.1)
      ∙ ap (λ b. filter p r.0 ++ cond b (x ∷ filter p r.1) (filter p r.1)) (eq-eqb (place_of x) (place_of x) refl) in
      split ∙ only (filter p r.0) (filter p r.1) (subst (λ (l : List (Event S)). length l ≤ 1) split short)
    where
      only : (xs ys : List (Event S)) → length (xs ++ x ∷ ys) ≤ 1 → xs ++ x ∷ ys ≡ x ∷ []
      only [] [] l = refl
      only [] (y ∷ ys) l = absurd (omega arith)
      only (y ∷ xs) ys l = absurd (omega (arith, length-append xs (x ∷ ys)))

  pub called-notify : (h : History S) (k c w : ℕ) (s : S) → IsLegal h → Allowed h (Notify k c w s)
      → (x : Event S) × (chosen c h.events ≡ Some x) × (place_of x ≡ w)
      × (called (with_event h (Notify k c w s)).events ≡ called h.events ++ x ∷ [])
  called-notify h k c w s legal may =
      let r : (x : Event S) × (chosen c h.events ≡ Some x) × (place_of x ≡ w) =
      Chooses-chosen c w h.events may.fits.1 in (
        r.0,
        r.1,
        r.2,
        called-call h (Notify k c w s) legal may.fits.0
            ∙ ap (λ l. called h.events ++ l)
            (ap (λ j. called_by h.events (Notify k c j s)) (sym r.2) ∙ called_by-notify h.events k c r.0 s r.1),
      )

  abbrev CalledApart : History S → Event S → Type 0
  CalledApart h x =
      (newest (own (place_of x) h.events) ≡ Some x) ×
      (waits_on (condition_of x) x ≡ true) × IsMesa h.sizes.conditions h.sizes.mesa (condition_of x)
      × ((d : ℕ) → All (λ y. place_of x ≢ place_of y) (waiting d h.events))

  -- a notified process waits nowhere
  pub All-called_wait_nowhere : (h : History S) → IsLegal h → All (CalledApart h) (called h.events)
  All-called_wait_nowhere h legal =
      All-weaker (IsCalled h) (CalledApart h)
      (λ x was. (was.last, was.waits, was.mesa, λ d. apart_all (place_of x) (waiting d h.events) (was.apart d)))
      (called h.events) (All-called h legal)
    where
      apart_all : (k : ℕ) (ys : List (Event S)) → list_all (λ y. not (k == place_of y)) ys ≡ true
          → All (λ y. k ≢ place_of y) ys
      apart_all k [] a = All-nil (λ y. k ≢ place_of y)
      apart_all k (y ∷ ys) a =
          let b : (not (k == place_of y) ≡ true) × (list_all (λ z. not (k == place_of z)) ys ≡ true) =
          both_true _ _ a in
          All-cons (λ z. k ≢ place_of z) y ys
          (λ same. let no : true ≡ false = sym (eq-eqb k (place_of y) same) ∙ not-true _ b.0 in cc) (apart_all k ys b.1)
