-- What is known of the notified processes, and of the process to which the monitor is owed.
use Rattle.std.proofs.Common.{◌≡◌, ◌==◌, ◌||◌, ◌<◌, not, ℕ, List, [], ◌∷◌, ◌++◌, Bool, true, false, cond, Some, refl}
use Rattle.std.proofs.Common.{ap, sym, ◌∙◌, subst, arith, eqb-true, eq-eqb, append_assoc}
use Rattle.std.specs.Prelude.{All}
use Rattle.std.specs.List.{filter, list_all}
use Rattle.std.proofs.lemmas.Bool.{not-true}
use Rattle.std.proofs.lemmas.List.{append-nil}
use Rattle.std.proofs.lemmas.List.Elements.{All-nil, All-cons, All-head, All-tail, All-weaker}
use Rattle.std.proofs.lemmas.List.Folds.{list_all-append}
use Rattle.hoare_law.specs.declared.event.Event.{Event}
use Rattle.hoare_law.specs.declared.event.History.{History}
use Rattle.hoare_law.specs.declared.event.Event.TheVariants.{Admit, Wait, Signal, Pass, Leave, Resume, Back, Notify}
use Rattle.hoare_law.specs.declared.event.Event.TheVariants.{Broadcast, SignalTo}
use Rattle.hoare_law.specs.declared.turn.Turn.TheVariants.{Held, Owed}
use Rattle.hoare_law.specs.Events.{place_of, own, newest, with_event, cut_to}
use Rattle.hoare_law.specs.Sizes.{IsHoare, IsMesa}
use Rattle.hoare_law.specs.Waiting.{priority_of, condition_of, waits_on, concerns, waiting}
use Rattle.hoare_law.specs.Called.{called_by, called}
use Rattle.hoare_law.specs.Turns.{turn}
use Rattle.hoare_law.specs.Legal.{IsInRange, Allowed, IsLegal}
use Rattle.hoare_law.proofs.Tests.{both_true, eq_swap, list_all-filter}
use Rattle.hoare_law.proofs.Filters.{list_all-filter_own, list_all-weaker}
use Rattle.hoare_law.proofs.Events.{own-push}
use Rattle.hoare_law.proofs.Waiting.{waiting-push}
use Rattle.hoare_law.proofs.Called.{called-push}
use Rattle.hoare_law.proofs.Sorted.{All-in_order}
use Rattle.hoare_law.proofs.Held.{EndsHanding, EndsCalled, IsOwed, handed, next_called, handing, waits_on-handing}
use Rattle.hoare_law.proofs.Held.{Hand, by_pass, by_signal, by_signal_to}
use Rattle.hoare_law.proofs.Held.{concerns-handing, turn-owed, waiting-held}
use Rattle.hoare_law.proofs.Waiters.{Waits, All-waiting, condition-waits_on, waiting-in_range, waiting-elsewhere}
use Rattle.hoare_law.proofs.Waiters.{in_range-at, handing_in_range}

second : (a b : Bool) → not (a || b) ≡ true → not b ≡ true
second true b n = absurd (cc)
second false b n = n

-- no condition is of both kinds
pub one_kind : (n m c : ℕ) → IsHoare n m c → IsMesa n m c → ⊥
one_kind n m c a b = omega (arith, a, b.0, b.1)

-- two facts of all elements of a list
All-both : {X : Type 0} (P Q : X → Type 0) (xs : List X) → All P xs → All Q xs → All (λ x. P x × Q x) xs
All-both P Q xs a b = λ k d below. (a k d below, b k d below)

All-append : {X : Type 0} (P : X → Type 0) (xs ys : List X) → All P xs → All P ys → All P (xs ++ ys)
All-append P [] ys a b = b
All-append P (x ∷ xs) ys a b = All-cons P x (xs ++ ys) (All-head P x xs a) (All-append P xs ys (All-tail P x xs a) b)

-- what holds of those of a list that a filter keeps
All-filter : {X : Type 0} (P Q : X → Type 0) (p : X → Bool) (xs : List X) → ((x : X) → P x → p x ≡ true → Q x)
    → All P xs → All Q (filter p xs)
All-filter P Q p [] f a = All-nil Q
All-filter P Q p (x ∷ xs) f a = by (p x) refl (All-filter P Q p xs f (All-tail P x xs a))
  where
    by : (t : Bool) → p x ≡ t → All Q (filter p xs) → All Q (cond t (x ∷ filter p xs) (filter p xs))
    by true is rest = All-cons Q x (filter p xs) (f x (All-head P x xs a) is) rest
    by false is rest = rest

module _ {S : Type 0} where
  -- x, the wait of a place, is apart from the waiters: none of them has its place
  abbrev pub IsApart : List (Event S) → Event S → Type 0
  IsApart h x = (d : ℕ) → list_all (λ y. not (place_of x == place_of y)) (waiting d h) ≡ true

  -- what is known of x, the wait of a notified process that hasn't resumed: it is a wait on a Mesa condition and its
  -- place's last event, and its place waits nowhere
  pub record IsCalled (h : History S) (x : Event S) : Type 0 where
    pub last : newest (own (place_of x) h.events) ≡ Some x
    pub waits : waits_on (condition_of x) x ≡ true
    pub mesa : IsMesa h.sizes.conditions h.sizes.mesa (condition_of x)
    pub place : place_of x < h.sizes.places
    pub apart : IsApart h.events x

  last_stays : (h : List (Event S)) (e x : Event S) → not (place_of e == place_of x) ≡ true
      → newest (own (place_of x) h) ≡ Some x
      → newest (own (place_of x) (h ++ e ∷ [])) ≡ Some x
  last_stays h e x other last =
      ap newest
      (own-push (place_of x) h e ∙ ap (λ b. own (place_of x) h ++ cond b (e ∷ []) []) (not-true _ other) ∙ append-nil _)
      ∙ last

  -- a place that does nothing stays apart
  apart_stays : (h : List (Event S)) (e x : Event S) → not (place_of e == place_of x) ≡ true → IsApart h x
      → IsApart (h ++ e ∷ []) x
  apart_stays h e x other apart = λ d.
      ap (list_all (λ y. not (place_of x == place_of y))) (waiting-push d h e)
      ∙ list_all-append (λ y. not (place_of x == place_of y))
      (filter (λ y. not (concerns d (place_of y) e)) (waiting d h)) (cond (waits_on d e) (e ∷ []) [])
      ∙
      (rw (list_all-filter (λ y. not (place_of x == place_of y)) (λ y. not (concerns d (place_of y) e)) (waiting d h)
      (apart d)) (by (waits_on d e)))
    where
      by : (t : Bool) → list_all (λ y. not (place_of x == place_of y)) (cond t (e ∷ []) []) ≡ true
      by true = rw (ap not (eq_swap (place_of x) (place_of e)) ∙ other) refl
      by false = refl

  called_stays : (f : History S) (e x : Event S) → IsCalled f x → not (place_of e == place_of x) ≡ true
      → IsCalled (with_event f e) x
  unfolding with_event
  called_stays f e x was other = record {
    last = last_stays f.events e x other was.last;
    waits = was.waits;
    mesa = was.mesa;
    place = was.place;
    apart = apart_stays f.events e x other was.apart;
  }

  -- what is known of a waiter on c while k is inside
  abbrev OthersWait : History S → ℕ → ℕ → Event S → Type 0
  OthersWait f k c x = (Waits c f.events x × IsInRange f.sizes x) × (not (k == place_of x) ≡ true)

  -- this is known of each waiter
  others_wait : (f : History S) (k c : ℕ) → IsLegal f → turn f.events ≡ Held k
      → All (OthersWait f k c) (waiting c f.events)
  others_wait f k c legal held =
      All-both (λ x. Waits c f.events x × IsInRange f.sizes x) (λ x. not (k == place_of x) ≡ true) (waiting c f.events)
      (All-both (Waits c f.events) (IsInRange f.sizes) (waiting c f.events) (All-waiting c f.events)
      (waiting-in_range c f legal))
      (all_of (waiting c f.events) (waiting-held f.events k c held))
    where
      all_of : (xs : List (Event S)) → list_all (λ x. not (k == place_of x)) xs ≡ true
          → All (λ x. not (k == place_of x) ≡ true) xs
      all_of [] a = All-nil (λ x. not (k == place_of x) ≡ true)
      all_of (x ∷ xs) a =
          let b = both_true _ _ a in All-cons (λ x. not (k == place_of x) ≡ true) x xs b.0 (all_of xs b.1)

  -- a waiter is notified by e, an event of k, after which no waiter has its place
  called_now : (f : History S) (e x : Event S) (k c : ℕ) → place_of e ≡ k → IsMesa f.sizes.conditions f.sizes.mesa c
      → OthersWait f k c x → IsApart (f.events ++ e ∷ []) x → IsCalled (with_event f e) x
  unfolding with_event
  called_now f e x k c mine mesa was apart =
      let on : condition_of x ≡ c = condition-waits_on c x was.0.0.on in record {
        last = last_stays f.events e x (ap (λ j. not (j == place_of x)) mine ∙ was.1) was.0.0.last;
        waits = ap (λ d. waits_on d x) on ∙ was.0.0.on;
        mesa = subst (λ (d : ℕ). IsMesa f.sizes.conditions f.sizes.mesa d) (sym on) mesa;
        place = was.0.1.0;
        apart = apart;
      }

  -- after a notify no waiter has the place that it names
  apart_notify : (h : List (Event S)) (k c w : ℕ) (s : S) (x : Event S) → place_of x ≡ w
      → IsApart (h ++ Notify k c w s ∷ []) x
  apart_notify h k c w s x named = λ d.
      ap (list_all (λ y. not (place_of x == place_of y))) (waiting-push d h (Notify k c w s) ∙ append-nil _)
      ∙ list_all-weaker (λ y. not (k == place_of y || w == place_of y)) (λ y. not (place_of x == place_of y)) _
      (λ y n. ap (λ j. not (j == place_of y)) named ∙ second (k == place_of y) (w == place_of y) n)
      (list_all-filter_own (λ y. not (k == place_of y || w == place_of y)) (waiting d h))

  -- after a broadcast on c no waiter has a place that waited there
  apart_broadcast : (h : List (Event S)) (k c : ℕ) (s : S) (x : Event S) → Waits c h x
      → IsApart (h ++ Broadcast k c s ∷ []) x
  apart_broadcast h k c s x was = λ d.
      ap (list_all (λ y. not (place_of x == place_of y))) (waiting-push d h (Broadcast k c s) ∙ append-nil _)
      ∙ by d (c == d) refl
    where
      none_left : (xs : List (Event S)) → filter (λ y. not (k == place_of y || true)) xs ≡ []
      none_left [] = refl
      none_left (y ∷ ys) =
          elim (k == place_of y) as (λ b. cond (not (b || true)) (y ∷ filter (λ z. not (k == place_of z || true)) ys)
          (filter (λ z. not (k == place_of z || true)) ys) ≡ [])
          [ true ↦ none_left ys | false ↦ none_left ys ]

      by : (d : ℕ) (t : Bool) → (c == d) ≡ t
          → list_all (λ y. not (place_of x == place_of y)) (filter (λ y. not (k == place_of y || t)) (waiting d h))
          ≡ true
      by d true same = rw (none_left (waiting d h)) refl
      by d false other =
          list_all-filter (λ y. not (place_of x == place_of y)) (λ y. not (k == place_of y || false)) (waiting d h)
          (waiting-elsewhere c d h x (λ same. apart_by d other same) was)
        where
          apart_by : (d : ℕ) → (c == d) ≡ false → d ≡ c → ⊥
          apart_by d off same =
              let e : (c == d) ≡ true = eq-eqb c d (sym same) in let no : true ≡ false = sym e ∙ off in cc

  -- the processes that an event notifies are notified after it
  All-called_by : (f : History S) (e : Event S) → IsLegal f → Allowed f e
      → All (IsCalled (with_event f e)) (called_by f.events e)
  All-called_by f (Notify k c w s) legal may =
      All-filter (OthersWait f k c) (IsCalled (with_event f (Notify k c w s))) (λ x. place_of x == w)
      (waiting c f.events)
      (λ x was named. called_now f (Notify k c w s) x k c refl may.fits.2 was
      (apart_notify f.events k c w s x (eqb-true (place_of x) w named)))
      (others_wait f k c legal may.fits.0)
  All-called_by f (Broadcast k c s) legal may =
      All-in_order priority_of (IsCalled (with_event f (Broadcast k c s))) (waiting c f.events)
      (All-weaker (OthersWait f k c) (IsCalled (with_event f (Broadcast k c s)))
      (λ x was. called_now f (Broadcast k c s) x k c refl may.fits.2 was (apart_broadcast f.events k c s x was.0.0))
      (waiting c f.events) (others_wait f k c legal may.fits.0))
  All-called_by f (Admit k s) legal may = All-nil (IsCalled (with_event f (Admit k s)))
  All-called_by f (Wait k c p s) legal may = All-nil (IsCalled (with_event f (Wait k c p s)))
  All-called_by f (Signal k c w s) legal may = All-nil (IsCalled (with_event f (Signal k c w s)))
  All-called_by f (SignalTo k c w s) legal may = All-nil (IsCalled (with_event f (SignalTo k c w s)))
  All-called_by f (Pass k c w s) legal may = All-nil (IsCalled (with_event f (Pass k c w s)))
  All-called_by f (Leave k s) legal may = All-nil (IsCalled (with_event f (Leave k s)))
  All-called_by f (Resume k c s) legal may = All-nil (IsCalled (with_event f (Resume k c s)))
  All-called_by f (Back k s) legal may = All-nil (IsCalled (with_event f (Back k s)))

  All-called_step : (f : History S) (e : Event S) → IsLegal f → Allowed f e → All (IsCalled f) (called f.events)
      → All (IsCalled (with_event f e)) (called (f.events ++ e ∷ []))
  All-called_step f e legal may before =
      subst (All (IsCalled (with_event f e))) (sym (called-push f.events e))
      (All-append (IsCalled (with_event f e)) (filter (λ x. not (place_of e == place_of x)) (called f.events))
      (called_by f.events e)
      (All-filter (IsCalled f) (IsCalled (with_event f e)) (λ x. not (place_of e == place_of x)) (called f.events)
      (called_stays f e) before)
      (All-called_by f e legal may))

  All-called_steps : (h : History S) (ys xs : List (Event S)) → h.events ≡ ys ++ xs → IsLegal h
      → All (IsCalled (cut_to h ys)) (called ys) → All (IsCalled h) (called h.events)
  unfolding with_event
  All-called_steps h ys [] is legal before =
      let whole : ys ≡ h.events = sym (is ∙ append-nil ys) in
      subst (λ (l : List (Event S)). All (IsCalled (cut_to h l)) (called l)) whole before
  All-called_steps h ys (e ∷ xs) is legal before =
      All-called_steps h (ys ++ e ∷ []) xs (is ∙ sym (append_assoc ys (e ∷ []) xs)) legal
      (All-called_step (cut_to h ys) e (cut_legal h ys (e ∷ xs) is legal) (legal.each ys xs e is) before)
    where
      cut_legal : (h : History S) (ys xs : List (Event S)) → h.events ≡ ys ++ xs → IsLegal h → IsLegal (cut_to h ys)
      cut_legal h ys xs is legal =
          record {
            each = λ f later x at. legal.each f (later ++ xs) x
                (is ∙ ap (λ l. l ++ xs) at ∙ append_assoc f (x ∷ later) xs);
          }

  none_called : (h : History S) → All (IsCalled (cut_to h [])) (called [])
  unfolding called
  none_called h = All-nil (IsCalled (cut_to h []))

  -- so this holds of all notified processes in a legal history
  pub All-called : (h : History S) → IsLegal h → All (IsCalled h) (called h.events)
  All-called h legal = All-called_steps h [] h.events refl legal (none_called h)

  -- so it holds of the process to which the monitor was released
  pub first-called : (h : History S) (w c : ℕ) → IsLegal h → (r : EndsCalled w c h.events) → IsCalled h r.first
  first-called h w c legal r =
      All-head (IsCalled h) r.first r.others (subst (All (IsCalled h)) r.are (All-called h legal))

  -- the condition on which that process waited is a Mesa condition
  pub called-mesa : (h : History S) (w c : ℕ) → IsLegal h → EndsCalled w c h.events
      → IsMesa h.sizes.conditions h.sizes.mesa c
  called-mesa h w c legal r =
      subst (λ (d : ℕ). IsMesa h.sizes.conditions h.sizes.mesa d) r.on (first-called h w c legal r).mesa

  handing_hoare : (out : Hand) (f : History S) (k c w : ℕ) (s : S) → Allowed f (handing out k c w s)
      → IsHoare f.sizes.conditions f.sizes.mesa c
  handing_hoare by_pass f k c w s may = may.fits.2
  handing_hoare by_signal f k c w s may = may.fits.2
  handing_hoare by_signal_to f k c w s may = may.fits.2

  -- the condition of a process that was resumed is one of Hoare's
  pub handed-hoare : (h : History S) (w c : ℕ) → IsLegal h → EndsHanding w c h.events
      → IsHoare h.sizes.conditions h.sizes.mesa c
  handed-hoare h w c legal r =
      handing_hoare r.out (cut_to h r.before) r.by c w r.left
      (legal.each r.before [] (handing r.out r.by c w r.left) r.ends)

  -- a process to which the monitor is owed from one of Hoare's conditions was resumed
  pub turn-handed : (h : History S) (w c : ℕ) → IsLegal h → IsHoare h.sizes.conditions h.sizes.mesa c
      → turn h.events ≡ Owed w c → EndsHanding w c h.events
  turn-handed h w c legal hoare is = by (turn-owed h.events w c is)
    where
      by : IsOwed w c h.events → EndsHanding w c h.events
      by (handed r) = r
      by (next_called r) = absurd (one_kind h.sizes.conditions h.sizes.mesa c hoare (called-mesa h w c legal r))

  -- a process to which it is owed from a Mesa condition was notified
  pub turn-called : (h : History S) (w c : ℕ) → IsLegal h → IsMesa h.sizes.conditions h.sizes.mesa c
      → turn h.events ≡ Owed w c → EndsCalled w c h.events
  turn-called h w c legal mesa is = by (turn-owed h.events w c is)
    where
      by : IsOwed w c h.events → EndsCalled w c h.events
      by (handed r) = absurd (one_kind h.sizes.conditions h.sizes.mesa c (handed-hoare h w c legal r) mesa)
      by (next_called r) = r

  -- the place and the condition to which the monitor is owed are in range
  pub owed-in_range : (h : History S) (w c : ℕ) → IsLegal h → turn h.events ≡ Owed w c
      → (w < h.sizes.places) × (c < h.sizes.conditions)
  owed-in_range h w c legal is = by (turn-owed h.events w c is)
    where
      by : IsOwed w c h.events → (w < h.sizes.places) × (c < h.sizes.conditions)
      by (handed r) =
          handing_in_range r.out h r.by c w r.left
          (in_range-at h r.before [] (handing r.out r.by c w r.left) legal r.ends)
      by (next_called r) = (
        subst (λ (j : ℕ). j < h.sizes.places) r.place (first-called h w c legal r).place,
        (called-mesa h w c legal r).0,
      )

  -- the place to which the monitor is owed waits nowhere
  pub waiting-owed : (h : History S) (k c d : ℕ) → IsLegal h → turn h.events ≡ Owed k c
      → list_all (λ x. not (k == place_of x)) (waiting d h.events) ≡ true
  waiting-owed h k c d legal is = by (turn-owed h.events k c is)
    where
      by : IsOwed k c h.events → list_all (λ x. not (k == place_of x)) (waiting d h.events) ≡ true
      by (next_called r) =
          subst (λ (j : ℕ). list_all (λ x. not (j == place_of x)) (waiting d h.events) ≡ true) r.place
          ((first-called h k c legal r).apart d)
      by (handed r) =
          let g : List (Event S) = r.before in
          let hand : Event S = handing r.out r.by c k r.left in
          let left : waiting d h.events ≡ filter (λ x. not (concerns d (place_of x) hand)) (waiting d g) =
          ap (waiting d) r.ends ∙ waiting-push d g hand
          ∙ ap (λ b. filter (λ x. not (concerns d (place_of x) hand)) (waiting d g) ++ cond b (hand ∷ []) [])
          (waits_on-handing r.out d r.by c k r.left) ∙ append-nil _ in
          list_all-weaker (λ x. not (concerns d (place_of x) hand)) (λ x. not (k == place_of x)) (waiting d h.events)
          (λ x n. second (r.by == place_of x) (k == place_of x)
          (ap not (sym (concerns-handing r.out d (place_of x) r.by c k r.left)) ∙ n))
          (ap (list_all (λ x. not (concerns d (place_of x) hand))) left
          ∙ list_all-filter_own (λ x. not (concerns d (place_of x) hand)) (waiting d g))
