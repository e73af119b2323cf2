-- Waiters, signallers, notified processes and the place inside are different places: there are no more of them than the
-- monitor has places.
use Rattle.std.proofs.Common.{◌≡◌, ◌==◌, ◌&&◌, ◌||◌, ◌+◌, ◌<◌, ◌≤◌, not, ℕ, suc, List, [], ◌∷◌, ◌++◌, length, map, Bool}
use Rattle.std.proofs.Common.{true, false, cond, eqb, Some, refl, ap, sym, ◌∙◌, subst, arith, eq-eqb, eqb-true, ne_eqb}
use Rattle.std.proofs.Common.{true≢false, append_assoc, length-append}
use Rattle.std.specs.Prelude.{All}
use Rattle.std.specs.List.{filter, list_all, list_any, AllByRecursion, IsDistinct}
use Rattle.std.proofs.lemmas.Bool.{not-true, false≢true}
use Rattle.std.proofs.lemmas.Map.Steps.{length-le_from_distinct_below}
use Rattle.std.proofs.lemmas.List.{append-nil, length-map}
use Rattle.std.proofs.lemmas.List.Elements.{All-cons, All-head, All-tail, All-weaker, All-map}
use Rattle.hoare_law.specs.declared.event.Event.{Event}
use Rattle.hoare_law.specs.declared.event.History.{History}
use Rattle.hoare_law.specs.declared.turn.Turn.TheVariants.{Held}
use Rattle.hoare_law.specs.declared.event.Event.TheVariants.{Admit, Wait, Signal, Pass, Leave, Resume, Back, Notify}
use Rattle.hoare_law.specs.declared.event.Event.TheVariants.{Broadcast, SignalTo}
use Rattle.hoare_law.specs.Events.{place_of, own, newest}
use Rattle.hoare_law.specs.Called.{called}
use Rattle.hoare_law.specs.Waiting.{priority_of, condition_of, waits_on, concerns, is_untouched, waiting}
use Rattle.hoare_law.specs.Priorities.{in_order}
use Rattle.hoare_law.specs.Turns.{is_signal, urgent, turn}
use Rattle.hoare_law.specs.Legal.{IsInRange, IsLegal}
use Rattle.hoare_law.specs.Overtaking.{is_wait, waiting_anywhere}
use Rattle.hoare_law.proofs.Tests.{both_true, eq_swap, list_all-filter, list_all-push}
use Rattle.hoare_law.proofs.Filters.{All-filter_by_later, list_all-filter_own, list_all-filter_none, list_all-weaker}
use Rattle.hoare_law.proofs.Waiting.{filter_by_later-push}
use Rattle.hoare_law.proofs.Held.{is_inside, own_is_concerned, own-held, waits_on-is}
use Rattle.hoare_law.proofs.Waiters.{LastSignals, All-urgent, All-in_range, urgent-in_range, held-in_range}
use Rattle.hoare_law.proofs.Waiters.{newest-own_split, untouched_last}
use Rattle.hoare_law.proofs.Owed.{IsCalled, All-called}
use Rattle.hoare_law.proofs.Calling.{others_called}
use Rattle.hoare_law.proofs.Signallers.{Once, Once-urgent, in_no_signal, urgent-apart}
use Rattle.hoare_law.proofs.Resuming.{called-once, signal_waits_not, no_elements, length-filter_le}
use Rattle.hoare_law.proofs.Sorted.{length-in_order}

distinct_of : (us : List ℕ) → Once us → IsDistinct eqb us
unfolding IsDistinct
distinct_of [] o = tt
distinct_of (u ∷ us) o = (apart us o.0, distinct_of us o.1)
  where
    apart : (vs : List ℕ) → list_all (λ v. not (u == v)) vs ≡ true → AllByRecursion (λ v. eqb u v ≡ false) vs
    apart [] a = tt
    apart (v ∷ vs) a =
        let b : (not (u == v) ≡ true) × (list_all (λ t. not (u == t)) vs ≡ true) = both_true _ _ a in
        (not-true _ b.0, apart vs b.1)

below_of : (n q : ℕ) (us : List ℕ) → All (λ u. u < n) us → list_any (eqb q) us ≡ true → q < n
below_of n q [] all any = absurd (false≢true any)
below_of n q (u ∷ us) all any =
    by (eqb q u) refl any (λ more. below_of n q us (All-tail (λ j. j < n) u us all) more)
  where
    by : (t : Bool) → eqb q u ≡ t → (t || list_any (eqb q) us) ≡ true → (list_any (eqb q) us ≡ true → q < n) → q < n
    by true is either rest = subst (λ (j : ℕ). j < n) (sym (eqb-true q u is)) (All-head (λ j. j < n) u us all)
    by false is either rest = rest either

-- a list with no place twice has no more places than there are
few_places : (us : List ℕ) (n : ℕ) → Once us → All (λ u. u < n) us → length us ≤ n
few_places us n once all = length-le_from_distinct_below us n (distinct_of us once) (λ q any. below_of n q us all any)

apart_all : (u : ℕ) (us vs : List ℕ) → list_all (λ v. not (u == v)) us ≡ true → list_all (λ v. not (u == v)) vs ≡ true
    → list_all (λ v. not (u == v)) (us ++ vs) ≡ true
apart_all u [] vs a b = b
apart_all u (v ∷ us) vs a b =
    let c : (not (u == v) ≡ true) × (list_all (λ t. not (u == t)) us ≡ true) = both_true _ _ a in
    rw c.0 (apart_all u us vs c.1 b)

-- two lists, with no place twice and none in common
Once-append : (us vs : List ℕ) → Once us → Once vs → All (λ u. list_all (λ v. not (u == v)) vs ≡ true) us
    → Once (us ++ vs)
Once-append [] vs a b apart = b
Once-append (u ∷ us) vs a b apart = (
  apart_all u us vs a.0 (All-head (λ j. list_all (λ v. not (j == v)) vs ≡ true) u us apart),
  Once-append us vs a.1 b (All-tail (λ j. list_all (λ v. not (j == v)) vs ≡ true) u us apart),
)

All-two : (n : ℕ) (us vs : List ℕ) → All (λ u. u < n) us → All (λ u. u < n) vs → All (λ u. u < n) (us ++ vs)
All-two n [] vs a b = b
All-two n (u ∷ us) vs a b =
    All-cons (λ j. j < n) u (us ++ vs) (All-head (λ j. j < n) u us a) (All-two n us vs (All-tail (λ j. j < n) u us a) b)

module _ {S : Type 0} where
  -- the waiters on all conditions after one more event
  pub anywhere-push : (h : List (Event S)) (e : Event S)
      → waiting_anywhere (h ++ e ∷ [])
      ≡ filter (λ x. not (concerns (condition_of x) (place_of x) e)) (waiting_anywhere h)
      ++ cond (is_wait e) (e ∷ []) []
  unfolding waiting_anywhere
  anywhere-push h e = filter_by_later-push is_wait (λ x y. not (concerns (condition_of x) (place_of x) y)) h e

  -- no place is twice in the list
  abbrev OnceOf : List (Event S) → Type 0
  OnceOf [] = Unit {0}
  OnceOf (x ∷ xs) = (list_all (λ y. not (place_of x == place_of y)) xs ≡ true) × OnceOf xs

  OnceOf-filter : (p : Event S → Bool) (xs : List (Event S)) → OnceOf xs → OnceOf (filter p xs)
  OnceOf-filter p [] o = tt
  OnceOf-filter p (x ∷ xs) o = by (p x) (OnceOf-filter p xs o.1)
    where
      by : (t : Bool) → OnceOf (filter p xs) → OnceOf (cond t (x ∷ filter p xs) (filter p xs))
      by true rest = (list_all-filter (λ y. not (place_of x == place_of y)) p xs o.0, rest)
      by false rest = rest

  OnceOf-push : (xs : List (Event S)) (e : Event S) → list_all (λ x. not (place_of e == place_of x)) xs ≡ true
      → OnceOf xs → OnceOf (xs ++ e ∷ [])
  OnceOf-push [] e apart o = (refl, tt)
  OnceOf-push (x ∷ xs) e apart o =
      let b : (not (place_of e == place_of x) ≡ true) × (list_all (λ y. not (place_of e == place_of y)) xs ≡ true) =
      both_true _ _ apart in
      let swapped : not (place_of x == place_of e) ≡ true = ap not (eq_swap (place_of x) (place_of e)) ∙ b.0 in
      (list_all-push (λ y. not (place_of x == place_of y)) xs e ∙ (rw (o.0, swapped) refl), OnceOf-push xs e b.1 o.1)

  apart_places : (x : Event S) (ys : List (Event S)) → list_all (λ y. not (place_of x == place_of y)) ys ≡ true
      → list_all (λ v. not (place_of x == v)) (map place_of ys) ≡ true
  apart_places x [] a = refl
  apart_places x (y ∷ ys) a =
      let b : (not (place_of x == place_of y) ≡ true) × (list_all (λ z. not (place_of x == place_of z)) ys ≡ true) =
      both_true _ _ a in
      rw b.0 (apart_places x ys b.1)

  Once-places : (xs : List (Event S)) → OnceOf xs → Once (map place_of xs)
  Once-places [] o = tt
  Once-places (x ∷ xs) o = (apart_places x xs o.0, Once-places xs o.1)

  once_wait_by : (h : List (Event S)) (e : Event S) (b : Bool) → OnceOf (waiting_anywhere h)
      → OnceOf (filter (λ x. not (concerns (condition_of x) (place_of x) e)) (waiting_anywhere h) ++ cond b (e ∷ []) [])
  once_wait_by h e b o = by b
    where
      kept : List (Event S)
      kept = filter (λ x. not (concerns (condition_of x) (place_of x) e)) (waiting_anywhere h)

      others : list_all (λ x. not (place_of e == place_of x)) kept ≡ true
      others = list_all-weaker (λ x. not (concerns (condition_of x) (place_of x) e))
          (λ x. not (place_of e == place_of x))
          kept (λ x n. ap not (own_is_concerned e (condition_of x) (place_of x) n))
          (list_all-filter_own (λ x. not (concerns (condition_of x) (place_of x) e)) (waiting_anywhere h))

      once : OnceOf kept
      once = OnceOf-filter (λ x. not (concerns (condition_of x) (place_of x) e)) (waiting_anywhere h) o

      by : (t : Bool) → OnceOf (kept ++ cond t (e ∷ []) [])
      by true = OnceOf-push kept e others once
      by false = subst OnceOf (sym (append-nil kept)) once

  once_wait_steps : (f later : List (Event S)) → OnceOf (waiting_anywhere f) → OnceOf (waiting_anywhere (f ++ later))
  once_wait_steps f [] o = subst (λ (l : List (Event S)). OnceOf (waiting_anywhere l)) (sym (append-nil f)) o
  once_wait_steps f (e ∷ later) o =
      subst (λ (l : List (Event S)). OnceOf (waiting_anywhere l)) (append_assoc f (e ∷ []) later)
      (once_wait_steps (f ++ e ∷ []) later
      (subst OnceOf (sym (anywhere-push f e)) (once_wait_by f e (is_wait e) o)))

  none_waits : (h : List (Event S)) → h ≡ [] → OnceOf (waiting_anywhere h)
  unfolding waiting_anywhere
  none_waits h none = subst (λ (l : List (Event S)). OnceOf (waiting_anywhere l)) (sym none) tt

  OnceOf-anywhere : (h : List (Event S)) → OnceOf (waiting_anywhere h)
  OnceOf-anywhere h = once_wait_steps [] h (none_waits [] refl)

  -- the last event of a place that waits is its wait
  abbrev LastWaits : List (Event S) → Event S → Type 0
  LastWaits h x = (is_wait x ≡ true) × (newest (own (place_of x) h) ≡ Some x)

  All-anywhere : (h : List (Event S)) → All (LastWaits h) (waiting_anywhere h)
  unfolding waiting_anywhere
  All-anywhere h = All-filter_by_later (LastWaits h) (λ e later. is_wait e && is_untouched (condition_of e) e later) h
      (λ f x later is t.
      let b : (is_wait x ≡ true) × (is_untouched (condition_of x) x later ≡ true) = both_true _ _ t in
      (b.0, newest-own_split f later x h is (untouched_last (condition_of x) (place_of x) later b.1)))

  -- a place whose last event is no wait waits on no condition
  apart_waiting : (h : List (Event S)) (k : ℕ) (y : Event S) → newest (own k h) ≡ Some y → is_wait y ≡ false
      → (xs : List (Event S)) → All (LastWaits h) xs → list_all (λ v. not (k == v)) (map place_of xs) ≡ true
  apart_waiting h k y last quiet [] all = refl
  apart_waiting h k y last quiet (x ∷ xs) all =
      let was = All-head (LastWaits h) x xs all in
      let other : not (k == place_of x) ≡ true = ap not (ne_eqb k (place_of x) (λ same.
      let both : Some y ≡ Some x = sym last ∙ ap (λ j. newest (own j h)) same ∙ was.1 in
      let one : x ≡ y = cc in
      true≢false (sym was.0 ∙ ap is_wait one ∙ quiet))) in
      rw other (apart_waiting h k y last quiet xs (All-tail (LastWaits h) x xs all))

  signal_no_wait : (y : Event S) → is_signal y ≡ true → is_wait y ≡ false
  signal_no_wait (Signal k d w s) is = refl
  signal_no_wait (SignalTo k d w s) is = refl
  signal_no_wait (Admit k s) is = absurd (cc)
  signal_no_wait (Wait k d p s) is = absurd (cc)
  signal_no_wait (Pass k d w s) is = absurd (cc)
  signal_no_wait (Leave k s) is = absurd (cc)
  signal_no_wait (Resume k d s) is = absurd (cc)
  signal_no_wait (Back k s) is = absurd (cc)
  signal_no_wait (Notify k d w s) is = absurd (cc)
  signal_no_wait (Broadcast k d s) is = absurd (cc)

  in_no_wait : (y : Event S) → is_inside y ≡ true → is_wait y ≡ false
  in_no_wait (Admit k s) is = refl
  in_no_wait (Resume k d s) is = refl
  in_no_wait (Back k s) is = refl
  in_no_wait (Notify k d w s) is = refl
  in_no_wait (Broadcast k d s) is = refl
  in_no_wait (Wait k d p s) is = absurd (cc)
  in_no_wait (Signal k d w s) is = absurd (cc)
  in_no_wait (SignalTo k d w s) is = absurd (cc)
  in_no_wait (Pass k d w s) is = absurd (cc)
  in_no_wait (Leave k s) is = absurd (cc)

  -- the waiters on c are the waiters on all conditions whose wait was on c
  one_by_one : (c : ℕ) (x : Event S) (test : ℕ → Bool) (fewer all : List (Event S)) → fewer ≡ filter (waits_on c) all
      → cond (waits_on c x && test c) (x ∷ fewer) fewer
      ≡ filter (waits_on c) (cond (is_wait x && test (condition_of x)) (x ∷ all) all)
  one_by_one c x test fewer all is = by (waits_on c x) refl
    where
      kept : (b : Bool) → waits_on c x ≡ true
          → cond b (x ∷ fewer) fewer ≡ filter (waits_on c) (cond b (x ∷ all) all)
      kept true on =
          ap (λ l. x ∷ l) is ∙ ap (λ b. cond b (x ∷ filter (waits_on c) all) (filter (waits_on c) all)) (sym on)
      kept false on = is

      dropped : (b : Bool) → waits_on c x ≡ false → fewer ≡ filter (waits_on c) (cond b (x ∷ all) all)
      dropped true off =
          is ∙ ap (λ b. cond b (x ∷ filter (waits_on c) all) (filter (waits_on c) all)) (sym off)
      dropped false off = is

      by : (t : Bool) → waits_on c x ≡ t
          → cond (t && test c) (x ∷ fewer) fewer
          ≡ filter (waits_on c) (cond (is_wait x && test (condition_of x)) (x ∷ all) all)
      by true on =
          let made = waits_on-is c x on in
          let wait : is_wait x ≡ true = ap is_wait made in
          let there : condition_of x ≡ c = ap condition_of made in
          kept (test c) on
          ∙ ap (λ b. filter (waits_on c) (cond b (x ∷ all) all)) (sym (ap (λ b. b && test (condition_of x)) wait
          ∙ ap test there))
      by false off = dropped (is_wait x && test (condition_of x)) off

  pub waiting-anywhere : (c : ℕ) (h : List (Event S)) → waiting c h ≡ filter (waits_on c) (waiting_anywhere h)
  unfolding waiting waiting_anywhere
  waiting-anywhere c [] = refl
  waiting-anywhere c (x ∷ h) =
      one_by_one c x (λ d. is_untouched d x h) _ _ (waiting-anywhere c h)

  -- what holds of the waiters on each condition holds of all waiters
  all_anywhere : (p : Event S → Bool) (xs : List (Event S)) → All (λ x. is_wait x ≡ true) xs
      → ((d : ℕ) → list_all p (filter (waits_on d) xs) ≡ true) → list_all p xs ≡ true
  all_anywhere p [] waits each = refl
  all_anywhere p (x ∷ xs) waits each =
      rw (head (waits_there x (All-head (λ y. is_wait y ≡ true) x xs waits)))
      (all_anywhere p xs (All-tail (λ y. is_wait y ≡ true) x xs waits) (λ d. tail d (waits_on d x) (each d)))
    where
      waits_there : (y : Event S) → is_wait y ≡ true → waits_on (condition_of y) y ≡ true
      waits_there (Wait k c q s) is = eq-eqb c c refl
      waits_there (Admit k s) is = absurd (cc)
      waits_there (Signal k c w s) is = absurd (cc)
      waits_there (SignalTo k c w s) is = absurd (cc)
      waits_there (Pass k c w s) is = absurd (cc)
      waits_there (Leave k s) is = absurd (cc)
      waits_there (Resume k c s) is = absurd (cc)
      waits_there (Back k s) is = absurd (cc)
      waits_there (Notify k c w s) is = absurd (cc)
      waits_there (Broadcast k c s) is = absurd (cc)

      head : waits_on (condition_of x) x ≡ true → p x ≡ true
      head on =
          (both_true _ _ (sym (ap (λ b. list_all p (cond b (x ∷ filter (waits_on (condition_of x)) xs)
          (filter (waits_on (condition_of x)) xs))) on) ∙ each (condition_of x))).0

      tail : (d : ℕ) (b : Bool) → list_all p (cond b (x ∷ filter (waits_on d) xs) (filter (waits_on d) xs)) ≡ true
          → list_all p (filter (waits_on d) xs) ≡ true
      tail d true a = (both_true _ _ a).1
      tail d false a = a

  -- a notified process waits on no condition
  called_apart_waiting : (h : History S) (y : Event S) → IsCalled h y
      → list_all (λ v. not (place_of y == v)) (map place_of (waiting_anywhere h.events)) ≡ true
  called_apart_waiting h y was = apart_places y (waiting_anywhere h.events)
      (all_anywhere (λ z. not (place_of y == place_of z)) (waiting_anywhere h.events)
      (All-weaker (LastWaits h.events) (λ x. is_wait x ≡ true) (λ x r. r.0) (waiting_anywhere h.events)
      (All-anywhere h.events))
      (λ d. ap (list_all (λ z. not (place_of y == place_of z))) (sym (waiting-anywhere d h.events)) ∙ was.apart d))

  -- a list that has no place twice, by counting, has no place twice
  OnceOf-often : (xs : List (Event S)) → ((w : ℕ) → length (filter (λ x. w == place_of x) xs) ≤ 1) → OnceOf xs
  OnceOf-often [] few = tt
  OnceOf-often (x ∷ xs) few =
      let split : length (filter (λ y. place_of x == place_of y) (x ∷ xs))
      ≡ suc (length (filter (λ y. place_of x == place_of y) xs)) =
      ap (λ b. length (cond b (x ∷ filter (λ y. place_of x == place_of y) xs)
      (filter (λ y. place_of x == place_of y) xs))) (eq-eqb (place_of x) (place_of x) refl) in
      let first = few (place_of x) in (
        list_all-filter_none (λ y. place_of x == place_of y) xs (no_elements _ (omega (arith, split, first))),
        OnceOf-often xs (λ w. less w (w == place_of x) (few w)),
      )
    where
      less : (w : ℕ) (b : Bool)
          → length (cond b (x ∷ filter (λ y. w == place_of y) xs) (filter (λ y. w == place_of y) xs)) ≤ 1
          → length (filter (λ y. w == place_of y) xs) ≤ 1
      less w true le = omega (arith, le)
      less w false le = le

  -- a signaller isn't notified
  called_no_signaller : (h : History S) (u : ℕ) → LastSignals h.events u → (xs : List (Event S)) → All (IsCalled h) xs
      → list_all (λ v. not (u == v)) (map place_of xs) ≡ true
  called_no_signaller h u was [] all = refl
  called_no_signaller h u was (x ∷ xs) all =
      let called = All-head (IsCalled h) x xs all in
      let other : not (u == place_of x) ≡ true = ap not (ne_eqb u (place_of x) (λ same.
      let both : Some was.0 ≡ Some x = sym was.1 ∙ ap (λ j. newest (own j h.events)) same ∙ called.last in
      let one : x ≡ was.0 = cc in
      true≢false (sym called.waits ∙ ap (waits_on (condition_of x)) one
      ∙ signal_waits_not was.0 (condition_of x) was.2)))
      in
      rw other (called_no_signaller h u was xs (All-tail (IsCalled h) x xs all))

  in_range_anywhere : (h : History S) → IsLegal h
      → All (λ j. j < h.sizes.places) (map place_of (waiting_anywhere h.events))
  unfolding waiting_anywhere
  in_range_anywhere h legal =
      All-map (λ j. j < h.sizes.places) place_of _
      (All-weaker (IsInRange h.sizes) (λ e. place_of e < h.sizes.places) (λ e r. r.0) _ (All-in_range h _ legal))

  in_range_called : (h : History S) → IsLegal h → All (λ j. j < h.sizes.places) (map place_of (called h.events))
  in_range_called h legal =
      All-map (λ j. j < h.sizes.places) place_of (called h.events)
      (All-weaker (IsCalled h) (λ e. place_of e < h.sizes.places) (λ e r. r.place) (called h.events)
      (All-called h legal))

  All-mapped : (P : ℕ → Type 0) (xs : List (Event S)) → All (λ x. P (place_of x)) xs → All P (map place_of xs)
  All-mapped P xs all = All-map P place_of xs all

  -- the places of the signallers, the notified processes and the waiters
  abbrev places_of : List (Event S) → List ℕ
  places_of h = urgent h ++ (map place_of (called h) ++ map place_of (waiting_anywhere h))

  -- they are different places
  once_all : (h : History S) → IsLegal h → Once (places_of h.events)
  once_all h legal =
      let ws : List ℕ = map place_of (waiting_anywhere h.events) in
      let cs : List ℕ = map place_of (called h.events) in
      let once_ws : Once ws = Once-places (waiting_anywhere h.events) (OnceOf-anywhere h.events) in
      let once_cs : Once cs =
      Once-places (called h.events) (OnceOf-often (called h.events) (λ w. called-once h w legal)) in
      let cs_ws : All (λ u. list_all (λ v. not (u == v)) ws ≡ true) cs =
      All-mapped (λ u. list_all (λ v. not (u == v)) ws ≡ true) (called h.events)
      (All-weaker (IsCalled h) (λ x. list_all (λ v. not (place_of x == v)) ws ≡ true) (called_apart_waiting h)
      (called h.events) (All-called h legal)) in
      let us_both : All (λ u. list_all (λ v. not (u == v)) (cs ++ ws) ≡ true) (urgent h.events) =
      All-weaker (LastSignals h.events) (λ u. list_all (λ v. not (u == v)) (cs ++ ws) ≡ true)
      (λ u was. apart_all u cs ws (called_no_signaller h u was (called h.events) (All-called h legal))
      (apart_waiting h.events u was.0 was.1 (signal_no_wait was.0 was.2) (waiting_anywhere h.events)
      (All-anywhere h.events))) (urgent h.events) (All-urgent h.events) in
      Once-append (urgent h.events) (cs ++ ws) (Once-urgent h.events) (Once-append cs ws once_cs once_ws cs_ws) us_both

  all_below : (h : History S) → IsLegal h → All (λ j. j < h.sizes.places) (places_of h.events)
  all_below h legal =
      let ws : List ℕ = map place_of (waiting_anywhere h.events) in
      let cs : List ℕ = map place_of (called h.events) in
      All-two h.sizes.places (urgent h.events) (cs ++ ws) (urgent-in_range h legal)
      (All-two h.sizes.places cs ws (in_range_called h legal) (in_range_anywhere h legal))

  counted_all : (h : List (Event S))
      → length (places_of h) ≡ length (waiting_anywhere h) + length (urgent h) + length (called h)
  counted_all h =
      let ws : List ℕ = map place_of (waiting_anywhere h) in let cs : List ℕ = map place_of (called h) in
      omega (
        arith,
        length-append (urgent h) (cs ++ ws),
        length-append cs ws,
        length-map (waiting_anywhere h) place_of,
        length-map (called h) place_of,
      )

  -- so there are no more of them than there are places
  pub room_always : (h : History S) → IsLegal h
      → length (waiting_anywhere h.events) + length (urgent h.events) + length (called h.events) ≤ h.sizes.places
  room_always h legal =
      let few = few_places (places_of h.events) h.sizes.places (once_all h legal) (all_below h legal) in
      omega (arith, few, counted_all h.events)

  -- so a waiter has fewer waiters before it
  pub few_before : (c : ℕ) (h : History S) (before behind : List (Event S)) (x : Event S) → IsLegal h
      → in_order priority_of (waiting c h.events) ≡ before ++ x ∷ behind → length before < h.sizes.places
  few_before c h before behind x legal is =
      let all = sym (length-in_order priority_of (waiting c h.events)) ∙ ap length is
      ∙ length-append before (x ∷ behind) in
      let there = ap length (waiting-anywhere c h.events) in
      omega (arith, all, there, length-filter_le (waits_on c) (waiting_anywhere h.events), room_always h legal)

  -- and one place less, if a place is inside
  pub room_for_all : (h : History S) (k : ℕ) → IsLegal h → turn h.events ≡ Held k
      → length (waiting_anywhere h.events) + length (urgent h.events) + length (called h.events) + 1 ≤ h.sizes.places
  room_for_all h k legal held =
      let r = own-held h.events k held in
      let ws : List ℕ = map place_of (waiting_anywhere h.events) in
      let cs : List ℕ = map place_of (called h.events) in
      let first : list_all (λ v. not (k == v)) (places_of h.events) ≡ true =
      apart_all k (urgent h.events) (cs ++ ws) (urgent-apart h.events k r.0 r.1 (in_no_signal r.0 r.2))
      (apart_all k cs ws (through (called h.events) (others_called h k legal held))
      (apart_waiting h.events k r.0 r.1 (in_no_wait r.0 r.2) (waiting_anywhere h.events) (All-anywhere h.events))) in
      let few : length (k ∷ places_of h.events) ≤ h.sizes.places =
      few_places (k ∷ places_of h.events) h.sizes.places (first, once_all h legal)
      (All-cons (λ j. j < h.sizes.places) k (places_of h.events) (held-in_range h k legal held) (all_below h legal)) in
      omega (arith, few, counted_all h.events)
    where
      through : (xs : List (Event S)) → list_all (λ x. not (k == place_of x)) xs ≡ true
          → list_all (λ v. not (k == v)) (map place_of xs) ≡ true
      through [] a = refl
      through (x ∷ xs) a =
          let b : (not (k == place_of x) ≡ true) × (list_all (λ y. not (k == place_of y)) xs ≡ true) =
          both_true _ _ a in
          rw b.0 (through xs b.1)
