-- The waiting priorities after one more event.
use Rattle.std.proofs.Common.{◌≡◌, ◌≢◌, ◌==◌, ◌||◌, ◌≤◌, not, ℕ, suc, List, [], ◌∷◌, ◌++◌, length, map, Bool, true}
use Rattle.std.proofs.Common.{leb, false, cond, Option, Some, None, refl, ap, sym, ◌∙◌, subst, arith, eq-eqb, eqb-true}
use Rattle.std.proofs.Common.{ne_eqb, true≢false}
use Rattle.std.specs.Prelude.{IsSomeAnd, slice_index}
use Rattle.std.specs.List.{filter, list_all, find}
use Rattle.std.specs.List.Sorted.{IsNonDecreasing}
use Rattle.std.proofs.lemmas.Bool.Decides.{nat_tests}
use Rattle.std.proofs.lemmas.List.{append-nil, length-map}
use Rattle.std.proofs.lemmas.List.Elements.{All-weaker, filter_agree}
use Rattle.hoare_law.specs.declared.event.Event.{Event}
use Rattle.hoare_law.specs.declared.event.Event.TheVariants.{Wait, Leave, Notify}
use Rattle.hoare_law.specs.declared.event.Event.TheVariants.{Broadcast, SignalTo}
use Rattle.hoare_law.specs.declared.turn.Turn.TheVariants.{Held, Return}
use Rattle.hoare_law.specs.Events.{place_of, own, newest}
use Rattle.hoare_law.specs.Waiting.{waits_on, priority_of, concerns, is_least, waiting, chosen, Chooses, wait_by}
use Rattle.hoare_law.specs.Waiting.{IsWaiting}
use Rattle.hoare_law.specs.Turns.{is_signal, turn, is_out, outside}
use Rattle.hoare_law.specs.Priorities.{put_in, in_order, priorities, joined, taken, emptied, behind_first}
use Rattle.hoare_law.specs.Priorities.{without_one, left_by}
use Rattle.hoare_law.proofs.Tests.{both_true, eq_swap}
use Rattle.hoare_law.proofs.Waiting.{waiting-push}
use Rattle.hoare_law.proofs.Sorted.{first_of, put_all-push, in_order-filter, map-put_in, map-in_order, in_order-none}
use Rattle.hoare_law.proofs.Sorted.{in_order-short, length-in_order, IsNonDecreasing-in_order, find-filter, Rising}
use Rattle.hoare_law.proofs.Sorted.{Rising-in_order}
use Rattle.hoare_law.proofs.Chosen.{chosen-first}
use Rattle.hoare_law.proofs.Filters.{map-none, filter-all, filter-true, filter-false, filter-or, list_all-filter_none}
use Rattle.hoare_law.proofs.Filters.{list_all-same, list_all-from_All, list_all-at, All-find, find-passes, find-none}
use Rattle.hoare_law.proofs.Filters.{find-same, parted_at}
use Rattle.hoare_law.proofs.Held.{Hand, handing, waits_on-handing, concerns-handing, concerns-own, waits_not}
use Rattle.hoare_law.proofs.Held.{waiting-held}
use Rattle.hoare_law.proofs.Waiters.{Waits, LastSignals, All-waiting, own-return, chosen-waits, waiting-elsewhere}
use Rattle.hoare_law.proofs.Waiters.{waiting-once}

some_and : {X : Type 0} (P : X → Type 0) (o : Option X) → IsSomeAnd o P → (x : X) × (o ≡ Some x) × P x
some_and P None p = absurd p
some_and P (Some x) p = (x, refl, p)

first_is : {X : Type 0} (xs : List X) (x : X) → first_of xs ≡ Some x → xs ≡ x ∷ behind_first xs
first_is [] x is = absurd (cc)
first_is (y ∷ xs) x is = cc

first_none : {X : Type 0} (xs : List X) → first_of xs ≡ None → xs ≡ []
first_none [] is = refl
first_none (y ∷ xs) is = absurd (cc)

no_length : {X : Type 0} (xs : List X) → length xs ≤ 0 → xs ≡ []
no_length [] l = refl
no_length (x ∷ xs) l = absurd (omega arith)

module _ {X : Type 0} (key : X → ℕ) where
  -- in a rising list all keys from one that is x's up to x are the same
  same_keys : (us : List X) (x : X) (vs : List X) → list_all (λ v. leb (key x) (key v)) (us ++ x ∷ vs) ≡ true
      → Rising key (us ++ x ∷ vs)
      → map key (us ++ x ∷ vs) ≡ key x ∷ map key (us ++ vs)
  same_keys [] x vs low rises = refl
  same_keys (u ∷ us) x vs low rises =
      let b = both_true _ _ low in
      let up : leb (key u) (key x) ≡ true = list_all-at (λ v. leb (key u) (key v)) us x vs rises.0 in
      let same : key u ≡ key x = le_antisym (key u) (key x) up b.0 in
      ap (λ l. key u ∷ l) (same_keys us x vs b.1 rises.1) ∙ (λ i. same i ∷ sym same i ∷ map key (us ++ vs))
    where
      le_antisym : (m n : ℕ) → leb m n ≡ true → leb n m ≡ true → m ≡ n
      le_antisym m n a b = grind (arith, nat_tests)

  -- a rising list of keys without one key of x is the list of keys without x's own
  without_one-at : (us : List X) (x : X) (vs : List X) → Rising key (us ++ x ∷ vs)
      → without_one (key x) (map key (us ++ x ∷ vs)) ≡ map key (us ++ vs)
  without_one-at [] x vs rises = rw (eq-eqb (key x) (key x) refl) refl
  without_one-at (u ∷ us) x vs rises = by (key u == key x) refl (without_one-at us x vs rises.1)
    where
      by : (t : Bool) → (key u == key x) ≡ t → without_one (key x) (map key (us ++ x ∷ vs)) ≡ map key (us ++ vs)
          → cond t (map key (us ++ x ∷ vs)) (key u ∷ without_one (key x) (map key (us ++ x ∷ vs)))
          ≡ key u ∷ map key (us ++ vs)
      by true is rest =
          let same : key u ≡ key x = eqb-true (key u) (key x) is in
          same_keys us x vs (ap (λ n. list_all (λ v. leb n (key v)) (us ++ x ∷ vs)) (sym same) ∙ rises.0) rises.1
          ∙ ap (λ n. n ∷ map key (us ++ vs)) (sym same)
      by false is rest = ap (λ l. key u ∷ l) rest

module _ {S : Type 0} where
  -- the waiting priorities of a condition never decrease
  pub IsNonDecreasing-priorities : (h : List (Event S)) (c : ℕ) → IsNonDecreasing (priorities h c)
  unfolding priorities
  IsNonDecreasing-priorities h c =
      subst IsNonDecreasing (sym (map-in_order priority_of (waiting c h)))
      (IsNonDecreasing-in_order (map priority_of (waiting c h)))

  -- a place whose last event is no wait waits nowhere
  pub waiting-apart : (h : List (Event S)) (k d : ℕ)
      → ((x : Event S) → newest (own k h) ≡ Some x → waits_on d x ≡ false)
      → list_all (λ x. not (k == place_of x)) (waiting d h) ≡ true
  waiting-apart h k d apart = list_all-from_All (λ x. not (k == place_of x)) (waiting d h)
      (All-weaker (Waits d h) (λ x. not (k == place_of x) ≡ true)
      (λ x w. ap not (ne_eqb k (place_of x)
      (λ same. true≢false (sym w.on ∙ apart x (ap (λ j. newest (own j h)) same ∙ w.last)))))
      (waiting d h) (All-waiting d h))

  -- a place that is outside waits nowhere
  pub waiting-outside : (h : List (Event S)) (k d : ℕ) → outside k h ≡ true
      → list_all (λ x. not (k == place_of x)) (waiting d h) ≡ true
  unfolding outside
  waiting-outside h k d is =
      waiting-apart h k d
      (λ x last. waits_not (λ y. is_out (Some y) ≡ true) x d (λ j c p s on. cc) (ap is_out (sym last) ∙ is))

  -- a signaller that returns waits nowhere
  pub waiting-return : (h : List (Event S)) (k d : ℕ) → turn h ≡ Return k
      → list_all (λ x. not (k == place_of x)) (waiting d h) ≡ true
  waiting-return h k d is =
      let r : LastSignals h k = own-return h k is in
      waiting-apart h k d (λ x last. let same : r.0 ≡ x = let e : Some r.0 ≡ Some x = sym r.1 ∙ last in cc in
      waits_not (λ y. is_signal y ≡ true) x d (λ j c p s on. cc) (ap is_signal (sym same) ∙ r.2))

  -- an event of a place that waits nowhere, which concerns no other place, changes the waiters only by its own wait
  pub waiting-own : (h : List (Event S)) (e : Event S) (d : ℕ) → ((j : ℕ) → concerns d j e ≡ (place_of e == j))
      → list_all (λ x. not (place_of e == place_of x)) (waiting d h) ≡ true
      → waiting d (h ++ e ∷ []) ≡ waiting d h ++ cond (waits_on d e) (e ∷ []) []
  waiting-own h e d own_alone apart = waiting-push d h e
      ∙ ap (λ l. l ++ cond (waits_on d e) (e ∷ []) []) (filter-all (λ x. not (concerns d (place_of x) e)) (waiting d h)
      (list_all-same (λ x. not (concerns d (place_of x) e)) (λ x. not (place_of e == place_of x)) (waiting d h)
      (λ x. ap not (own_alone (place_of x))) ∙ apart))

  -- a wait adds itself
  pub waiting-wait : (h : List (Event S)) (k c p d : ℕ) (s : S) → turn h ≡ Held k
      → waiting d (h ++ Wait k c p s ∷ []) ≡ waiting d h ++ cond (c == d) (Wait k c p s ∷ []) []
  waiting-wait h k c p d s is =
      waiting-own h (Wait k c p s) d (λ j. concerns-own (Wait k c p s) d j refl) (waiting-held h k d is)

  -- so the priorities stay the same, if the event is no wait
  pub priorities-own : (h : List (Event S)) (e : Event S) → ((d j : ℕ) → concerns d j e ≡ (place_of e == j))
      → ((d : ℕ) → waits_on d e ≡ false)
      → ((d : ℕ) → list_all (λ x. not (place_of e == place_of x)) (waiting d h) ≡ true)
      → priorities (h ++ e ∷ []) ≡ priorities h
  unfolding priorities
  priorities-own h e own_alone no_wait apart = λ i d. map priority_of (in_order priority_of
      ((waiting-own h e d (own_alone d) (apart d) ∙ ap (λ b. waiting d h ++ cond b (e ∷ []) []) (no_wait d)
      ∙ append-nil _) i))

  -- so they stay the same at a leave
  pub priorities-leave : (h : List (Event S)) (k : ℕ) (s : S) → turn h ≡ Held k
      → priorities (h ++ Leave k s ∷ []) ≡ priorities h
  priorities-leave h k s is =
      priorities-own h (Leave k s) (λ d j. concerns-own (Leave k s) d j refl) (λ d. refl) (λ d. waiting-held h k d is)

  -- the waiters on d, in the order in which signals would resume them
  abbrev pub in_turn : List (Event S) → ℕ → List (Event S)
  in_turn h d = in_order priority_of (waiting d h)

  -- a wait is put in its rising place
  pub in_turn-wait : (h : List (Event S)) (k c p d : ℕ) (s : S) → turn h ≡ Held k
      → in_turn (h ++ Wait k c p s ∷ []) d ≡ cond (d == c) (put_in priority_of (Wait k c p s) (in_turn h d))
      (in_turn h d)
  in_turn-wait h k c p d s is = ap (in_order priority_of) (waiting-wait h k c p d s is) ∙ by (d == c) refl
    where
      by : (t : Bool) → (d == c) ≡ t
          → in_order priority_of (waiting d h ++ cond (c == d) (Wait k c p s ∷ []) [])
          ≡ cond t (put_in priority_of (Wait k c p s) (in_turn h d)) (in_turn h d)
      by true e =
          ap (λ t. in_order priority_of (waiting d h ++ cond t (Wait k c p s ∷ []) [])) (eq_swap c d ∙ e)
          ∙ put_all-push priority_of [] (waiting d h) (Wait k c p s)
      by false e =
          ap (λ t. in_order priority_of (waiting d h ++ cond t (Wait k c p s ∷ []) [])) (eq_swap c d ∙ e)
          ∙ ap (in_order priority_of) (append-nil (waiting d h))

  priorities-wait_at : (h : List (Event S)) (k c p d : ℕ) (s : S) → turn h ≡ Held k
      → priorities (h ++ Wait k c p s ∷ []) d ≡ joined (priorities h) c p d
  unfolding priorities
  priorities-wait_at h k c p d s is = ap (map priority_of) (in_turn-wait h k c p d s is) ∙ by (d == c)
    where
      by : (t : Bool)
          → map priority_of (cond t (put_in priority_of (Wait k c p s) (in_turn h d)) (in_turn h d)) ≡ cond t
          (put_in (λ n. n) p (map priority_of (in_turn h d))) (map priority_of (in_turn h d))
      by true = map-put_in priority_of (Wait k c p s) (in_turn h d)
      by false = refl

  -- a wait puts in its priority
  pub priorities-wait : (h : List (Event S)) (k c p : ℕ) (s : S) → turn h ≡ Held k
      → priorities (h ++ Wait k c p s ∷ []) ≡ joined (priorities h) c p
  priorities-wait h k c p s is = λ i d. priorities-wait_at h k c p d s is i

  -- the chosen waiter is the first in order
  pub in_turn-chosen : (c : ℕ) (h : List (Event S)) (x : Event S) → chosen c h ≡ Some x
      → in_turn h c ≡ x ∷ behind_first (in_turn h c)
  unfolding chosen
  in_turn-chosen c h x is = first_is _ x (sym (chosen-first priority_of (waiting c h)) ∙ is)

  -- the priority of the chosen waiter is the first of the waiting priorities
  pub priorities-chosen : (c : ℕ) (h : List (Event S)) (x : Event S) → chosen c h ≡ Some x
      → priorities h c ≡ priority_of x ∷ behind_first (priorities h c)
  unfolding priorities
  priorities-chosen c h x is =
      let e : priorities h c ≡ priority_of x ∷ map priority_of (behind_first (in_turn h c)) =
      ap (map priority_of) (in_turn-chosen c h x is) in
      e ∙ ap (λ l. priority_of x ∷ behind_first l) (sym e)

  -- so it is at index 0 of them
  pub slice_index-chosen : (c : ℕ) (h : List (Event S)) (x : Event S) → chosen c h ≡ Some x
      → slice_index (priorities h c) 0 ≡ priority_of x
  slice_index-chosen c h x is = ap (λ l. slice_index l 0) (priorities-chosen c h x is)

  -- no waiter is chosen only if no process waits
  pub waiting-unchosen : (c : ℕ) (h : List (Event S)) → chosen c h ≡ None → waiting c h ≡ []
  unfolding chosen
  waiting-unchosen c h is =
      in_order-none priority_of (waiting c h) (first_none _ (sym (chosen-first priority_of (waiting c h)) ∙ is))

  -- if no process waits, none is chosen
  pub chosen-nobody : (c : ℕ) (h : List (Event S)) → waiting c h ≡ [] → chosen c h ≡ None
  unfolding chosen
  chosen-nobody c h none = chosen-first priority_of (waiting c h) ∙ ap (λ l. first_of (in_order priority_of l)) none

  -- if no process waits, there is no waiting priority
  pub priorities-nobody : (c : ℕ) (h : List (Event S)) → waiting c h ≡ [] → priorities h c ≡ []
  unfolding priorities
  priorities-nobody c h none = ap (λ l. map priority_of (in_order priority_of l)) none

  -- if there is no waiting priority, no process waits
  pub waiting-no_priority : (c : ℕ) (h : List (Event S)) → priorities h c ≡ [] → waiting c h ≡ []
  unfolding priorities
  waiting-no_priority c h none = in_order-none priority_of (waiting c h) (map-none priority_of _ none)

  -- the waiter is chosen, and its place is w
  pub Chooses-chosen : (c w : ℕ) (h : List (Event S)) → Chooses c h w
      → (x : Event S) × (chosen c h ≡ Some x) × (place_of x ≡ w)
  unfolding Chooses
  Chooses-chosen c w h is = some_and (λ x. place_of x ≡ w) (chosen c h) is

  -- the wait of w is a wait on c, and the last event of w
  pub wait_by-waits : (c w : ℕ) (h : List (Event S)) (x : Event S) → wait_by w c h ≡ Some x
      → Waits c h x × (place_of x ≡ w)
  unfolding wait_by
  wait_by-waits c w h x is = (
    All-find (Waits c h) (λ e. place_of e == w) (waiting c h) x is (All-waiting c h),
    eqb-true (place_of x) w (find-passes (λ e. place_of e == w) (waiting c h) x is),
  )

  wait_by-found : (c w : ℕ) (h : List (Event S)) (x : Event S) → wait_by w c h ≡ Some x
      → find (λ e. place_of e == w) (waiting c h) ≡ Some x
  unfolding wait_by
  wait_by-found c w h x is = is

  -- the place of that wait is waiting
  pub IsWaiting-by : (c w : ℕ) (h : List (Event S)) (x : Event S) → wait_by w c h ≡ Some x → IsWaiting c h w
  unfolding IsWaiting
  IsWaiting-by c w h x is =
      subst (λ (o : Option (Event S)). IsSomeAnd o (λ e. place_of e ≡ w)) (sym is) (wait_by-waits c w h x is).1

  -- a place that waits on c has a wait there
  pub waiting-wait_by : (c w : ℕ) (h : List (Event S)) → IsWaiting c h w
      → (x : Event S) × (wait_by w c h ≡ Some x) × (place_of x ≡ w)
  unfolding IsWaiting
  waiting-wait_by c w h is = some_and (λ x. place_of x ≡ w) (wait_by w c h) is

  -- two waits of one place are the same
  one_wait : (c : ℕ) (h : List (Event S)) (x y : Event S) → Waits c h x → Waits c h y → place_of x ≡ place_of y → x ≡ y
  one_wait c h x y a b same =
      let both : Some x ≡ Some y = sym a.last ∙ ap (λ k. newest (own k h)) same ∙ b.last in cc

  -- the wait of the chosen waiter is the wait of its place
  pub wait_by-chosen : (c : ℕ) (h : List (Event S)) (x : Event S) → chosen c h ≡ Some x
      → wait_by (place_of x) c h ≡ Some x
  unfolding wait_by chosen
  wait_by-chosen c h x is = by (find (λ e. place_of e == place_of x) (waiting c h)) refl
    where
      by : (o : Option (Event S)) → find (λ e. place_of e == place_of x) (waiting c h) ≡ o → o ≡ Some x
      by (Some y) found = let r = wait_by-waits c (place_of x) h y found in
          ap (λ z. Some z) (one_wait c h y x r.0 (chosen-waits c h x is) r.1)
      by None none = absurd (true≢false (sym (eq-eqb (place_of x) (place_of x) refl)
          ∙ All-find (λ y. (place_of y == place_of x) ≡ false) (is_least (waiting c h)) (waiting c h) x is
          (find-none (λ e. place_of e == place_of x) (waiting c h) none)))

  -- the chosen waiter waits
  pub Chooses-waits : (c w : ℕ) (h : List (Event S)) → Chooses c h w → IsWaiting c h w
  Chooses-waits c w h chooses =
      let r = Chooses-chosen c w h chooses in
      subst (IsWaiting c h) r.2 (IsWaiting-by c (place_of r.0) h r.0 (wait_by-chosen c h r.0 r.1))

  -- the waiters after the chosen one have other places
  pub apart_behind : (c : ℕ) (h : List (Event S)) (x : Event S) → chosen c h ≡ Some x
      → list_all (λ y. not (place_of x == place_of y)) (behind_first (in_turn h c)) ≡ true
  apart_behind c h x is =
      let short : filter (λ y. place_of x == place_of y) (in_turn h c)
      ≡ filter (λ y. place_of x == place_of y) (waiting c h) =
      sym (in_order-filter priority_of (λ y. place_of x == place_of y) (waiting c h))
      ∙ in_order-short priority_of _ (waiting-once c (place_of x) h) in
      let split : filter (λ y. place_of x == place_of y) (in_turn h c)
      ≡ x ∷ filter (λ y. place_of x == place_of y) (behind_first (in_turn h c)) =
      ap (filter (λ y. place_of x == place_of y)) (in_turn-chosen c h x is) ∙ ap
      (λ b. cond b (x ∷ filter (λ y. place_of x == place_of y) (behind_first (in_turn h c)))
      (filter (λ y. place_of x == place_of y) (behind_first (in_turn h c))))
      (eq-eqb (place_of x) (place_of x) refl) in
      let one : suc (length (filter (λ y. place_of x == place_of y) (behind_first (in_turn h c))))
      ≡ length (filter (λ y. place_of x == place_of y) (waiting c h)) = ap length (sym split ∙ short) in
      list_all-filter_none (λ y. place_of x == place_of y) _
      (no_length _ (omega (arith, one, waiting-once c (place_of x) h)))

  -- the waiters in order, without the chosen one
  in_turn-without : (c : ℕ) (h : List (Event S)) (x : Event S) → chosen c h ≡ Some x
      → in_order priority_of (filter (λ y. not (place_of x == place_of y)) (waiting c h)) ≡ behind_first (in_turn h c)
  in_turn-without c h x is =
      in_order-filter priority_of (λ y. not (place_of x == place_of y)) (waiting c h)
      ∙ ap (filter (λ y. not (place_of x == place_of y))) (in_turn-chosen c h x is)
      ∙ ap (λ b. cond (not b) (x ∷ filter (λ y. not (place_of x == place_of y)) (behind_first (in_turn h c)))
      (filter (λ y. not (place_of x == place_of y)) (behind_first (in_turn h c)))) (eq-eqb (place_of x)
      (place_of x) refl)
      ∙ filter-all _ _ (apart_behind c h x is)

  map-behind_first : (xs : List (Event S)) → map priority_of (behind_first xs) ≡ behind_first (map priority_of xs)
  map-behind_first [] = refl
  map-behind_first (x ∷ xs) = refl

  -- an event that concerns k, which is inside, and w, the place that it chooses, takes the chosen waiter from the
  -- waiters
  pub in_turn-takes : (h : List (Event S)) (e : Event S) (k c w d : ℕ) → waits_on d e ≡ false
      → ((j : ℕ) → concerns d j e ≡ (k == j || w == j)) → turn h ≡ Held k → Chooses c h w
      → in_turn (h ++ e ∷ []) d ≡ cond (d == c) (behind_first (in_turn h d)) (in_turn h d)
  in_turn-takes h e k c w d no_wait both is chooses =
      let r : (x : Event S) × (chosen c h ≡ Some x) × (place_of x ≡ w) = Chooses-chosen c w h chooses in
      let left : waiting d (h ++ e ∷ []) ≡ filter (λ y. not (place_of r.0 == place_of y)) (waiting d h) =
      waiting-push d h e
      ∙ ap (λ b. filter (λ x. not (concerns d (place_of x) e)) (waiting d h) ++ cond b (e ∷ []) []) no_wait
      ∙ append-nil _
      ∙ filter_agree (λ x. not (concerns d (place_of x) e)) (λ x. not (k == place_of x || w == place_of x))
      (λ x. ap not (both (place_of x))) (waiting d h)
      ∙ filter-or (λ x. k == place_of x) (λ x. w == place_of x) (waiting d h) (waiting-held h k d is)
      ∙ ap (λ j. filter (λ y. not (j == place_of y)) (waiting d h)) (sym r.2) in
      ap (in_order priority_of) left ∙ by r.0 r.1 (d == c) refl
    where
      by : (x : Event S) → chosen c h ≡ Some x → (t : Bool) → (d == c) ≡ t
          → in_order priority_of (filter (λ y. not (place_of x == place_of y)) (waiting d h))
          ≡ cond t (behind_first (in_turn h d)) (in_turn h d)
      by x some true same = let e : d ≡ c = eqb-true d c same in
          subst
          (λ (b : ℕ). in_order priority_of (filter (λ y. not (place_of x == place_of y)) (waiting b h))
          ≡ behind_first (in_turn h b))
          (sym e) (in_turn-without c h x some)
      by x some false other = ap (λ (l : List (Event S)). in_order priority_of l)
          (filter-all (λ y. not (place_of x == place_of y)) (waiting d h)
          (waiting-elsewhere c d h x (λ same. true≢false (sym (eq-eqb d c same) ∙ other)) (chosen-waits c h x some)))

  -- an event that concerns k, which is inside, and w takes w from the waiters
  pub in_turn-leaves : (h : List (Event S)) (e : Event S) (k w d : ℕ) → waits_on d e ≡ false
      → ((j : ℕ) → concerns d j e ≡ (k == j || w == j)) → turn h ≡ Held k
      → in_turn (h ++ e ∷ []) d ≡ filter (λ y. not (w == place_of y)) (in_turn h d)
  in_turn-leaves h e k w d no_wait both is =
      ap (in_order priority_of) (waiting-push d h e
      ∙ ap (λ b. filter (λ x. not (concerns d (place_of x) e)) (waiting d h) ++ cond b (e ∷ []) []) no_wait
      ∙ append-nil _
      ∙ filter_agree (λ x. not (concerns d (place_of x) e)) (λ x. not (k == place_of x || w == place_of x))
      (λ x. ap not (both (place_of x))) (waiting d h)
      ∙ filter-or (λ x. k == place_of x) (λ x. w == place_of x) (waiting d h) (waiting-held h k d is))
      ∙ in_order-filter priority_of (λ y. not (w == place_of y)) (waiting d h)

  -- a place that waits on c waits on no other condition
  pub in_turn-elsewhere : (c d w : ℕ) (h : List (Event S)) (x : Event S) → d ≢ c → wait_by w c h ≡ Some x
      → filter (λ y. not (w == place_of y)) (in_turn h d) ≡ in_turn h d
  in_turn-elsewhere c d w h x other is =
      let r = wait_by-waits c w h x is in
      sym (in_order-filter priority_of (λ y. not (w == place_of y)) (waiting d h))
      ∙ ap (in_order priority_of) (filter-all (λ y. not (w == place_of y)) (waiting d h)
      (ap (λ k. list_all (λ y. not (k == place_of y)) (waiting d h)) (sym r.1)
      ∙ waiting-elsewhere c d h x other r.0))

  -- the waiters in order, parted by the wait of w, which no other has
  pub in_turn-parted : (c w : ℕ) (h : List (Event S)) (x : Event S) → wait_by w c h ≡ Some x
      → (us vs : List (Event S)) × (in_turn h c ≡ us ++ x ∷ vs)
      × (filter (λ y. not (w == place_of y)) (in_turn h c) ≡ us ++ vs)
  in_turn-parted c w h x is =
      let r = wait_by-waits c w h x is in
      let test : Event S → Bool = λ y. w == place_of y in
      let same : filter test (in_turn h c) ≡ filter test (waiting c h) =
      sym (in_order-filter priority_of test (waiting c h)) ∙ in_order-short priority_of _ (waiting-once c w h) in
      parted_at test (in_turn h c) x
      (find-filter test (in_turn h c) ∙ ap first_of same ∙ sym (find-filter test (waiting c h))
      ∙ find-same test (λ y. place_of y == w) (waiting c h) (λ y. eq_swap w (place_of y)) ∙ wait_by-found c w h x is)
      (subst (λ (l : List (Event S)). length l ≤ 1) (sym same) (waiting-once c w h))

  -- a signal to w takes one priority: that of its wait
  priorities-signal_to_at : (h : List (Event S)) (k c w : ℕ) (x : Event S) (s : S) (d : ℕ) → turn h ≡ Held k
      → wait_by w c h ≡ Some x
      → priorities (h ++ SignalTo k c w s ∷ []) d ≡ left_by (priorities h) c (priority_of x) d
  unfolding priorities
  priorities-signal_to_at h k c w x s d held is =
      ap (map priority_of) (in_turn-leaves h (SignalTo k c w s) k w d refl (λ j. refl) held) ∙ by (d == c) refl
    where
      by : (t : Bool) → (d == c) ≡ t
          → map priority_of (filter (λ y. not (w == place_of y)) (in_turn h d))
          ≡ cond t (without_one (priority_of x) (map priority_of (in_turn h d))) (map priority_of (in_turn h d))
      by true same =
          let r = in_turn-parted c w h x is in
          let rises : Rising priority_of (r.0 ++ x ∷ r.1) =
          subst (Rising priority_of) r.2 (Rising-in_order priority_of (waiting c h)) in
          let here : map priority_of (filter (λ y. not (w == place_of y)) (in_turn h c))
          ≡ without_one (priority_of x) (map priority_of (in_turn h c)) =
          ap (map priority_of) r.3 ∙ sym (without_one-at priority_of r.0 x r.1 rises)
          ∙ ap (λ l. without_one (priority_of x) (map priority_of l)) (sym r.2) in
          subst (λ (b : ℕ). map priority_of (filter (λ y. not (w == place_of y)) (in_turn h b))
          ≡ without_one (priority_of x) (map priority_of (in_turn h b))) (sym (eqb-true d c same)) here
      by false other =
          ap (map priority_of)
          (in_turn-elsewhere c d w h x (λ same. true≢false (sym (eq-eqb d c same) ∙ other)) is)

  pub priorities-signal_to : (h : List (Event S)) (k c w : ℕ) (x : Event S) (s : S) → turn h ≡ Held k
      → wait_by w c h ≡ Some x
      → priorities (h ++ SignalTo k c w s ∷ []) ≡ left_by (priorities h) c (priority_of x)
  priorities-signal_to h k c w x s held is = λ i d. priorities-signal_to_at h k c w x s d held is i

  map-taken : (h : List (Event S)) (c d : ℕ)
      → map priority_of (cond (d == c) (behind_first (in_turn h d)) (in_turn h d)) ≡ taken (priorities h) c d
  unfolding priorities
  map-taken h c d = by (d == c)
    where
      by : (t : Bool)
          → map priority_of (cond t (behind_first (in_turn h d)) (in_turn h d))
          ≡ cond t (behind_first (map priority_of (in_turn h d))) (map priority_of (in_turn h d))
      by true = map-behind_first (in_turn h d)
      by false = refl

  -- a signal and a pass take the first priority
  pub priorities-handing : (out : Hand) (h : List (Event S)) (k c w : ℕ) (s : S) → turn h ≡ Held k → Chooses c h w
      → priorities (h ++ handing out k c w s ∷ []) ≡ taken (priorities h) c
  unfolding priorities
  priorities-handing out h k c w s is chooses = λ i d.
      (ap (map priority_of) (in_turn-takes h (handing out k c w s) k c w d (waits_on-handing out d k c w s)
      (λ j. concerns-handing out d j k c w s) is chooses) ∙ map-taken h c d) i

  -- a notify takes the first priority
  pub priorities-notify : (h : List (Event S)) (k c w : ℕ) (s : S) → turn h ≡ Held k → Chooses c h w
      → priorities (h ++ Notify k c w s ∷ []) ≡ taken (priorities h) c
  unfolding priorities
  priorities-notify h k c w s is chooses =
      λ i d. (ap (map priority_of) (in_turn-takes h (Notify k c w s) k c w d refl (λ j. refl) is chooses)
      ∙ map-taken h c d) i

  -- a broadcast leaves no waiter on its condition, and leaves the waiters on other conditions as they were
  pub waiting-broadcast : (h : List (Event S)) (k c d : ℕ) (s : S) → turn h ≡ Held k
      → waiting d (h ++ Broadcast k c s ∷ []) ≡ cond (d == c) [] (waiting d h)
  waiting-broadcast h k c d s is =
      waiting-push d h (Broadcast k c s) ∙ append-nil _
      ∙ filter-or (λ x. k == place_of x) (λ x. c == d) (waiting d h) (waiting-held h k d is)
      ∙ ap (λ b. filter (λ x. not b) (waiting d h)) (eq_swap c d)
      ∙ by (d == c)
    where
      by : (t : Bool) → filter (λ x. not t) (waiting d h) ≡ cond t [] (waiting d h)
      by true = filter-false (waiting d h)
      by false = filter-true (waiting d h)

  priorities-broadcast_at : (h : List (Event S)) (k c d : ℕ) (s : S) → turn h ≡ Held k
      → priorities (h ++ Broadcast k c s ∷ []) d ≡ emptied (priorities h) c d
  unfolding priorities
  priorities-broadcast_at h k c d s is =
      ap (λ ws. map priority_of (in_order priority_of ws)) (waiting-broadcast h k c d s is) ∙ by (d == c)
    where
      by : (t : Bool)
          → map priority_of (in_order priority_of (cond t [] (waiting d h))) ≡ cond t [] (map priority_of (in_turn h d))
      by true = refl
      by false = refl

  pub priorities-broadcast : (h : List (Event S)) (k c : ℕ) (s : S) → turn h ≡ Held k
      → priorities (h ++ Broadcast k c s ∷ []) ≡ emptied (priorities h) c
  priorities-broadcast h k c s is = λ i d. priorities-broadcast_at h k c d s is i

  -- there are as many waiting priorities as waiters
  pub length-priorities : (c : ℕ) (h : List (Event S)) → length (priorities h c) ≡ length (waiting c h)
  unfolding priorities
  length-priorities c h = length-map (in_turn h c) priority_of ∙ length-in_order priority_of (waiting c h)
