-- What is known of a process that waits, of the chosen waiter, and of a waiting signaller.
use Rattle.std.proofs.Common.{◌≡◌, ◌≢◌, ◌==◌, ◌&&◌, ◌<◌, ◌≤◌, not, ℕ, List, [], ◌∷◌, ◌++◌, length}
use Rattle.std.proofs.Common.{Bool, true, false, cond, Some, refl, ap, sym, ◌∙◌, subst, arith, eq-eqb, eqb-true, ne_eqb}
use Rattle.std.specs.Prelude.{All}
use Rattle.std.specs.List.{filter, list_all}
use Rattle.std.proofs.lemmas.List.Elements.{All-head, All-weaker, All-map, filter-append}
use Rattle.hoare_law.specs.declared.event.Event.{Event}
use Rattle.hoare_law.specs.declared.event.History.{History}
use Rattle.hoare_law.specs.declared.turn.Turn.TheVariants.{Held, Return}
use Rattle.hoare_law.specs.Events.{place_of, own, newest}
use Rattle.hoare_law.specs.Waiting.{condition_of, filter_by_later, waits_on, concerns, is_last_act, is_untouched}
use Rattle.hoare_law.specs.Waiting.{is_least, waiting, chosen, wait_by}
use Rattle.hoare_law.specs.Turns.{is_signal, urgent, turn}
use Rattle.hoare_law.specs.Legal.{IsInRange, IsLegal}
use Rattle.hoare_law.proofs.Tests.{both_true, eq_swap}
use Rattle.hoare_law.proofs.Events.{newest-push}
use Rattle.hoare_law.proofs.Filters.{filter-none, list_all-at, list_all-from_All, All-find, find-passes}
use Rattle.hoare_law.proofs.Filters.{All-filter_by_later}
use Rattle.hoare_law.proofs.Held.{is_inside, Hand, by_pass, by_signal, by_signal_to, handing, own_is_concerned}
use Rattle.hoare_law.proofs.Held.{waits_on-is, turn-held, turn-return}

module _ {S : Type 0} where
  -- x waits on c in h: it is a wait on c, and its place's last event
  pub record Waits (c : ℕ) (h : List (Event S)) (x : Event S) : Type 0 where
    pub on : waits_on c x ≡ true
    pub last : newest (own (place_of x) h) ≡ Some x

  own_none : (k : ℕ) (later : List (Event S)) → list_all (λ x. not (place_of x == k)) later ≡ true → own k later ≡ []
  own_none k later a = filter-none (λ x. place_of x == k) later a

  -- an event after which its place does nothing is the last of that place
  pub newest-own_split : (f later : List (Event S)) (x : Event S) (h : List (Event S)) → h ≡ f ++ x ∷ later
      → list_all (λ y. not (place_of y == place_of x)) later ≡ true
      → newest (own (place_of x) h) ≡ Some x
  newest-own_split f later x h is a =
      let k : ℕ = place_of x in
      let tail : own k (x ∷ later) ≡ x ∷ [] =
      ap (λ b. cond b (x ∷ own k later) (own k later)) (eq-eqb k k refl) ∙ ap (λ l. x ∷ l) (own_none k later a) in
      let whole : own k h ≡ own k f ++ x ∷ [] =
      ap (own k) is ∙ filter-append (λ y. place_of y == k) f (x ∷ later) ∙ ap (λ l. own k f ++ l) tail in
      ap newest whole ∙ newest-push (own k f) x

  -- a place that no event concerns does nothing
  pub untouched_last : (c k : ℕ) (later : List (Event S)) → list_all (λ y. not (concerns c k y)) later ≡ true
      → list_all (λ y. not (place_of y == k)) later ≡ true
  untouched_last c k [] a = refl
  untouched_last c k (y ∷ later) a =
      let b : (not (concerns c k y) ≡ true) × (list_all (λ z. not (concerns c k z)) later ≡ true) = both_true _ _ a in
      rw (own_is_concerned y c k b.0) (untouched_last c k later b.1)

  -- each waiter's wait is the last event of its place
  pub All-waiting : (c : ℕ) (h : List (Event S)) → All (Waits c h) (waiting c h)
  unfolding waiting
  All-waiting c h = All-filter_by_later (Waits c h) (λ e later. waits_on c e && is_untouched c e later) h
      (λ f x later is t.
      let b : (waits_on c x ≡ true) × (is_untouched c x later ≡ true) = both_true _ _ t in
      record { on = b.0; last = newest-own_split f later x h is (untouched_last c (place_of x) later b.1) })

  -- the last event of each waiting signaller is its signal
  abbrev pub LastSignals : List (Event S) → ℕ → Type 0
  LastSignals h k = (x : Event S) × (newest (own k h) ≡ Some x) × (is_signal x ≡ true)

  -- so this holds of each place among the signallers
  pub All-urgent : (h : List (Event S)) → All (LastSignals h) (urgent h)
  unfolding urgent
  All-urgent h =
      All-map (LastSignals h) place_of _
      (All-filter_by_later (λ x. LastSignals h (place_of x)) (λ e later. is_signal e && is_last_act e later) h
      (λ f x later is t.
      let b : (is_signal x ≡ true) × (is_last_act x later ≡ true) = both_true _ _ t in
      (x, newest-own_split f later x h is b.1, b.0)))

  -- each event of a legal history is in range
  pub in_range-at : (h : History S) (f later : List (Event S)) (e : Event S) → IsLegal h → h.events ≡ f ++ e ∷ later
      → IsInRange h.sizes e
  in_range-at h f later e legal is = (legal.each f later e is).in_range

  -- each event that is kept by what comes later is in range
  pub All-in_range : (h : History S) (test : Event S → List (Event S) → Bool) → IsLegal h
      → All (IsInRange h.sizes) (filter_by_later test h.events)
  All-in_range h test legal =
      All-filter_by_later (IsInRange h.sizes) test h.events (λ f e later is t. in_range-at h f later e legal is)

  pub handing_in_range : (out : Hand) (h : History S) (k c w : ℕ) (s : S) → IsInRange h.sizes (handing out k c w s)
      → (w < h.sizes.places) × (c < h.sizes.conditions)
  handing_in_range by_pass h k c w s r = (r.1.1, r.1.0)
  handing_in_range by_signal h k c w s r = (r.1.1, r.1.0)
  handing_in_range by_signal_to h k c w s r = (r.1.1, r.1.0)

  -- the place whose turn it is, is a place of the monitor
  pub held-in_range : (h : History S) (k : ℕ) → IsLegal h → turn h.events ≡ Held k → k < h.sizes.places
  held-in_range h k legal is =
      let r : (e : Event S) × ((g : List (Event S)) × (h.events ≡ g ++ e ∷ [])) × (is_inside e ≡ true)
      × (place_of e ≡ k) =
      turn-held h.events k is in
      subst (λ (i : ℕ). i < h.sizes.places) r.3 (in_range-at h r.1.0 [] r.0 legal r.1.1).0

  -- the waiting signallers are places of the monitor
  pub urgent-in_range : (h : History S) → IsLegal h → All (λ k. k < h.sizes.places) (urgent h.events)
  unfolding urgent
  urgent-in_range h legal =
      All-map (λ k. k < h.sizes.places) place_of _
      (All-weaker (IsInRange h.sizes) (λ e. place_of e < h.sizes.places) (λ e r. r.0) _ (All-in_range h _ legal))

  -- the signaller that returns is a place of the monitor
  pub return-in_range : (h : History S) (k : ℕ) → IsLegal h → turn h.events ≡ Return k → k < h.sizes.places
  return-in_range h k legal is = let r = turn-return h.events k is in
      All-head (λ (i : ℕ). i < h.sizes.places) k r.3
      (subst (λ (us : List ℕ). All (λ (i : ℕ). i < h.sizes.places) us) r.4 (urgent-in_range h legal))

  -- the last event of a place that returns is its signal
  pub own-return : (h : List (Event S)) (k : ℕ) → turn h ≡ Return k → LastSignals h k
  own-return h k is = let r = turn-return h k is in
      All-head (LastSignals h) k r.3 (subst (λ (us : List ℕ). All (LastSignals h) us) r.4 (All-urgent h))

  -- the chosen waiter waits
  pub chosen-waits : (c : ℕ) (h : List (Event S)) (x : Event S) → chosen c h ≡ Some x → Waits c h x
  unfolding chosen
  chosen-waits c h x is = All-find (Waits c h) (is_least (waiting c h)) (waiting c h) x is (All-waiting c h)

  -- the wait of the chosen waiter is in range
  pub chosen-in_range : (c : ℕ) (h : History S) (x : Event S) → IsLegal h → chosen c h.events ≡ Some x
      → IsInRange h.sizes x
  unfolding chosen waiting
  chosen-in_range c h x legal is =
      All-find (IsInRange h.sizes) (is_least (waiting c h.events)) (waiting c h.events) x is
      (All-in_range h (λ e later. waits_on c e && is_untouched c e later) legal)

  -- a place that waits is a place of the monitor
  pub wait_by-in_range : (c w : ℕ) (h : History S) (x : Event S) → IsLegal h → wait_by w c h.events ≡ Some x
      → w < h.sizes.places
  unfolding wait_by waiting
  wait_by-in_range c w h x legal is =
      let found = All-find (IsInRange h.sizes) (λ e. place_of e == w) (waiting c h.events) x is
      (All-in_range h (λ e later. waits_on c e && is_untouched c e later) legal) in
      subst (λ (i : ℕ). i < h.sizes.places)
      (eqb-true (place_of x) w (find-passes (λ e. place_of e == w) (waiting c h.events) x is)) found.0

  -- no waiter has a smaller priority than the chosen one
  pub chosen-least : (c : ℕ) (h : List (Event S)) (x : Event S) → chosen c h ≡ Some x → is_least (waiting c h) x ≡ true
  unfolding chosen
  chosen-least c h x is = find-passes (is_least (waiting c h)) (waiting c h) x is

  -- a wait on c has c for its condition
  pub condition-waits_on : (c : ℕ) (x : Event S) → waits_on c x ≡ true → condition_of x ≡ c
  condition-waits_on c x on = ap condition_of (waits_on-is c x on)

  -- each wait of a waiter on c is in range in a legal history
  pub waiting-in_range : (c : ℕ) (h : History S) → IsLegal h → All (IsInRange h.sizes) (waiting c h.events)
  unfolding waiting
  waiting-in_range c h legal = All-in_range h (λ e later. waits_on c e && is_untouched c e later) legal

  both_wait : (c d : ℕ) (x : Event S) → waits_on c x ≡ true → waits_on d x ≡ true → d ≡ c
  both_wait c d x a b = sym (condition-waits_on d x b) ∙ condition-waits_on c x a

  -- a place waits on one condition
  pub waits_once : (c d : ℕ) (h : List (Event S)) (x y : Event S) → Waits c h x → Waits d h y → place_of x ≡ place_of y
      → d ≡ c
  waits_once c d h x y a b same =
      let one : x ≡ y = let e : Some x ≡ Some y = sym a.last ∙ ap (λ k. newest (own k h)) same ∙ b.last in cc in
      both_wait c d y (ap (waits_on c) (sym one) ∙ a.on) b.on

  -- a process that waits on c waits on no other condition
  pub waiting-elsewhere : (c d : ℕ) (h : List (Event S)) (x : Event S) → d ≢ c → Waits c h x
      → list_all (λ y. not (place_of x == place_of y)) (waiting d h) ≡ true
  waiting-elsewhere c d h x apart a = list_all-from_All (λ y. not (place_of x == place_of y)) (waiting d h)
      (All-weaker (Waits d h) (λ y. not (place_of x == place_of y) ≡ true)
      (λ y b. ap not (ne_eqb (place_of x) (place_of y) (λ same. apart (waits_once c d h x y a b same))))
      (waiting d h) (All-waiting d h))

  -- no place waits twice on a condition
  pub waiting-once : (c w : ℕ) (h : List (Event S)) → length (filter (λ x. w == place_of x) (waiting c h)) ≤ 1
  unfolding waiting
  waiting-once c w [] = omega arith
  waiting-once c w (x ∷ h) = by (waits_on c x && is_untouched c x h) refl (waiting-once c w h)
    where
      own_apart : is_untouched c x h ≡ true → list_all (λ y. not (place_of x == place_of y)) (waiting c h) ≡ true
      own_apart a = list_all-from_All (λ y. not (place_of x == place_of y)) (waiting c h)
          (All-filter_by_later (λ y. not (place_of x == place_of y) ≡ true)
          (λ e later. waits_on c e && is_untouched c e later) h
          (λ f y later is t. ap not (eq_swap (place_of x) (place_of y) ∙ own_is_concerned y c (place_of x)
          (list_all-at (λ z. not (concerns c (place_of x) z)) f y later
          (ap (list_all (λ z. not (concerns c (place_of x) z))) (sym is) ∙ a)))))

      first_of : (t : Bool) → (w == place_of x) ≡ t → is_untouched c x h ≡ true
          → length (filter (λ y. w == place_of y) (waiting c h)) ≤ 1
          → length (cond t (x ∷ filter (λ y. w == place_of y) (waiting c h))
          (filter (λ y. w == place_of y) (waiting c h))) ≤ 1
      first_of true is a rest =
          let none : filter (λ y. w == place_of y) (waiting c h) ≡ [] = filter-none (λ y. w == place_of y) (waiting c h)
          (ap (λ i. list_all (λ y. not (i == place_of y)) (waiting c h)) (eqb-true w (place_of x) is) ∙ own_apart a) in
          rw none (omega arith)
      first_of false is a rest = rest

      by : (t : Bool) → (waits_on c x && is_untouched c x h) ≡ t
          → length (filter (λ y. w == place_of y) (waiting c h)) ≤ 1
          → length (filter (λ y. w == place_of y) (cond t (x ∷ waiting c h) (waiting c h))) ≤ 1
      by true is rest = first_of (w == place_of x) refl (both_true _ _ is).1 rest
      by false is rest = rest
