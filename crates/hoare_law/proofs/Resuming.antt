-- Notified processes resume in turn: which of them resume while one is still notified, and how often the monitor is
-- released.
use Rattle.std.proofs.Common.{◌≡◌, ◌≢◌, ◌==◌, ◌+◌, ◌≤◌, ◌⊎◌, inl, inr, not, ℕ, suc, List, [], ◌∷◌, ◌++◌, length}
use Rattle.std.proofs.Common.{map, Bool, true, false, cond, leb, Some, refl, ap, sym, ◌∙◌, subst, arith, eq-eqb}
use Rattle.std.proofs.Common.{eqb-true}
use Rattle.std.proofs.Common.{ne_eqb, true≢false, append_assoc, length-append}
use Rattle.std.specs.Prelude.{All, ◌↔◌}
use Rattle.std.specs.List.{filter, list_all}
use Rattle.std.proofs.lemmas.Bool.{not-true}
use Rattle.std.proofs.lemmas.Bool.Decides.{nat_tests}
use Rattle.std.proofs.lemmas.List.{append-nil, length-map}
use Rattle.std.proofs.lemmas.List.Elements.{All-nil, All-cons, All-head, All-tail, All-weaker, filter-append}
use Rattle.hoare_law.specs.declared.event.Event.{Event}
use Rattle.hoare_law.specs.declared.event.History.{History}
use Rattle.hoare_law.specs.declared.event.Sizes.{Sizes}
use Rattle.hoare_law.specs.declared.event.Event.TheVariants.{Admit, Wait, Signal, Pass, Leave, Resume, Back, Notify}
use Rattle.hoare_law.specs.declared.event.Event.TheVariants.{Broadcast, SignalTo}
use Rattle.hoare_law.specs.declared.turn.Turn.TheVariants.{Held, Owed}
use Rattle.hoare_law.specs.Events.{place_of, own, newest, cut_to, with_event}
use Rattle.hoare_law.specs.Waiting.{priority_of, condition_of, waits_on, waiting, is_least, chosen, wait_by}
use Rattle.hoare_law.specs.Priorities.{in_order}
use Rattle.hoare_law.specs.Called.{called, called_by}
use Rattle.hoare_law.specs.Turns.{After, stays, frees, hands, after, is_signal, urgent, turn, turn_of, turn_given_up}
use Rattle.hoare_law.specs.Admissions.{is_admit, admissions}
use Rattle.hoare_law.specs.Legal.{Allowed, IsLegal}
use Rattle.hoare_law.specs.Overtaking.{is_release, releases, is_back, returned, signals, resumes_called, resumed_called}
use Rattle.hoare_law.proofs.Tests.{both_true, eq_swap, list_all-filter}
use Rattle.hoare_law.proofs.Filters.{HasLast, nothing, pushed, has_last, filter-all, filter-none, filter-filter}
use Rattle.hoare_law.proofs.Filters.{list_all-filter_none, list_all-from_All, list_all-at, All-at, All-find}
use Rattle.hoare_law.proofs.Sorted.{in_order-filter, length-in_order}
use Rattle.hoare_law.proofs.Called.{called-push}
use Rattle.hoare_law.proofs.Turns.{turn-push}
use Rattle.hoare_law.proofs.Held.{is_free, EndsHanding, IsOwed, handed, next_called, Hand, by_pass, by_signal}
use Rattle.hoare_law.proofs.Held.{by_signal_to, handing}
use Rattle.hoare_law.proofs.Held.{turn-owed, called-free, own-held}
use Rattle.hoare_law.proofs.Waiters.{own-return, waiting-once}
use Rattle.hoare_law.proofs.Fronts.{IsHanded, owed-handed, own-owed}
use Rattle.hoare_law.proofs.Owed.{IsCalled, All-called, one_kind, handed-hoare, called-mesa}
use Rattle.hoare_law.proofs.Calling.{called-call}
use Rattle.hoare_law.proofs.Signallers.{given_up, given_up-push, given_up-held, given_up-one, given_up-none}
use Rattle.hoare_law.proofs.Signallers.{UrgentStep, comes_back, all_stay, stay_by, urgent-apart, handing_keeps}
use Rattle.hoare_law.proofs.Signallers.{in_no_signal}
use Rattle.hoare_law.proofs.Signallers.{own_other, legal_upto, give_up_same, back_step}
use Rattle.hoare_law.proofs.PassedOver.{one_if, counted_more}

-- a test of all elements, read as a fact of all
pub All-from_list_all : {X : Type 0} (p : X → Bool) (xs : List X) → list_all p xs ≡ true → All (λ x. p x ≡ true) xs
All-from_list_all p [] a = All-nil (λ x. p x ≡ true)
All-from_list_all p (x ∷ xs) a =
    let b : (p x ≡ true) × (list_all p xs ≡ true) = both_true _ _ a in
    All-cons (λ y. p y ≡ true) x xs b.0 (All-from_list_all p xs b.1)

pub length-filter_le : {X : Type 0} (p : X → Bool) (xs : List X) → length (filter p xs) ≤ length xs
length-filter_le p [] = omega arith
length-filter_le p (x ∷ xs) = by (p x) (length-filter_le p xs)
  where
    by : (t : Bool) → length (filter p xs) ≤ length xs
        → length (cond t (x ∷ filter p xs) (filter p xs)) ≤ suc (length xs)
    by true le = omega arith
    by false le = omega arith

pub no_elements : {X : Type 0} (xs : List X) → length xs ≡ 0 → xs ≡ []
no_elements [] none = refl
no_elements (x ∷ xs) none = absurd (omega arith)

none_often : (S : Type 0) (w : ℕ) → length (filter (λ x. w == place_of x) (called {S = S} [])) ≤ 1
unfolding called
none_often S w = omega arith

module _ {S : Type 0} where
  -- how often a list has place w
  abbrev often : ℕ → List (Event S) → ℕ
  often w xs = length (filter (λ x. w == place_of x) xs)

  often_apart : (w : ℕ) (xs : List (Event S)) → list_all (λ x. not (w == place_of x)) xs ≡ true → often w xs ≡ 0
  often_apart w xs apart = ap length (filter-none (λ x. w == place_of x) xs apart)

  -- a place that was notified waits nowhere
  called_or_waits : (f : History S) (w c : ℕ) (xs : List (Event S)) → All (IsCalled f) xs
      → (often w xs ≡ 0) ⊎ (often w (waiting c f.events) ≡ 0)
  called_or_waits f w c [] all = inl refl
  called_or_waits f w c (x ∷ xs) all =
      by (w == place_of x) refl (called_or_waits f w c xs (All-tail (IsCalled f) x xs all))
    where
      here : w ≡ place_of x → often w (waiting c f.events) ≡ 0
      here same = often_apart w (waiting c f.events)
          (ap (λ j. list_all (λ y. not (j == place_of y)) (waiting c f.events)) same
          ∙ (All-head (IsCalled f) x xs all).apart c)

      by : (t : Bool) → (w == place_of x) ≡ t → (often w xs ≡ 0) ⊎ (often w (waiting c f.events) ≡ 0)
          → (length (cond t (x ∷ filter (λ y. w == place_of y) xs) (filter (λ y. w == place_of y) xs)) ≡ 0)
          ⊎ (often w (waiting c f.events) ≡ 0)
      by true is rest = inr (here (eqb-true w (place_of x) is))
      by false is rest = rest

  often_called_by : (f : History S) (e : Event S) (w : ℕ) → (often w (called f.events) ≤ 1)
      → All (IsCalled f) (called f.events)
      → often w (called f.events) + often w (called_by f.events e) ≤ 1
  often_called_by f (Notify k c v s) w few all =
      by (called_or_waits f w c (called f.events) all)
    where
      named : often w (filter (λ x. place_of x == v) (waiting c f.events)) ≤ often w (waiting c f.events)
      named =
          let swap = ap length (filter-filter (λ x. w == place_of x) (λ x. place_of x == v) (waiting c f.events)) in
          let less = length-filter_le (λ x. place_of x == v) (filter (λ x. w == place_of x) (waiting c f.events)) in
          omega (arith, swap, less)

      by : (often w (called f.events) ≡ 0) ⊎ (often w (waiting c f.events) ≡ 0)
          → often w (called f.events) + often w (filter (λ x. place_of x == v) (waiting c f.events)) ≤ 1
      by (inl none) = omega (arith, none, named, waiting-once c w f.events)
      by (inr none) = omega (arith, none, named, few)
  often_called_by f (Broadcast k c s) w few all = by (called_or_waits f w c (called f.events) all)
    where
      many : often w (in_order priority_of (waiting c f.events)) ≡ often w (waiting c f.events)
      many =
          ap length (sym (in_order-filter priority_of (λ x. w == place_of x) (waiting c f.events)))
          ∙ length-in_order priority_of (filter (λ x. w == place_of x) (waiting c f.events))

      by : (often w (called f.events) ≡ 0) ⊎ (often w (waiting c f.events) ≡ 0)
          → often w (called f.events) + often w (in_order priority_of (waiting c f.events)) ≤ 1
      by (inl none) = omega (arith, none, many, waiting-once c w f.events)
      by (inr none) = omega (arith, none, many, few)
  often_called_by f (Admit k s) w few all = omega (arith, few)
  often_called_by f (Wait k c p s) w few all = omega (arith, few)
  often_called_by f (Signal k c v s) w few all = omega (arith, few)
  often_called_by f (SignalTo k c v s) w few all = omega (arith, few)
  often_called_by f (Pass k c v s) w few all = omega (arith, few)
  often_called_by f (Leave k s) w few all = omega (arith, few)
  often_called_by f (Resume k c s) w few all = omega (arith, few)
  often_called_by f (Back k s) w few all = omega (arith, few)

  often_step : (f : History S) (e : Event S) (w : ℕ) → IsLegal f → often w (called f.events) ≤ 1
      → often w (called (f.events ++ e ∷ [])) ≤ 1
  often_step f e w legal few =
      let kept : List (Event S) = filter (λ x. not (place_of e == place_of x)) (called f.events) in
      let is : often w (called (f.events ++ e ∷ [])) ≡ often w kept + often w (called_by f.events e) =
      ap (often w) (called-push f.events e)
      ∙ ap length (filter-append (λ x. w == place_of x) kept (called_by f.events e))
      ∙ length-append (filter (λ x. w == place_of x) kept) (filter (λ x. w == place_of x) (called_by f.events e)) in
      let swap = ap length
      (filter-filter (λ x. w == place_of x) (λ x. not (place_of e == place_of x)) (called f.events)) in
      let less = length-filter_le (λ x. not (place_of e == place_of x))
      (filter (λ x. w == place_of x) (called f.events)) in
      omega (arith, is, swap, less, often_called_by f e w few (All-called f legal))

  often_steps : (h : History S) (f later : List (Event S)) (w : ℕ) → IsLegal h → h.events ≡ f ++ later
      → often w (called f) ≤ 1 → often w (called h.events) ≤ 1
  often_steps h f [] w legal at few =
      subst (λ (l : List (Event S)). often w (called l) ≤ 1) (sym (at ∙ append-nil f)) few
  often_steps h f (e ∷ later) w legal at few =
      often_steps h (f ++ e ∷ []) later w legal (at ∙ sym (append_assoc f (e ∷ []) later))
      (often_step (cut_to h f) e w (legal_upto h f (e ∷ later) at legal) few)

  -- no place is notified twice
  pub called-once : (h : History S) (w : ℕ) → IsLegal h → often w (called h.events) ≤ 1
  called-once h w legal = often_steps h [] h.events w legal refl (none_often S w)

  -- so the processes after the first have other places
  called_behind : (h : History S) (x : Event S) (xs : List (Event S)) → IsLegal h → called h.events ≡ x ∷ xs
      → list_all (λ y. not (place_of x == place_of y)) xs ≡ true
  called_behind h x xs legal is =
      let split : often (place_of x) (x ∷ xs) ≡ suc (often (place_of x) xs) =
      ap (λ b. length (cond b (x ∷ filter (λ y. place_of x == place_of y) xs)
      (filter (λ y. place_of x == place_of y) xs))) (eq-eqb (place_of x) (place_of x) refl) in
      let few : often (place_of x) (x ∷ xs) ≤ 1 =
      subst (λ (l : List (Event S)). often (place_of x) l ≤ 1) is (called-once h (place_of x) legal) in
      list_all-filter_none (λ y. place_of x == place_of y) xs (no_elements _ (omega (arith, split, few)))

  -- what one event does while a process is notified
  pub record CalledStep (n : Sizes) (f : List (Event S)) (e : Event S) : Type 0 where
    pub up : given_up f ≡ one_if (is_back e) + one_if (resumes_called n e)
    pub signallers : length (urgent (f ++ e ∷ [])) + one_if (is_back e) ≡ length (urgent f) + one_if (is_signal e)
    pub nobody : is_admit e ≡ false

  -- the first resumes, or all stay and some may join them
  pub data CalledMove (n : Sizes) (f : List (Event S)) (e : Event S) : Type 0 where
    first_goes : (x : Event S) → resumes_called n e ≡ true → place_of x ≡ place_of e
        → called f ≡ x ∷ called (f ++ e ∷ [])
        → CalledMove n f e
    all_wait : (added : List (Event S)) → resumes_called n e ≡ false → called (f ++ e ∷ []) ≡ called f ++ added
        → CalledMove n f e

  length-stay : (f : List (Event S)) (e : Event S)
      → urgent (f ++ e ∷ []) ≡ urgent f ++ cond (is_signal e) (place_of e ∷ []) []
      → length (urgent (f ++ e ∷ [])) ≡ length (urgent f) + one_if (is_signal e)
  length-stay f e is =
      ap length is ∙ length-append (urgent f) (cond (is_signal e) (place_of e ∷ []) []) ∙ by (is_signal e)
    where
      by : (b : Bool) → length (urgent f) + length (cond b (place_of e ∷ []) []) ≡ length (urgent f) + one_if b
      by true = refl
      by false = refl

  inside_event : (n : Sizes) (f : History S) (e : Event S) → IsLegal f → turn f.events ≡ Held (place_of e)
      → is_back e ≡ false → resumes_called n e ≡ false → is_admit e ≡ false
      → CalledStep n f.events e × CalledMove n f.events e
  unfolding with_event
  inside_event n f e legal held back goes admit =
      let r = own-held f.events (place_of e) held in
      let many = length-stay f.events e
      (stay_by f.events e (urgent-apart f.events (place_of e) r.0 r.1 (in_no_signal r.0 r.2))) in
      let no_back : one_if (is_back e) ≡ 0 = ap one_if back in
      let no_go : one_if (resumes_called n e) ≡ 0 = ap one_if goes in
      let shut = given_up-held f.events (place_of e) held in (
        record { up = omega (arith, shut, no_back, no_go); signallers = omega (arith, many, no_back); nobody = admit },
        all_wait (called_by f.events e) goes (called-call f e legal held),
      )

  -- an event that notifies no process, of a place that isn't notified, leaves the notified processes as they are
  stays_called : (f : List (Event S)) (e : Event S) → called_by f e ≡ []
      → list_all (λ x. not (place_of e == place_of x)) (called f) ≡ true
      → called (f ++ e ∷ []) ≡ called f ++ []
  stays_called f e nobody apart =
      called-push f e ∙ ap (λ l. l ++ called_by f e) (filter-all _ (called f) apart) ∙ ap (λ l. called f ++ l) nobody

  -- a place whose last event is no wait isn't notified
  called-apart : (f : History S) (k : ℕ) (x : Event S) → IsLegal f → newest (own k f.events) ≡ Some x
      → ((c : ℕ) → waits_on c x ≡ false) → list_all (λ y. not (k == place_of y)) (called f.events) ≡ true
  called-apart f k x legal last no_wait = list_all-from_All (λ y. not (k == place_of y)) (called f.events)
      (All-weaker (IsCalled f) (λ y. not (k == place_of y) ≡ true) other (called f.events) (All-called f legal))
    where
      other : (y : Event S) → IsCalled f y → not (k == place_of y) ≡ true
      other y was = ap not (ne_eqb k (place_of y) (λ same.
          let both : Some x ≡ Some y = sym last ∙ ap (λ j. newest (own j f.events)) same ∙ was.last in
          let one : y ≡ x = cc in
          true≢false (sym was.waits ∙ ap (waits_on (condition_of y)) one ∙ no_wait (condition_of y))))

  pub signal_waits_not : (x : Event S) (c : ℕ) → is_signal x ≡ true → waits_on c x ≡ false
  signal_waits_not (Signal k d w s) c is = refl
  signal_waits_not (SignalTo k d w s) c is = refl
  signal_waits_not (Admit k s) c is = absurd (cc)
  signal_waits_not (Wait k d p s) c is = absurd (cc)
  signal_waits_not (Pass k d w s) c is = absurd (cc)
  signal_waits_not (Leave k s) c is = absurd (cc)
  signal_waits_not (Resume k d s) c is = absurd (cc)
  signal_waits_not (Back k s) c is = absurd (cc)
  signal_waits_not (Notify k d w s) c is = absurd (cc)
  signal_waits_not (Broadcast k d s) c is = absurd (cc)

  back_event : (n : Sizes) (f : History S) (k : ℕ) (s : S) → IsLegal f → Allowed f (Back k s)
      → CalledStep n f.events (Back k s) × CalledMove n f.events (Back k s)
  back_event n f k s legal may =
      let r = own-return f.events k may.fits.0 in (
        counts (back_step f.events k s may.fits.0),
        all_wait [] refl
            (stays_called f.events (Back k s) refl
            (called-apart f k r.0 legal r.1 (λ c. signal_waits_not r.0 c r.2))),
      )
    where
      counts : UrgentStep f.events (Back k s) → CalledStep n f.events (Back k s)
      counts (comes_back back kept admit up first) =
          let many = ap length first in record { up = up; signallers = omega (arith, many); nobody = refl }
      counts (all_stay back admit up stay) = absurd (cc)

  -- signals and passes notify no process
  handing_calls : (out : Hand) (h : List (Event S)) (k c w : ℕ) (s : S) → called_by h (handing out k c w s) ≡ []
  handing_calls by_pass h k c w s = refl
  handing_calls by_signal h k c w s = refl
  handing_calls by_signal_to h k c w s = refl

  pub chosen_among : (c : ℕ) (h : List (Event S)) (x : Event S) (p : Event S → Bool) → chosen c h ≡ Some x
      → list_all p (waiting c h) ≡ true → p x ≡ true
  unfolding chosen
  chosen_among c h x p is all =
      All-find (λ y. p y ≡ true) (is_least (waiting c h)) (waiting c h) x is (All-from_list_all p (waiting c h) all)

  pub waiting_among : (c w : ℕ) (h : List (Event S)) (x : Event S) (p : Event S → Bool) → wait_by w c h ≡ Some x
      → list_all p (waiting c h) ≡ true → p x ≡ true
  unfolding wait_by
  waiting_among c w h x p is all =
      All-find (λ y. p y ≡ true) (λ e. place_of e == w) (waiting c h) x is (All-from_list_all p (waiting c h) all)

  handed_apart : (f : History S) (k c : ℕ) → IsLegal f → EndsHanding k c f.events
      → list_all (λ y. not (k == place_of y)) (called f.events) ≡ true
  handed_apart f k c legal r =
      let x : (x : Event S) × IsHanded f.events k c x = owed-handed f k c legal r in
      let l = x.1.hand in
      let hand : Event S = handing l.out l.by c k l.left in
      let kept : called f.events ≡ filter (λ y. not (place_of hand == place_of y)) (called l.before) =
      ap called l.ends ∙ called-push l.before hand
      ∙ ap (λ ys. filter (λ y. not (place_of hand == place_of y)) (called l.before) ++ ys)
      (handing_calls l.out l.before l.by c k l.left)
      ∙ append-nil _ in
      ap (list_all (λ y. not (k == place_of y))) kept
      ∙ list_all-filter (λ y. not (k == place_of y)) (λ y. not (place_of hand == place_of y)) (called l.before)
      (list_all-from_All (λ y. not (k == place_of y)) (called l.before)
      (All-weaker (IsCalled (cut_to f l.before)) (λ y. not (k == place_of y) ≡ true) (other x.0 x.1) (called l.before)
      (All-called (cut_to f l.before) (legal_upto f l.before (hand ∷ []) l.ends legal))))
    where
      other : (x : Event S) (r : IsHanded f.events k c x) (y : Event S) → IsCalled (cut_to f r.hand.before) y
          → not (k == place_of y) ≡ true
      other x r y was =
          let apart : not (place_of y == place_of x) ≡ true =
          waiting_among c k r.hand.before x (λ z. not (place_of y == place_of z)) r.waited (was.apart c) in
          ap not (eq_swap k (place_of y) ∙ ap (λ j. place_of y == j) (sym (ap place_of r.is))) ∙ apart

  resumed_event : (f : History S) (k c : ℕ) (s : S) → IsLegal f → Allowed f (Resume k c s)
      → CalledStep f.sizes f.events (Resume k c s) × CalledMove f.sizes f.events (Resume k c s)
  resumed_event f k c s legal may = by (turn-owed f.events k c may.fits.0)
    where
      w : (p : ℕ) × (t : S) × (newest (own k f.events) ≡ Some (Wait k c p t))
      w = own-owed f k c legal may.fits.0

      many : length (urgent (f.events ++ Resume k c s ∷ [])) ≡ length (urgent f.events) + 0
      many = length-stay f.events (Resume k c s)
          (stay_by f.events (Resume k c s) (urgent-apart f.events k (Wait k c w.0 w.1) w.2 refl))

      by : IsOwed k c f.events → CalledStep f.sizes f.events (Resume k c s) × CalledMove f.sizes f.events (Resume k c s)
      by (handed r) =
          let hoare = handed-hoare f k c legal r in
          let no_go : leb f.sizes.conditions (c + f.sizes.mesa) ≡ false = grind (arith, nat_tests) in
          let none : one_if (leb f.sizes.conditions (c + f.sizes.mesa)) ≡ 0 = ap one_if no_go in
          let shut : given_up f.events ≡ 0 =
          ap given_up r.ends ∙ given_up-push r.before (handing r.out r.by c k r.left)
          ∙ ap one_if (handing_keeps r.out r.by c k r.left) in (
            record { up = omega (arith, shut, none); signallers = omega (arith, many); nobody = refl },
            all_wait [] no_go (stays_called f.events (Resume k c s) refl (handed_apart f k c legal r)),
          )
      by (next_called r) =
          let mesa = called-mesa f k c legal r in
          let go : leb f.sizes.conditions (c + f.sizes.mesa) ≡ true = let b = mesa.1 in grind (arith, nat_tests) in
          let one : one_if (leb f.sizes.conditions (c + f.sizes.mesa)) ≡ 1 = ap one_if go in
          let open_now : given_up f.events ≡ 1 =
          ap given_up r.ends.1 ∙ given_up-push r.ends.0 r.by ∙ ap one_if (give_up_same r.by ∙ r.gives) in
          let gone : called (f.events ++ Resume k c s ∷ []) ≡ r.others =
          called-push f.events (Resume k c s) ∙ append-nil _
          ∙ ap (filter (λ x. not (k == place_of x))) r.are
          ∙ ap (λ b. cond (not b) (r.first ∷ filter (λ x. not (k == place_of x)) r.others)
          (filter (λ x. not (k == place_of x)) r.others)) (eq-eqb k (place_of r.first) (sym r.place))
          ∙ filter-all (λ x. not (k == place_of x)) r.others
          (ap (λ j. list_all (λ x. not (j == place_of x)) r.others) (sym r.place)
          ∙ called_behind f r.first r.others legal r.are) in (
            record { up = omega (arith, open_now, one); signallers = omega (arith, many); nobody = refl },
            first_goes r.first go r.place (r.are ∙ ap (λ l. r.first ∷ l) (sym gone)),
          )

  pub called_step : (f : History S) (e : Event S) → IsLegal f → Allowed f e → called f.events ≢ []
      → CalledStep f.sizes f.events e × CalledMove f.sizes f.events e
  called_step f (Back k s) legal may some = back_event f.sizes f k s legal may
  called_step f (Admit k s) legal may some = absurd (some (called-free f.events may.fits.0))
  called_step f (Resume k c s) legal may some = resumed_event f k c s legal may
  called_step f (Wait k c p s) legal may some = inside_event f.sizes f (Wait k c p s) legal may.fits refl refl refl
  called_step f (Leave k s) legal may some = inside_event f.sizes f (Leave k s) legal may.fits refl refl refl
  called_step f (Signal k c w s) legal may some =
      inside_event f.sizes f (Signal k c w s) legal may.fits.0 refl refl refl
  called_step f (SignalTo k c w s) legal may some =
      inside_event f.sizes f (SignalTo k c w s) legal may.fits.0 refl refl refl
  called_step f (Pass k c w s) legal may some = inside_event f.sizes f (Pass k c w s) legal may.fits.0 refl refl refl
  called_step f (Notify k c w s) legal may some =
      inside_event f.sizes f (Notify k c w s) legal may.fits.0 refl refl refl
  called_step f (Broadcast k c s) legal may some =
      inside_event f.sizes f (Broadcast k c s) legal may.fits.0 refl refl refl

  pub give_ups_more : (e : Event S) (later : List (Event S))
      → releases (e ∷ later) ≡ one_if (is_release e) + releases later
  unfolding releases
  give_ups_more e later = counted_more is_release e later

  signals_more : (e : Event S) (later : List (Event S)) → signals (e ∷ later) ≡ one_if (is_signal e) + signals later
  unfolding signals
  signals_more e later = counted_more is_signal e later

  pub admissions_more : (e : Event S) (later : List (Event S))
      → admissions (e ∷ later) ≡ one_if (is_admit e) + admissions later
  unfolding admissions
  admissions_more e later = counted_more is_admit e later

  pub returned_more : (e : Event S) (later : List (Event S))
      → length (returned (e ∷ later)) ≡ one_if (is_back e) + length (returned later)
  unfolding returned
  returned_more e later =
      length-map (filter is_back (e ∷ later)) place_of ∙ counted_more is_back e later
      ∙ ap (λ m. one_if (is_back e) + m) (sym (length-map (filter is_back later) place_of))

  resumed_called_more : (n : Sizes) (e : Event S) (later : List (Event S))
      → resumed_called n (e ∷ later)
      ≡ cond (resumes_called n e) (place_of e ∷ resumed_called n later) (resumed_called n later)
  unfolding resumed_called
  resumed_called_more n e later = by (resumes_called n e)
    where
      by : (b : Bool) → map place_of (cond b (e ∷ filter (resumes_called n) later) (filter (resumes_called n) later))
          ≡ cond b (place_of e ∷ map place_of (filter (resumes_called n) later))
          (map place_of (filter (resumes_called n) later))
      by true = refl
      by false = refl

  -- while x, after us, doesn't resume: the first of us resume in turn, and after each release a signaller returns or
  -- one of them resumes
  pub record CalledMeanwhile (n : Sizes) (f later us : List (Event S)) (x : Event S)
      (vs : List (Event S)) : Type 0 where
    pub left : List (Event S)
    pub more : List (Event S)
    pub came : map place_of us ≡ resumed_called n later ++ map place_of left
    pub now : called (f ++ later) ≡ left ++ x ∷ (vs ++ more)
    pub times : releases later + given_up f
        ≡ length (returned later) + length (resumed_called n later) + given_up (f ++ later)
    pub signallers : length (urgent (f ++ later)) + length (returned later) ≡ length (urgent f) + signals later
    pub nobody : admissions later ≡ 0

  called_none : (n : Sizes) (f us : List (Event S)) (x : Event S) (vs : List (Event S)) → called f ≡ us ++ x ∷ vs
      → CalledMeanwhile n f [] us x vs
  unfolding releases returned resumed_called signals admissions
  called_none n f us x vs is = record {
    left = us;
    more = [];
    came = refl;
    now = ap called (append-nil f) ∙ is ∙ ap (λ l. us ++ x ∷ l) (sym (append-nil vs));
    times = let same : given_up (f ++ []) ≡ given_up f = ap given_up (append-nil f) in omega (arith, same);
    signallers = let same : length (urgent (f ++ [])) ≡ length (urgent f) =
        ap (λ l. length (urgent l)) (append-nil f) in
        omega (arith, same);
    nobody = refl;
  }

  resumed_called-length : (n : Sizes) (e : Event S) (later : List (Event S))
      → length (resumed_called n (e ∷ later)) ≡ one_if (resumes_called n e) + length (resumed_called n later)
  resumed_called-length n e later = ap length (resumed_called_more n e later) ∙ by (resumes_called n e)
    where
      by : (b : Bool) → length (cond b (place_of e ∷ resumed_called n later) (resumed_called n later))
          ≡ one_if b + length (resumed_called n later)
      by true = omega arith
      by false = omega arith

  -- one more event, of which it is known which processes it leaves before x and after x
  called_by_one : (n : Sizes) (f : List (Event S)) (e : Event S) (later us ts : List (Event S)) (x : Event S)
      (vs ws added : List (Event S)) → CalledStep n f e → ws ≡ vs ++ added
      → (r : CalledMeanwhile n (f ++ e ∷ []) later ts x ws)
      → map place_of us ≡ resumed_called n (e ∷ later) ++ map place_of r.left
      → CalledMeanwhile n f (e ∷ later) us x vs
  called_by_one n f e later us ts x vs ws added step joined r came =
      let whole : (f ++ e ∷ []) ++ later ≡ f ++ e ∷ later = append_assoc f (e ∷ []) later in
      let on_many = resumed_called-length n e later in
      let moved : given_up ((f ++ e ∷ []) ++ later) ≡ given_up (f ++ e ∷ later) = ap given_up whole in
      let moved_too : length (urgent ((f ++ e ∷ []) ++ later)) ≡ length (urgent (f ++ e ∷ later)) =
      ap (λ l. length (urgent l)) whole in
      let pushed_now : given_up (f ++ e ∷ []) ≡ one_if (is_release e) = given_up-push f e in
      let none : one_if (is_admit e) ≡ 0 = ap one_if step.nobody in
      let back = returned_more e later in
      record {
        left = r.left;
        more = added ++ r.more;
        came = came;
        now = ap called (sym whole) ∙ r.now
            ∙ ap (λ l. r.left ++ x ∷ l) (ap (λ l. l ++ r.more) joined ∙ append_assoc vs added r.more);
        times = omega (arith, give_ups_more e later, back, on_many, moved, pushed_now, r.times, step.up);
        signallers = omega (arith, back, signals_more e later, moved_too, r.signallers, step.signallers);
        nobody = omega (arith, admissions_more e later, none, r.nobody);
      }

  called_more : (n : Sizes) (f : List (Event S)) (e : Event S) (later us : List (Event S)) (x : Event S)
      (vs : List (Event S)) → called f ≡ us ++ x ∷ vs → place_of e ≢ place_of x → CalledStep n f e → CalledMove n f e
      → ((ts ws : List (Event S)) → called (f ++ e ∷ []) ≡ ts ++ x ∷ ws
      → CalledMeanwhile n (f ++ e ∷ []) later ts x ws)
      → CalledMeanwhile n f (e ∷ later) us x vs
  called_more n f e later [] x vs is other step (first_goes y goes place first) rest =
      let same : y ∷ called (f ++ e ∷ []) ≡ x ∷ vs = sym first ∙ is in
      let one : y ≡ x = cc in
      absurd (other (sym place ∙ ap place_of one))
  called_more n f e later (u ∷ us) x vs is other step (first_goes y goes place first) rest =
      let same : y ∷ called (f ++ e ∷ []) ≡ u ∷ (us ++ x ∷ vs) = sym first ∙ is in
      let head : y ≡ u = cc in
      let r = rest us vs (let tail : called (f ++ e ∷ []) ≡ us ++ x ∷ vs = cc in tail) in
      let on_now : resumed_called n (e ∷ later) ≡ place_of u ∷ resumed_called n later =
      resumed_called_more n e later
      ∙ ap (λ b. cond b (place_of e ∷ resumed_called n later) (resumed_called n later)) goes
      ∙ ap (λ j. j ∷ resumed_called n later) (sym place ∙ ap place_of head) in
      called_by_one n f e later (u ∷ us) us x vs vs [] step (sym (append-nil vs)) r
      (ap (λ l. place_of u ∷ l) r.came ∙ ap (λ l. l ++ map place_of r.left) (sym on_now))
  called_more n f e later us x vs is other step (all_wait added goes stay) rest =
      let tail : called (f ++ e ∷ []) ≡ us ++ x ∷ (vs ++ added) =
      stay ∙ ap (λ l. l ++ added) is ∙ append_assoc us (x ∷ vs) added in
      let r = rest us (vs ++ added) tail in
      let on_now : resumed_called n (e ∷ later) ≡ resumed_called n later =
      resumed_called_more n e later
      ∙ ap (λ b. cond b (place_of e ∷ resumed_called n later) (resumed_called n later)) goes in
      called_by_one n f e later us us x vs (vs ++ added) added step refl r
      (r.came ∙ ap (λ l. l ++ map place_of r.left) (sym on_now))

  called_some : (us : List (Event S)) (x : Event S) (vs xs : List (Event S)) → xs ≡ us ++ x ∷ vs → xs ≢ []
  called_some [] x vs xs is none = let no_one : [] ≡ x ∷ vs = sym none ∙ is in cc
  called_some (u ∷ us) x vs xs is none = let no_one : [] ≡ u ∷ (us ++ x ∷ vs) = sym none ∙ is in cc

  pub called_meanwhile : (h : History S) (f later us : List (Event S)) (x : Event S) (vs : List (Event S)) → IsLegal h
      → h.events ≡ f ++ later → called f ≡ us ++ x ∷ vs → own (place_of x) later ≡ []
      → CalledMeanwhile h.sizes f later us x vs
  called_meanwhile h f [] us x vs legal at is none = called_none h.sizes f us x vs is
  called_meanwhile h f (e ∷ later) us x vs legal at is none =
      let apart = own_other (place_of x) e later none in
      let step = called_step (cut_to h f) e (legal_upto h f (e ∷ later) at legal) (legal.each f later e at)
      (called_some us x vs (called f) is) in
      called_more h.sizes f e later us x vs is apart.0 step.0 step.1
      (λ ts ws now. called_meanwhile h (f ++ e ∷ []) later ts x ws legal (at ∙ sym (append_assoc f (e ∷ []) later)) now
      apart.1)

  -- after a release without waiting signallers, the monitor is owed to the first notified process
  owed_to_first : (h : List (Event S)) (x : Event S) (xs : List (Event S)) → given_up h ≡ 1 → urgent h ≡ []
      → called h ≡ x ∷ xs → turn h ≡ Owed (place_of x) (condition_of x)
  owed_to_first h x xs up nobody first = by (has_last h)
    where
      turn_freed : (a : After) (j : ℕ) (us : List ℕ) (ws : List (Event S)) → is_free a ≡ true → us ≡ [] → ws ≡ x ∷ xs
          → turn_of a j us ws ≡ Owed (place_of x) (condition_of x)
      turn_freed frees j us ws free none is = ap (λ l. turn_given_up l ws) none ∙ ap (turn_given_up []) is
      turn_freed stays j us ws free none is = absurd (cc)
      turn_freed (hands w c) j us ws free none is = absurd (cc)

      by_end : (g : List (Event S)) (e : Event S) (b : Bool) → is_release e ≡ b → h ≡ g ++ e ∷ []
          → turn h ≡ Owed (place_of x) (condition_of x)
      by_end g e true gives ends =
          ap turn ends ∙ turn-push g e
          ∙ turn_freed (after e) (place_of e) (urgent (g ++ e ∷ [])) (called (g ++ e ∷ []))
          (sym (give_up_same e) ∙ gives) (ap urgent (sym ends) ∙ nobody) (ap called (sym ends) ∙ first)
      by_end g e false keeps ends =
          let shut : given_up h ≡ 0 = ap given_up ends ∙ given_up-push g e ∙ ap one_if keeps in
          absurd (omega (arith, shut, up))

      by : HasLast h → turn h ≡ Owed (place_of x) (condition_of x)
      by (nothing none) = let shut : given_up h ≡ 0 = given_up-none h none in absurd (omega (arith, shut, up))
      by (pushed g e ends) = by_end g e (is_release e) refl ends

  -- a notified process to which the monitor is owed is the first of them
  pub first_alone : (h : History S) (x first : Event S) (others left more : List (Event S)) → IsLegal h
      → called h.events ≡ first ∷ others → place_of first ≡ place_of x → called h.events ≡ left ++ x ∷ more
      → length left ≡ 0
  first_alone h x first others [] more legal are place now = refl
  first_alone h x first others (y ∷ left) more legal are place now =
      let same : first ∷ others ≡ y ∷ (left ++ x ∷ more) = sym are ∙ now in
      let tail : others ≡ left ++ x ∷ more = cc in
      let apart : not (place_of first == place_of x) ≡ true =
      list_all-at (λ z. not (place_of first == place_of z)) left x more
      (ap (list_all (λ z. not (place_of first == place_of z))) (sym tail) ∙ called_behind h first others legal are) in
      absurd (true≢false (sym (eq-eqb (place_of first) (place_of x) place) ∙ not-true _ apart))

  none_left : (left : List (Event S)) (x : Event S) (more xs : List (Event S)) → length left ≡ 0 → xs ≡ left ++ x ∷ more
      → xs ≡ x ∷ more
  none_left [] x more xs shut is = is
  none_left (y ∷ left) x more xs shut is = absurd (omega arith)

  -- the processes before x resumed, or are left
  gone_and_left : (n : Sizes) (f later us : List (Event S)) (x : Event S) (vs : List (Event S))
      → (r : CalledMeanwhile n f later us x vs)
      → length us ≡ length (resumed_called n later) + length r.left
  gone_and_left n f later us x vs r =
      sym (length-map us place_of) ∙ ap length r.came
      ∙ length-append (resumed_called n later) (map place_of r.left)
      ∙ ap (λ m. length (resumed_called n later) + m) (length-map r.left place_of)

  -- it is the turn of x exactly when there was one release more than there were notified processes before it, waiting
  -- signallers, and signals since
  pub called_bound : (h : History S) (f later us : List (Event S)) (x : Event S) (vs : List (Event S)) → IsLegal h
      → h.events ≡ f ++ later → given_up f ≡ 0 → called f ≡ us ++ x ∷ vs → own (place_of x) later ≡ []
      → turn h.events ≡ Owed (place_of x) (condition_of x)
      ↔ (releases later ≡ length us + length (urgent f) + signals later + 1)
  called_bound h f later us x vs legal at kept is none =
      let r = called_meanwhile h f later us x vs legal at is none in
      let m = gone_and_left h.sizes f later us x vs r in
      (now_its r m, then_its r m)
    where
      called_now : (r : CalledMeanwhile h.sizes f later us x vs) → called h.events ≡ r.left ++ x ∷ (vs ++ r.more)
      called_now r = ap called at ∙ r.now

      is_called : (r : CalledMeanwhile h.sizes f later us x vs) → IsCalled h x
      is_called r =
          All-at (IsCalled h) r.left x (vs ++ r.more) (subst (All (IsCalled h)) (called_now r) (All-called h legal))

      now_its : (r : CalledMeanwhile h.sizes f later us x vs)
          → length us ≡ length (resumed_called h.sizes later) + length r.left
          → turn h.events ≡ Owed (place_of x) (condition_of x)
          → releases later ≡ length us + length (urgent f) + signals later + 1
      now_its r m owed = by (turn-owed h.events (place_of x) (condition_of x) owed)
        where
          by : IsOwed (place_of x) (condition_of x) h.events
              → releases later ≡ length us + length (urgent f) + signals later + 1
          by (handed l) =
              absurd (one_kind h.sizes.conditions h.sizes.mesa (condition_of x)
              (handed-hoare h (place_of x) (condition_of x) legal l) (is_called r).mesa)
          by (next_called l) =
              let up : given_up (f ++ later) ≡ 1 =
              ap given_up (sym at ∙ l.ends.1) ∙ given_up-push l.ends.0 l.by
              ∙ ap one_if (give_up_same l.by ∙ l.gives) in
              let nobody : length (urgent (f ++ later)) ≡ 0 =
              ap (λ ys. length (urgent ys)) (sym at) ∙ ap length l.nobody in
              let alone : length r.left ≡ 0 =
              first_alone h x l.first l.others r.left (vs ++ r.more) legal l.are l.place (called_now r) in
              omega (arith, kept, m, up, nobody, alone, r.times, r.signallers)

      then_its : (r : CalledMeanwhile h.sizes f later us x vs)
          → length us ≡ length (resumed_called h.sizes later) + length r.left
          → releases later ≡ length us + length (urgent f) + signals later + 1
          → turn h.events ≡ Owed (place_of x) (condition_of x)
      then_its r m often_up =
          let one = given_up-one (f ++ later) in
          let up : given_up (f ++ later) ≡ 1 = omega (arith, kept, m, one, often_up, r.times, r.signallers) in
          let alone : length r.left ≡ 0 = omega (arith, kept, m, up, often_up, r.times, r.signallers) in
          let nobody : length (urgent (f ++ later)) ≡ 0 = omega (arith, kept, m, up, often_up, r.times, r.signallers) in
          ap turn at
          ∙ owed_to_first (f ++ later) x (vs ++ r.more) up (no_elements (urgent (f ++ later)) nobody)
          (none_left r.left x (vs ++ r.more) (called (f ++ later)) alone r.now)

  -- at any time there are no more releases than that
  pub called_at_most : (h : History S) (f later us : List (Event S)) (x : Event S) (vs : List (Event S)) → IsLegal h
      → h.events ≡ f ++ later → called f ≡ us ++ x ∷ vs → own (place_of x) later ≡ []
      → releases later ≤ length us + length (urgent f) + signals later + 1
  called_at_most h f later us x vs legal at is none =
      let r = called_meanwhile h f later us x vs legal at is none in
      let many = gone_and_left h.sizes f later us x vs r in
      let one = given_up-one (f ++ later) in
      omega (arith, many, one, r.times, r.signallers)

  no_other : (k : ℕ) (xs : List (Event S)) → often k xs ≡ 0 → All (λ y. place_of y ≢ k) xs
  no_other k [] none = All-nil (λ y. place_of y ≢ k)
  no_other k (x ∷ xs) none = by (k == place_of x) refl none (no_other k xs)
    where
      by : (t : Bool) → (k == place_of x) ≡ t
          → length (cond t (x ∷ filter (λ y. k == place_of y) xs) (filter (λ y. k == place_of y) xs)) ≡ 0
          → (often k xs ≡ 0 → All (λ y. place_of y ≢ k) xs)
          → All (λ y. place_of y ≢ k) (x ∷ xs)
      by true is n rest = absurd (omega arith)
      by false is n rest =
          All-cons (λ y. place_of y ≢ k) x xs
          (λ same. true≢false (sym (eq-eqb k (place_of x) (sym same)) ∙ is)) (rest n)

  -- the other notified processes are other places
  pub called-others : (h : History S) (us : List (Event S)) (x : Event S) (vs : List (Event S)) → IsLegal h
      → called h.events ≡ us ++ x ∷ vs → All (λ y. place_of y ≢ place_of x) (us ++ vs)
  called-others h us x vs legal is =
      let p : Event S → Bool = λ y. place_of x == place_of y in
      let few : often (place_of x) (us ++ x ∷ vs) ≤ 1 =
      subst (λ (l : List (Event S)). often (place_of x) l ≤ 1) is (called-once h (place_of x) legal) in
      let split = ap length (filter-append p us (x ∷ vs)) ∙ length-append (filter p us) (filter p (x ∷ vs)) in
      let here : length (filter p (x ∷ vs)) ≡ suc (length (filter p vs)) =
      ap (λ b. length (cond b (x ∷ filter p vs) (filter p vs))) (eq-eqb (place_of x) (place_of x) refl) in
      let both = ap length (filter-append p us vs) ∙ length-append (filter p us) (filter p vs) in
      no_other (place_of x) (us ++ vs) (omega (arith, few, split, here, both))
