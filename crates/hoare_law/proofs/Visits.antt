-- How many visits begin while a signaller waits.
use Rattle.std.proofs.Common.{◌≡◌, ◌≢◌, ◌==◌, ◌&&◌, ◌||◌, ◌+◌, ◌*◌, ◌<◌, ◌≤◌, not, ℕ, suc, List, [], ◌∷◌, ◌++◌}
use Rattle.std.proofs.Common.{length, Bool}
use Rattle.std.proofs.Common.{true, false, cond, Option, Some, None, refl, ap, sym, ◌∙◌, arith, eq-eqb, ne_eqb}
use Rattle.std.proofs.Common.{true≢false, append_assoc, length-append}
use Rattle.std.specs.List.{filter, list_all}
use Rattle.std.proofs.lemmas.Bool.{not-true}
use Rattle.std.proofs.lemmas.List.{append-nil}
use Rattle.hoare_law.specs.declared.event.Event.{Event}
use Rattle.hoare_law.specs.declared.event.History.{History}
use Rattle.hoare_law.specs.declared.event.Event.TheVariants.{Admit, Wait, Signal, Pass, Leave, Resume, Back, Notify}
use Rattle.hoare_law.specs.declared.event.Event.TheVariants.{Broadcast, SignalTo}
use Rattle.hoare_law.specs.declared.turn.Turn.TheVariants.{Held}
use Rattle.hoare_law.specs.Events.{place_of, own, newest, cut_to}
use Rattle.hoare_law.specs.Waiting.{condition_of, waits_on, concerns, IsWaiting}
use Rattle.hoare_law.specs.Called.{called}
use Rattle.hoare_law.specs.Turns.{is_signal, urgent, turn}
use Rattle.hoare_law.specs.Legal.{Allowed, IsLegal}
use Rattle.hoare_law.specs.Overtaking.{releases, signals, is_back, returned, begins_visit, visits}
use Rattle.hoare_law.specs.Overtaking.{is_notification, notifications, is_wait, waiting_anywhere}
use Rattle.hoare_law.proofs.Tests.{list_all-filter}
use Rattle.hoare_law.proofs.Events.{newest-push}
use Rattle.hoare_law.proofs.Filters.{HasLast, nothing, pushed, has_last}
use Rattle.hoare_law.proofs.Held.{is_inside, gives_up, IsOwed, handed, next_called, Hand, by_pass, by_signal}
use Rattle.hoare_law.proofs.Held.{by_signal_to, handing}
use Rattle.hoare_law.proofs.Held.{turn-held, turn-return, turn-owed, urgent-free}
use Rattle.hoare_law.proofs.Priorities.{Chooses-waits, waiting-wait_by}
use Rattle.hoare_law.proofs.Signallers.{some_of, legal_upto, own_other}
use Rattle.hoare_law.proofs.Signallers.{meanwhile, signalled, signal_bound, length-parts}
use Rattle.hoare_law.proofs.PassedOver.{one_if, counted_more}
use Rattle.hoare_law.proofs.Resuming.{length-filter_le, waiting_among, returned_more, called_at_most}
use Rattle.hoare_law.proofs.Room.{anywhere-push, waiting-anywhere, room_for_all}

-- a filter that not all pass keeps less
filter_less : {X : Type 0} (p : X → Bool) (xs : List X) → list_all p xs ≡ false → length (filter p xs) < length xs
filter_less p [] some = absurd (cc)
filter_less p (x ∷ xs) some = by (p x) some (filter_less p xs) (length-filter_le p xs)
  where
    by : (t : Bool) → (t && list_all p xs) ≡ false → (list_all p xs ≡ false → length (filter p xs) < length xs)
        → length (filter p xs) ≤ length xs
        → length (cond t (x ∷ filter p xs) (filter p xs)) < suc (length xs)
    by true later rest le = let less = rest later in omega (arith, less)
    by false later rest le = omega (arith, le)

either_true : (a : Bool) → (a || true) ≡ true
either_true true = refl
either_true false = refl

module _ {S : Type 0} where
  -- one more event adds at most its own wait to the waiters
  anywhere_more : (f : List (Event S)) (e : Event S)
      → length (waiting_anywhere (f ++ e ∷ [])) ≤ length (waiting_anywhere f) + one_if (is_wait e)
  anywhere_more f e =
      let p : Event S → Bool = λ x. not (concerns (condition_of x) (place_of x) e) in
      let is = ap length (anywhere-push f e)
      ∙ length-append (filter p (waiting_anywhere f)) (cond (is_wait e) (e ∷ []) []) in
      omega (arith, is, length-filter_le p (waiting_anywhere f), added (is_wait e))
    where
      added : (b : Bool) → length (cond b (e ∷ []) []) ≡ one_if b
      added true = refl
      added false = refl

  -- a wait adds a waiter
  anywhere_some : (f : List (Event S)) (e : Event S) → one_if (is_wait e) ≤ length (waiting_anywhere (f ++ e ∷ []))
  anywhere_some f e =
      let p : Event S → Bool = λ x. not (concerns (condition_of x) (place_of x) e) in
      let is = ap length (anywhere-push f e)
      ∙ length-append (filter p (waiting_anywhere f)) (cond (is_wait e) (e ∷ []) []) in
      omega (arith, is, added (is_wait e))
    where
      added : (b : Bool) → length (cond b (e ∷ []) []) ≡ one_if b
      added true = refl
      added false = refl

  -- signals and passes take a waiter
  anywhere_less : (f : List (Event S)) (e : Event S) (k c w : ℕ) → is_wait e ≡ false
      → ((b i : ℕ) → concerns b i e ≡ (k == i || w == i)) → IsWaiting c f w
      → length (waiting_anywhere (f ++ e ∷ [])) + 1 ≤ length (waiting_anywhere f)
  anywhere_less f e k c w no_wait both waits = by (list_all p (waiting_anywhere f)) refl
    where
      p : Event S → Bool
      p x = not (concerns (condition_of x) (place_of x) e)

      left : length (waiting_anywhere (f ++ e ∷ [])) ≡ length (filter p (waiting_anywhere f))
      left = ap length (anywhere-push f e
          ∙ ap (λ b. filter p (waiting_anywhere f) ++ cond b (e ∷ []) []) no_wait ∙ append-nil _)

      by : (t : Bool) → list_all p (waiting_anywhere f) ≡ t
          → length (waiting_anywhere (f ++ e ∷ [])) + 1 ≤ length (waiting_anywhere f)
      by false some = let less = filter_less p (waiting_anywhere f) some in omega (arith, left, less)
      by true all =
          let r = waiting-wait_by c w f waits in
          let passes : p r.0 ≡ true =
          waiting_among c w f r.0 p r.1
          (ap (list_all p) (waiting-anywhere c f) ∙ list_all-filter p (waits_on c) (waiting_anywhere f) all) in
          let touched : concerns (condition_of r.0) (place_of r.0) e ≡ true =
          both (condition_of r.0) (place_of r.0)
          ∙ ap (λ b. k == place_of r.0 || b) (eq-eqb w (place_of r.0) (sym r.2)) ∙ either_true (k == place_of r.0) in
          absurd (true≢false (sym touched ∙ not-true _ passes))

  -- the event hands off the monitor to a waiter
  abbrev is_hand : Event S → Bool
  is_hand (Signal k c w s) = true
  is_hand (SignalTo k c w s) = true
  is_hand (Pass k c w s) = true
  is_hand _ = false

  abbrev is_resume : Event S → Bool
  is_resume (Resume k c s) = true
  is_resume _ = false

  -- 1 if the last event passes the test, else 0
  abbrev last_if : (Event S → Bool) → Option (Event S) → ℕ
  last_if p None = 0
  last_if p (Some e) = one_if (p e)

  unfoldable handed_last : List (Event S) → ℕ
  handed_last h = last_if is_hand (newest h)

  unfoldable waited_last : List (Event S) → ℕ
  waited_last h = last_if is_wait (newest h)

  handed-push : (h : List (Event S)) (e : Event S) → handed_last (h ++ e ∷ []) ≡ one_if (is_hand e)
  unfolding handed_last
  handed-push h e = ap (last_if is_hand) (newest-push h e)

  waited-push : (h : List (Event S)) (e : Event S) → waited_last (h ++ e ∷ []) ≡ one_if (is_wait e)
  unfolding waited_last
  waited-push h e = ap (last_if is_wait) (newest-push h e)

  waited_nothing : (h : List (Event S)) → h ≡ [] → waited_last h ≡ 0
  unfolding waited_last
  waited_nothing h none = ap (λ l. last_if is_wait (newest l)) none

  waited-one : (h : List (Event S)) → waited_last h ≤ 1
  unfolding waited_last
  waited-one h = by (newest h)
    where
      by : (o : Option (Event S)) → last_if is_wait o ≤ 1
      by None = omega arith
      by (Some e) = elim (is_wait e) as (λ b. one_if b ≤ 1) [ true ↦ omega arith | false ↦ omega arith ]

  in_neither : (e : Event S) → is_inside e ≡ true → (is_hand e ≡ false) × (is_wait e ≡ false)
  in_neither (Admit k s) is = (refl, refl)
  in_neither (Resume k c s) is = (refl, refl)
  in_neither (Back k s) is = (refl, refl)
  in_neither (Notify k c w s) is = (refl, refl)
  in_neither (Broadcast k c s) is = (refl, refl)
  in_neither (Wait k c p s) is = absurd (cc)
  in_neither (Leave k s) is = absurd (cc)
  in_neither (Signal k c w s) is = absurd (cc)
  in_neither (SignalTo k c w s) is = absurd (cc)
  in_neither (Pass k c w s) is = absurd (cc)

  up_hands_not : (e : Event S) → gives_up e ≡ true → is_hand e ≡ false
  up_hands_not (Wait k c p s) is = refl
  up_hands_not (Leave k s) is = refl
  up_hands_not (Admit k s) is = absurd (cc)
  up_hands_not (Resume k c s) is = absurd (cc)
  up_hands_not (Back k s) is = absurd (cc)
  up_hands_not (Notify k c w s) is = absurd (cc)
  up_hands_not (Broadcast k c s) is = absurd (cc)
  up_hands_not (Signal k c w s) is = absurd (cc)
  up_hands_not (SignalTo k c w s) is = absurd (cc)
  up_hands_not (Pass k c w s) is = absurd (cc)

  handing_hands : (out : Hand) (k c w : ℕ) (s : S)
      → (is_hand (handing out k c w s) ≡ true) × (is_wait (handing out k c w s) ≡ false)
  handing_hands by_pass k c w s = (refl, refl)
  handing_hands by_signal k c w s = (refl, refl)
  handing_hands by_signal_to k c w s = (refl, refl)

  -- what one event does while signallers wait
  record StayStep (f : List (Event S)) (e : Event S) : Type 0 where
    hand : handed_last f ≡ one_if (is_resume e)
    came : one_if (begins_visit e) ≡ one_if (is_back e) + one_if (is_resume e)
    waits : one_if (is_hand e) + length (waiting_anywhere (f ++ e ∷ [])) + waited_last f
        ≤ length (waiting_anywhere f) + one_if (is_back e) + one_if (is_wait e)

  held_last : (f : List (Event S)) (k : ℕ) → turn f ≡ Held k → (handed_last f ≡ 0) × (waited_last f ≡ 0)
  held_last f k held =
      let r = turn-held f k held in
      let n = in_neither r.0 r.2 in (
        ap handed_last r.1.1 ∙ handed-push r.1.0 r.0 ∙ ap one_if n.0,
        ap waited_last r.1.1 ∙ waited-push r.1.0 r.0 ∙ ap one_if n.1,
      )

  stay_inside : (f : List (Event S)) (e : Event S) (k : ℕ) → turn f ≡ Held k → is_hand e ≡ false
      → is_resume e ≡ false → is_back e ≡ false → begins_visit e ≡ false → StayStep f e
  stay_inside f e k held hand resume back coming =
      let l = held_last f k held in
      let a : one_if (is_hand e) ≡ 0 = ap one_if hand in
      let b : one_if (is_resume e) ≡ 0 = ap one_if resume in
      let c : one_if (is_back e) ≡ 0 = ap one_if back in
      let d : one_if (begins_visit e) ≡ 0 = ap one_if coming in
      record {
        hand = omega (arith, l.0, b);
        came = omega (arith, b, c, d);
        waits = omega (arith, l.1, a, c, anywhere_more f e);
      }

  stay_hand : (f : List (Event S)) (e : Event S) (k c w : ℕ) → turn f ≡ Held k → is_hand e ≡ true
      → is_resume e ≡ false → is_back e ≡ false → begins_visit e ≡ false → is_wait e ≡ false
      → ((b i : ℕ) → concerns b i e ≡ (k == i || w == i)) → IsWaiting c f w → StayStep f e
  stay_hand f e k c w held hand resume back coming no_wait both waits =
      let l = held_last f k held in
      let a : one_if (is_hand e) ≡ 1 = ap one_if hand in
      let b : one_if (is_resume e) ≡ 0 = ap one_if resume in
      let d : one_if (is_back e) ≡ 0 = ap one_if back in
      let g : one_if (begins_visit e) ≡ 0 = ap one_if coming in
      record {
        hand = omega (arith, l.0, b);
        came = omega (arith, b, d, g);
        waits = omega (arith, l.1, a, d, anywhere_less f e k c w no_wait both waits);
      }

  stay_step : (f : History S) (e : Event S) → IsLegal f → Allowed f e → urgent f.events ≢ [] → StayStep f.events e
  stay_step f (Admit k s) legal may some = absurd (some (urgent-free f.events may.fits.0))
  stay_step f (Back k s) legal may some =
      let r = turn-return f.events k may.fits.0 in
      let none : handed_last f.events ≡ 0 =
      ap handed_last r.1.1 ∙ handed-push r.1.0 r.0 ∙ ap one_if (up_hands_not r.0 r.2) in
      record {
        hand = none;
        came = refl;
        waits = omega (arith, anywhere_more f.events (Back k s), waited-one f.events);
      }
  stay_step f (Resume k c s) legal may some = by (turn-owed f.events k c may.fits.0)
    where
      by : IsOwed k c f.events → StayStep f.events (Resume k c s)
      by (next_called r) = absurd (some r.nobody)
      by (handed r) =
          let n = handing_hands r.out r.by c k r.left in
          let one : handed_last f.events ≡ 1 =
          ap handed_last r.ends ∙ handed-push r.before (handing r.out r.by c k r.left) ∙ ap one_if n.0 in
          let none : waited_last f.events ≡ 0 =
          ap waited_last r.ends ∙ waited-push r.before (handing r.out r.by c k r.left) ∙ ap one_if n.1 in
          record { hand = one; came = refl; waits = omega (arith, none, anywhere_more f.events (Resume k c s)) }
  stay_step f (Wait k c p s) legal may some = stay_inside f.events (Wait k c p s) k may.fits refl refl refl refl
  stay_step f (Leave k s) legal may some = stay_inside f.events (Leave k s) k may.fits refl refl refl refl
  stay_step f (Notify k c w s) legal may some = stay_inside f.events (Notify k c w s) k may.fits.0 refl refl refl refl
  stay_step f (Broadcast k c s) legal may some = stay_inside f.events (Broadcast k c s) k may.fits.0 refl refl refl refl
  stay_step f (Signal k c w s) legal may some =
      stay_hand f.events (Signal k c w s) k c w may.fits.0 refl refl refl refl refl (λ b i. refl)
      (Chooses-waits c w f.events may.fits.1)
  stay_step f (SignalTo k c w s) legal may some =
      stay_hand f.events (SignalTo k c w s) k c w may.fits.0 refl refl refl refl refl (λ b i. refl) may.fits.1
  stay_step f (Pass k c w s) legal may some =
      stay_hand f.events (Pass k c w s) k c w may.fits.0 refl refl refl refl refl (λ b i. refl)
      (Chooses-waits c w f.events may.fits.1)

  -- the visits that begin while a signaller waits: one for each return, and one for each signal and pass
  record Stays (f later : List (Event S)) : Type 0 where
    hands : ℕ
    begun : visits later + handed_last (f ++ later) ≡ length (returned later) + hands + handed_last f
    fed : hands + length (waiting_anywhere (f ++ later)) + waited_last f
        ≤ length (waiting_anywhere f) + length (returned later) + waited_last (f ++ later)

  comings_more : (e : Event S) (later : List (Event S))
      → visits (e ∷ later) ≡ one_if (begins_visit e) + visits later
  unfolding visits
  comings_more e later = counted_more begins_visit e later

  stays_none : (f : List (Event S)) → Stays f []
  unfolding visits returned
  stays_none f =
      let a : handed_last (f ++ []) ≡ handed_last f = ap handed_last (append-nil f) in
      let b : waited_last (f ++ []) ≡ waited_last f = ap waited_last (append-nil f) in
      let d : length (waiting_anywhere (f ++ [])) ≡ length (waiting_anywhere f) =
      ap (λ l. length (waiting_anywhere l)) (append-nil f) in
      record { hands = 0; begun = omega (arith, a); fed = omega (arith, b, d) }

  stays_more : (f : List (Event S)) (e : Event S) (later : List (Event S)) → StayStep f e → Stays (f ++ e ∷ []) later
      → Stays f (e ∷ later)
  stays_more f e later step r =
      let whole : (f ++ e ∷ []) ++ later ≡ f ++ e ∷ later = append_assoc f (e ∷ []) later in
      let a : handed_last ((f ++ e ∷ []) ++ later) ≡ handed_last (f ++ e ∷ later) = ap handed_last whole in
      let b : waited_last ((f ++ e ∷ []) ++ later) ≡ waited_last (f ++ e ∷ later) = ap waited_last whole in
      let d : length (waiting_anywhere ((f ++ e ∷ []) ++ later)) ≡ length (waiting_anywhere (f ++ e ∷ later)) =
      ap (λ l. length (waiting_anywhere l)) whole in
      let hand_now : handed_last (f ++ e ∷ []) ≡ one_if (is_hand e) = handed-push f e in
      let wait_now : waited_last (f ++ e ∷ []) ≡ one_if (is_wait e) = waited-push f e in
      record {
        hands = one_if (is_hand e) + r.hands;
        begun = omega (arith, a, hand_now, comings_more e later, returned_more e later, r.begun, step.hand, step.came);
        fed = omega (arith, b, d, wait_now, returned_more e later, r.fed, step.waits);
      }

  stays_while : (h : History S) (f later : List (Event S)) (us : List ℕ) (k : ℕ) (vs : List ℕ) → IsLegal h
      → h.events ≡ f ++ later → urgent f ≡ us ++ k ∷ vs → own k later ≡ [] → Stays f later
  stays_while h f [] us k vs legal at is none = stays_none f
  stays_while h f (e ∷ later) us k vs legal at is none =
      let apart = own_other k e later none in
      let may : Allowed (cut_to h f) e = legal.each f later e at in
      let at_next : h.events ≡ (f ++ e ∷ []) ++ later = at ∙ sym (append_assoc f (e ∷ []) later) in
      let alone : own k (e ∷ []) ≡ [] = ap (λ b. cond b (e ∷ []) []) (ne_eqb (place_of e) k apart.0) in
      let m = meanwhile (cut_to h (f ++ e ∷ [])) f (e ∷ []) us k vs
      (legal_upto h (f ++ e ∷ []) later at_next legal) refl is alone in
      stays_more f e later
      (stay_step (cut_to h f) e (legal_upto h f (e ∷ later) at legal) may (some_of us k vs (urgent f) is))
      (stays_while h (f ++ e ∷ []) later m.left k (vs ++ m.more) legal at_next m.now apart.1)

  waited_room : (h : List (Event S)) → waited_last h ≤ length (waiting_anywhere h)
  waited_room h = by (has_last h)
    where
      by : HasLast h → waited_last h ≤ length (waiting_anywhere h)
      by (pushed g e ends) =
          let a : waited_last h ≡ one_if (is_wait e) = ap waited_last ends ∙ waited-push g e in
          let b : length (waiting_anywhere h) ≡ length (waiting_anywhere (g ++ e ∷ [])) =
          ap (λ l. length (waiting_anywhere l)) ends in
          omega (arith, a, b, anywhere_some g e)
      by (nothing none) = let a : waited_last h ≡ 0 = waited_nothing h none in omega (arith, a)

  -- a signal takes a waiter, and hands off the monitor
  record SignalHands (f : List (Event S)) (e : Event S) : Type 0 where
    less : length (waiting_anywhere (f ++ e ∷ [])) + 1 ≤ length (waiting_anywhere f)
    hand : is_hand e ≡ true
    no_wait : is_wait e ≡ false
    out : is_inside e ≡ false

  signal_hands : (f : History S) (e : Event S) → is_signal e ≡ true → Allowed f e → SignalHands f.events e
  signal_hands f (Signal k c w s) is may = record {
    less = anywhere_less f.events (Signal k c w s) k c w refl (λ b i. refl) (Chooses-waits c w f.events may.fits.1);
    hand = refl;
    no_wait = refl;
    out = refl;
  }
  signal_hands f (SignalTo k c w s) is may = record {
    less = anywhere_less f.events (SignalTo k c w s) k c w refl (λ b i. refl) may.fits.1;
    hand = refl;
    no_wait = refl;
    out = refl;
  }
  signal_hands f (Admit k s) is may = absurd (cc)
  signal_hands f (Wait k c p s) is may = absurd (cc)
  signal_hands f (Pass k c w s) is may = absurd (cc)
  signal_hands f (Leave k s) is may = absurd (cc)
  signal_hands f (Resume k c s) is may = absurd (cc)
  signal_hands f (Back k s) is may = absurd (cc)
  signal_hands f (Notify k c w s) is may = absurd (cc)
  signal_hands f (Broadcast k c s) is may = absurd (cc)

  -- from a signal to its return: at most one visit for each process that waits on a condition at the signal, and two
  -- for each signaller that waits then
  pub few_visits : (h : History S) (f later : List (Event S)) (e : Event S) → is_signal e ≡ true → IsLegal h
      → h.events ≡ f ++ e ∷ later → own (place_of e) later ≡ []
      → visits later ≤ length (waiting_anywhere f) + 2 * length (urgent f)
  few_visits h f later e is legal at none =
      let g : List (Event S) = f ++ e ∷ [] in
      let whole : h.events ≡ g ++ later = at ∙ sym (append_assoc f (e ∷ []) later) in
      let may = legal.each f later e at in
      let now = signalled (cut_to h f) e is may in
      let takes = signal_hands (cut_to h f) e is may in
      let m = meanwhile h g later (urgent f) (place_of e) [] legal whole now.now none in
      let r = stays_while h g later (urgent f) (place_of e) [] legal whole now.now none in
      let many : length (urgent f) ≡ length (returned later) + length m.left =
      length-parts _ (returned later) m.left m.came in
      let one : handed_last g ≡ 1 = handed-push f e ∙ ap one_if takes.hand in
      let shut : waited_last g ≡ 0 = waited-push f e ∙ ap one_if takes.no_wait in
      omega (arith, many, one, shut, takes.less, r.begun, r.fed, waited_room (g ++ later))

  -- so if a place may signal, there are at least two places more than signallers
  pub signal_room : (f : History S) (e : Event S) → is_signal e ≡ true → IsLegal f → Allowed f e
      → length (urgent f.events) + 2 ≤ f.sizes.places
  signal_room f e is legal may =
      let takes = signal_hands f e is may in let now = signalled f e is may in
      omega (arith, room_for_all f (place_of e) legal now.held, takes.less)

  -- until it returns there are fewer releases than places
  pub few_releases : (h : History S) (f later : List (Event S)) (e : Event S) → is_signal e ≡ true → IsLegal h
      → h.events ≡ f ++ e ∷ later → own (place_of e) later ≡ [] → releases later < h.sizes.places
  few_releases h f later e is legal at none =
      let room = signal_room (cut_to h f) e is (legal_upto h f (e ∷ later) at legal) (legal.each f later e at) in
      omega (arith, room, (signal_bound h f later e is legal at none).0)

  -- until a notified process resumes there are fewer releases than places and signals since together
  pub few_releases_called : (h : History S) (f later us : List (Event S)) (x : Event S) (vs : List (Event S)) (j : ℕ)
      → IsLegal h → h.events ≡ f ++ later → called f ≡ us ++ x ∷ vs → own (place_of x) later ≡ [] → turn f ≡ Held j
      → releases later < h.sizes.places + signals later
  few_releases_called h f later us x vs j legal at is none held =
      let room = room_for_all (cut_to h f) j (legal_upto h f later at legal) held in
      let many = ap length is ∙ length-append us (x ∷ vs) in
      omega (arith, room, many, called_at_most h f later us x vs legal at is none)

  -- so the visits and three more are at most twice the places
  pub few_in_all : (h : History S) (f later : List (Event S)) (e : Event S) → is_signal e ≡ true → IsLegal h
      → h.events ≡ f ++ e ∷ later → own (place_of e) later ≡ []
      → visits later + 3 ≤ 2 * h.sizes.places
  few_in_all h f later e is legal at none =
      let g : History S = cut_to h f in
      let may : Allowed g e = legal.each f later e at in
      let takes = signal_hands g e is may in let now = signalled g e is may in
      let room = room_for_all g (place_of e) (legal_upto h f (e ∷ later) at legal) now.held in
      omega (arith, room, takes.less, few_visits h f later e is legal at none)

  -- 1 if a place is inside, else 0
  unfoldable inside_last : List (Event S) → ℕ
  inside_last h = last_if is_inside (newest h)

  inside-push : (h : List (Event S)) (e : Event S) → inside_last (h ++ e ∷ []) ≡ one_if (is_inside e)
  unfolding inside_last
  inside-push h e = ap (last_if is_inside) (newest-push h e)

  inside-held : (h : List (Event S)) (k : ℕ) → turn h ≡ Held k → inside_last h ≡ 1
  inside-held h k held =
      let r = turn-held h k held in
      ap inside_last r.1.1 ∙ inside-push r.1.0 r.0 ∙ ap one_if r.2

  inside-one : (h : List (Event S)) → inside_last h ≤ 1
  unfolding inside_last
  inside-one h = by (newest h)
    where
      by : (o : Option (Event S)) → last_if is_inside o ≤ 1
      by None = omega arith
      by (Some e) = elim (is_inside e) as (λ b. one_if b ≤ 1) [ true ↦ omega arith | false ↦ omega arith ]

  -- each event begins a visit, is a notification, or ends the visit of the place inside
  event_step : (f : History S) (e : Event S) → Allowed f e
      → 1 + one_if (is_inside e) ≤ 2 * one_if (begins_visit e) + one_if (is_notification e) + inside_last f.events
  event_step f (Admit k s) may = omega arith
  event_step f (Resume k c s) may = omega arith
  event_step f (Back k s) may = omega arith
  event_step f (Notify k c w s) may = let held = inside-held f.events k may.fits.0 in omega (arith, held)
  event_step f (Broadcast k c s) may = let held = inside-held f.events k may.fits.0 in omega (arith, held)
  event_step f (Wait k c p s) may = let held = inside-held f.events k may.fits in omega (arith, held)
  event_step f (Leave k s) may = let held = inside-held f.events k may.fits in omega (arith, held)
  event_step f (Signal k c w s) may = let held = inside-held f.events k may.fits.0 in omega (arith, held)
  event_step f (SignalTo k c w s) may = let held = inside-held f.events k may.fits.0 in omega (arith, held)
  event_step f (Pass k c w s) may = let held = inside-held f.events k may.fits.0 in omega (arith, held)

  more_notified : (e : Event S) (later : List (Event S))
      → notifications (e ∷ later) ≡ one_if (is_notification e) + notifications later
  unfolding notifications
  more_notified e later = counted_more is_notification e later

  events_none : (f : List (Event S))
      → length {A = Event S} [] + inside_last (f ++ [])
      ≤ 2 * visits {S = S} [] + notifications {S = S} [] + inside_last f
  unfolding visits notifications
  events_none f =
      let same : inside_last (f ++ []) ≡ inside_last f = ap inside_last (append-nil f) in omega (arith, same)

  events_while : (h : History S) (f later : List (Event S)) → IsLegal h → h.events ≡ f ++ later
      → length later + inside_last (f ++ later) ≤ 2 * visits later + notifications later + inside_last f
  events_while h f [] legal at = events_none f
  events_while h f (e ∷ later) legal at =
      let whole : (f ++ e ∷ []) ++ later ≡ f ++ e ∷ later = append_assoc f (e ∷ []) later in
      let moved : inside_last ((f ++ e ∷ []) ++ later) ≡ inside_last (f ++ e ∷ later) = ap inside_last whole in
      let rest = events_while h (f ++ e ∷ []) later legal (at ∙ sym whole) in
      let step = event_step (cut_to h f) e (legal.each f later e at) in
      omega (arith, moved, rest, step, inside-push f e, comings_more e later, more_notified e later)

  -- so there are at most two events for each visit that begins and one more, besides the notifications
  pub few_events : (h : History S) (f later : List (Event S)) → IsLegal h → h.events ≡ f ++ later
      → length later ≤ 2 * visits later + notifications later + 1
  few_events h f later legal at = omega (arith, events_while h f later legal at, inside-one f)

  -- after a signal there is one event less
  pub few_events_behind : (h : History S) (f later : List (Event S)) (e : Event S) → is_signal e ≡ true → IsLegal h
      → h.events ≡ f ++ e ∷ later → length later ≤ 2 * visits later + notifications later
  few_events_behind h f later e is legal at =
      let whole : h.events ≡ (f ++ e ∷ []) ++ later = at ∙ sym (append_assoc f (e ∷ []) later) in
      let takes = signal_hands (cut_to h f) e is (legal.each f later e at) in
      let out : inside_last (f ++ e ∷ []) ≡ 0 = inside-push f e ∙ ap one_if takes.out in
      omega (arith, out, events_while h (f ++ e ∷ []) later legal whole)
