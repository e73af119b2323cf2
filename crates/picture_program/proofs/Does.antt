-- Each place does one thing in a history that has a book: its own last event says which, and its number among the
-- notified.
use Rattle.std.proofs.Common.{◌≡◌, ◌==◌, ◌<◌, ◌+◌, ◌↔◌, not, ℕ, suc, zero, ◌⊎◌, inl, inr, ⊎_elim, Bool, true, false, cond, eqb-true, arith}
use Rattle.std.proofs.Common.{List, [], ◌∷◌, ◌++◌, map, Option, Some, None, refl, ap, sym, ◌∙◌, subst}
use Rattle.std.specs.Prelude.{All}
use Rattle.std.specs.List.{filter, list_all, Contains}
use Rattle.std.proofs.lemmas.Bool.Decides.{nat_tests}
use Rattle.std.proofs.lemmas.Bool.{not-true}
use Rattle.std.proofs.lemmas.List.{append-nil}
use Rattle.std.proofs.lemmas.List.Elements.{All-nil, All-cons, All-head, All-tail, All-same, All-weaker, All-contains}
use Rattle.std.proofs.lemmas.List.Elements.{All-contains_itself}
use Rattle.hoare_law.specs.declared.event.Event.{Event}
use Rattle.hoare_law.specs.declared.event.History.{History}
use Rattle.hoare_law.specs.declared.event.Event.TheVariants.{Admit, Wait, Signal, Pass, Leave, Resume, Back, Notify}
use Rattle.hoare_law.specs.declared.event.Event.TheVariants.{Broadcast, SignalTo}
use Rattle.hoare_law.specs.declared.turn.Turn.{Turn}
use Rattle.hoare_law.specs.declared.turn.Turn.TheVariants.{Free, Held, Owed, Return}
use Rattle.hoare_law.specs.Events.{place_of, own, newest, with_event}
use Rattle.hoare_law.specs.Waiting.{condition_of, priority_of, waiting}
use Rattle.hoare_law.specs.Called.{called}
use Rattle.hoare_law.specs.Legal.{IsLegal}
use Rattle.hoare_law.specs.Turns.{is_signal, urgent, turn, is_out, outside}
use Rattle.hoare_law.specs.Priorities.{in_order}
use Rattle.hoare_law.proofs.Events.{newest-push, own-push}
use Rattle.hoare_law.proofs.Held.{is_inside, own-held, waits_on-is}
use Rattle.hoare_law.proofs.Owed.{IsCalled, All-called}
use Rattle.hoare_law.proofs.Sorted.{All-in_order}
use Rattle.hoare_law.proofs.Tests.{both_true, eq_swap}
use Rattle.hoare_law.proofs.Waiters.{Waits, LastSignals, All-waiting, All-urgent}
use Rattle.wait_book.specs.declared.waiter.Waiter.{Waiter}
use Rattle.wait_book.specs.Contents.{Contents, IsOf, hoare_of, times, times_in, times_in_hand, wait_of}
use Rattle.wait_book.specs.Numbers.{notified_position, position_from}
use Rattle.wait_book.proofs.Times.{eq_self, one_apart}
use Rattle.wait_book.proofs.Waiters.{on, places}
use Rattle.picture_program.specs.declared.monitor.Lane.{Lane}
use Rattle.picture_program.specs.declared.monitor.Lane.TheVariants as lanes
use Rattle.picture_program.specs.Lanes.{Does, IsClaimed, last_by, last_of, left_by, numbered}

-- a history and an event without data
abbrev pub Log : Type 0
Log = History (Unit {0})

abbrev pub Act : Type 0
Act = Event (Unit {0})

-- what a place does by its own last event and its number among the notified
abbrev pub lane_of : Log → ℕ → Lane
lane_of h k = numbered (notified_position h.events k) (last_of h k)

-- after one more event its place does what the event says, and each other place what it did
pub last_of-push : (h : Log) (e : Act) (k : ℕ)
    → last_of (with_event h e) k ≡ cond (place_of e == k) (left_by e) (last_of h k)
unfolding with_event
last_of-push h e k = ap (λ (l : List Act). last_by (newest l)) (own-push k h.events e) ∙ by (place_of e == k)
  where
    by : (t : Bool) → last_by (newest (own k h.events ++ cond t (e ∷ []) [])) ≡ cond t (left_by e) (last_of h k)
    by true = ap last_by (newest-push (own k h.events) e)
    by false = ap (λ (l : List Act). last_by (newest l)) (append-nil (own k h.events))

-- what the place of the event e does, by each test that e passes
record Told (e : Act) : Type 0 where
  inside : is_inside e ≡ true → lanes.Inside ≡ left_by e
  signals : is_signal e ≡ true → lanes.Signalling ≡ left_by e
  out : is_out (Some e) ≡ true → lanes.Outside ≡ left_by e

never : {X : Type 0} → false ≡ true → X
never is = absurd (cc)

told : (e : Act) → Told e
told (Admit k s) = record { inside = λ is. refl; signals = never; out = never }
told (Resume k c s) = record { inside = λ is. refl; signals = never; out = never }
told (Back k s) = record { inside = λ is. refl; signals = never; out = never }
told (Notify k c w s) = record { inside = λ is. refl; signals = never; out = never }
told (Broadcast k c s) = record { inside = λ is. refl; signals = never; out = never }
told (Signal k c w s) = record { inside = never; signals = λ is. refl; out = never }
told (SignalTo k c w s) = record { inside = never; signals = λ is. refl; out = never }
told (Pass k c w s) = record { inside = never; signals = never; out = λ is. refl }
told (Leave k s) = record { inside = never; signals = never; out = λ is. refl }
told (Wait k c p s) = record { inside = never; signals = never; out = never }

-- which places are notified

-- a place that isn't among these events has no number; one that has a number is among them
number_none : (n k : ℕ) (es : List Act) → All (λ x. (place_of x == k) ≡ false) es
    → position_from n k (map place_of es) ≡ 0
number_none n k [] all = refl
number_none n k (e ∷ es) all =
    ap (λ (b : Bool). cond b (n + 1) (position_from (n + 1) k (map place_of es)))
    (All-head (λ x. (place_of x == k) ≡ false) e es all)
    ∙ number_none (n + 1) k es (All-tail (λ x. (place_of x == k) ≡ false) e es all)

number_some : (P : Act → Type 0) (n k : ℕ) (es : List Act) → All P es → 0 < position_from n k (map place_of es)
    → (e : Act) × (place_of e ≡ k) × P e
number_some P n k [] all some = absurd (omega (arith, some))
number_some P n k (e ∷ es) all some =
    by (place_of e == k) refl (number_some P (n + 1) k es (All-tail P e es all)) some
  where
    by : (t : Bool) → (place_of e == k) ≡ t
        → (0 < position_from (n + 1) k (map place_of es) → (x : Act) × (place_of x ≡ k) × P x)
        → 0 < cond t (n + 1) (position_from (n + 1) k (map place_of es)) → (x : Act) × (place_of x ≡ k) × P x
    by true is later more = (e, eqb-true (place_of e) k is, All-head P e es all)
    by false is later more = later more

-- if all elements pass a test, each of them passes it
all_pass : {X : Type 0} (p : X → Bool) (xs : List X) → list_all p xs ≡ true → All (λ x. p x ≡ true) xs
all_pass p [] is = All-nil (λ x. p x ≡ true)
all_pass p (x ∷ xs) is = let b = both_true _ _ is in All-cons (λ y. p y ≡ true) x xs b.0 (all_pass p xs b.1)

-- a waiting place isn't notified
waits_uncalled : (h : Log) (k c p : ℕ) → IsLegal h → Contains (waiting c h.events) (Wait k c p tt)
    → notified_position h.events k ≡ 0
waits_uncalled h k c p legal d = number_none 0 k (called h.events)
    (All-weaker (IsCalled h) (λ x. (place_of x == k) ≡ false) apart (called h.events) (All-called h legal))
  where
    apart : (x : Act) → IsCalled h x → (place_of x == k) ≡ false
    apart x was = not-true (place_of x == k)
        (All-contains (λ y. not (place_of x == place_of y) ≡ true) (waiting c h.events) (Wait k c p tt)
        (all_pass (λ y. not (place_of x == place_of y)) (waiting c h.events) (was.apart c)) d)

-- what a place does is determined by its own last event and by its number among the notified

out_is : (o : Option Act) → is_out o ≡ true → lanes.Outside ≡ last_by o
out_is None is = refl
out_is (Some e) is = (told e).out is

-- a place that is inside did nothing since
pub inside_last : (h : Log) (k : ℕ) → turn h.events ≡ Held k → lanes.Inside ≡ last_of h k
inside_last h k d =
    let r : (e : Act) × (newest (own k h.events) ≡ Some e) × (is_inside e ≡ true) = own-held h.events k d in
    (told r.0).inside r.2 ∙ ap last_by (sym r.1)

some_of : (n : ℕ) → 0 < n → (n == 0) ≡ false
some_of n some = grind (arith, nat_tests)

-- a notified place has its number, whichever wait was its last event
called_last : (h : Log) (k : ℕ) → IsLegal h → 0 < notified_position h.events k
    → lanes.Called (notified_position h.events k) ≡ lane_of h k
called_last h k legal some =
    let n : ℕ = notified_position h.events k in
    let r : (x : Act) × (place_of x ≡ k) × IsCalled h x =
    number_some (IsCalled h) 0 k (called h.events) (All-called h legal) some in
    let c : ℕ = condition_of r.0 in
    let p : ℕ = priority_of r.0 in
    let last : newest (own k h.events) ≡ Some r.0 =
    subst (λ (j : ℕ). newest (own j h.events) ≡ Some r.0) r.1 r.2.last in
    let waits : left_by r.0 ≡ lanes.Waiting c p = ap left_by (waits_on-is c r.0 r.2.waits) in
    sym (ap (λ (b : Bool). cond b (lanes.Waiting c p) (lanes.Called n)) (some_of n some))
    ∙ sym (ap (numbered n) (ap last_by last ∙ waits))

Does-last : (h : Log) (k : ℕ) (lane : Lane) → IsLegal h → Does h k lane → lane ≡ lane_of h k
unfolding outside
Does-last h k lanes.Outside legal d = ap (numbered (notified_position h.events k)) (out_is (newest (own k h.events)) d)
Does-last h k lanes.Inside legal d = ap (numbered (notified_position h.events k)) (inside_last h k d)
Does-last h k (lanes.Waiting c p) legal d =
    let w : Waits c h.events (Wait k c p tt) =
    All-contains (Waits c h.events) (waiting c h.events) (Wait k c p tt) (All-waiting c h.events) d in
    ap (λ (n : ℕ). numbered n (lanes.Waiting c p)) (sym (waits_uncalled h k c p legal d))
    ∙ ap (λ (o : Option Act). numbered (notified_position h.events k) (last_by o)) (sym w.last)
Does-last h k lanes.Signalling legal d =
    let r : LastSignals h.events k = All-contains (LastSignals h.events) (urgent h.events) k (All-urgent h.events) d in
    ap (numbered (notified_position h.events k)) ((told r.0).signals r.2 ∙ ap last_by (sym r.1))
Does-last h k (lanes.Called m) legal d =
    ap lanes.Called d.1 ∙ called_last h k legal (subst (λ (n : ℕ). 0 < n) d.1 d.0)

-- a place that is not outside is in the book

more_of : (n : ℕ) → (n == 0) ≡ false → 0 < n
more_of n is = grind (arith, nat_tests)

-- a place among the waiters, with what holds of the waiters on each condition
among_waiters : (P : ℕ → Act → Type 0) (k : ℕ) (ws : List Waiter)
    → ((c : ℕ) → All (P c) (map wait_of (filter (on c) ws))) → 0 < times k (places ws)
    → (w : Waiter) × (w.place ≡ k) × P w.condition (wait_of w)
among_waiters P k [] all some = absurd (omega (arith, some))
among_waiters P k (w ∷ ws) all some =
    by (k == w.place) refl
    (λ is. among_waiters P k ws (λ c. others (on c w) c (all c)) (omega (arith, some, one_apart k w.place is)))
  where
    first : (t : Bool) → (w.condition == w.condition) ≡ t → t ≡ true
        → All (P w.condition) (map wait_of (cond t (w ∷ filter (on w.condition) ws) (filter (on w.condition) ws)))
        → P w.condition (wait_of w)
    first true is e a = All-head (P w.condition) (wait_of w) (map wait_of (filter (on w.condition) ws)) a
    first false is e a = absurd (cc)

    others : (t : Bool) (c : ℕ) → All (P c) (map wait_of (cond t (w ∷ filter (on c) ws) (filter (on c) ws)))
        → All (P c) (map wait_of (filter (on c) ws))
    others true c a = All-tail (P c) (wait_of w) (map wait_of (filter (on c) ws)) a
    others false c a = a

    by : (t : Bool) → (k == w.place) ≡ t
        → ((k == w.place) ≡ false → (v : Waiter) × (v.place ≡ k) × P v.condition (wait_of v))
        → (v : Waiter) × (v.place ≡ k) × P v.condition (wait_of v)
    by true is later = (
      w,
      sym (eqb-true k w.place is),
      first (w.condition == w.condition) refl (eq_self w.condition)
          (all w.condition),
    )
    by false is later = later is

among : (k : ℕ) (us : List ℕ) → 0 < times k us → Contains us k
among k [] some = absurd (omega (arith, some))
among k (u ∷ us) some = by (k == u) refl (λ is. among k us (omega (arith, some, one_apart k u is)))
  where
    by : (t : Bool) → (k == u) ≡ t → ((k == u) ≡ false → Contains us k) → Contains (u ∷ us) k
    by true is later = (0, omega arith, sym (eqb-true k u is))
    by false is later = let r : Contains us k = later is in (suc r.0, omega (arith, r.1), r.2)

-- a place among the notified has a number
number_among : (n k : ℕ) (ws : List Waiter) → 0 < times k (places ws)
    → 0 < position_from n k (map place_of (map wait_of ws))
number_among n k [] some = absurd (omega (arith, some))
number_among n k (w ∷ ws) some =
    by (w.place == k) refl
    (λ is. number_among (n + 1) k ws (omega (arith, some, one_apart k w.place (eq_swap k w.place ∙ is))))
  where
    by : (t : Bool) → (w.place == k) ≡ t
        → ((w.place == k) ≡ false → 0 < position_from (n + 1) k (map place_of (map wait_of ws)))
        → 0 < cond t (n + 1) (position_from (n + 1) k (map place_of (map wait_of ws)))
    by true is later = omega arith
    by false is later = later is

in_hand : (h : Log) (k m : ℕ) (t : Turn) → turn h.events ≡ t → IsClaimed t → 0 < times_in_hand k m t
    → turn h.events ≡ Held k
in_hand h k m Free is claimed some = absurd (omega (arith, some))
in_hand h k m (Held j) is claimed some = by (k == j) refl
  where
    by : (t : Bool) → (k == j) ≡ t → turn h.events ≡ Held k
    by true e = is ∙ ap Held (sym (eqb-true k j e))
    by false e = absurd (omega (arith, some, one_apart k j e))
in_hand h k m (Owed j c) is claimed some = absurd claimed
in_hand h k m (Return j) is claimed some = absurd claimed

-- one of four numbers whose sum isn't 0 isn't 0
one_of : (a b c d : ℕ) → 0 < a + (b + (c + d)) → (0 < a) ⊎ ((0 < b) ⊎ ((0 < c) ⊎ (0 < d)))
one_of (suc a) b c d some = inl (omega arith)
one_of zero (suc b) c d some = inr (inl (omega arith))
one_of zero zero (suc c) d some = inr (inr (inl (omega arith)))
one_of zero zero zero d some = inr (inr (inr (omega (arith, some))))

-- if no place is owed the monitor, each place does something
Does-something : (b : Contents) (h : Log) (k : ℕ) → IsOf b h → IsClaimed (turn h.events) → (lane : Lane) × Does h k lane
Does-something b h k o claimed = by (outside k h.events) refl
  where
    waits : 0 < times k (places b.waiters) → (lane : Lane) × Does h k lane
    waits some =
        let ordered : (c : ℕ) → All (Contains (waiting c h.events)) (map wait_of (filter (on c) b.waiters)) =
        λ c. All-same (Contains (waiting c h.events)) (map wait_of (filter (on c) b.waiters))
        (in_order priority_of (waiting c h.events)) (o.waiters c)
        (All-in_order priority_of (Contains (waiting c h.events)) (waiting c h.events)
        (All-contains_itself (waiting c h.events))) in
        let r : (w : Waiter) × (w.place ≡ k) × Contains (waiting w.condition h.events) (wait_of w) =
        among_waiters (λ c. Contains (waiting c h.events)) k b.waiters ordered some in (
          lanes.Waiting r.0.condition r.0.priority,
          subst (λ (j : ℕ). Contains (waiting r.0.condition h.events) (Wait j r.0.condition r.0.priority tt)) r.1 r.2,
        )

    signals : 0 < times k b.signallers → (lane : Lane) × Does h k lane
    signals some =
        (lanes.Signalling, subst (λ (us : List ℕ). Contains us k) (sym o.signallers) (among k b.signallers some))

    calls : 0 < times k (places b.called) → (lane : Lane) × Does h k lane
    calls some = (
      lanes.Called (notified_position h.events k),
      (
        subst (λ (es : List Act). 0 < position_from 0 k (map place_of es)) (sym o.called_are)
            (number_among 0 k b.called some),
        refl,
      ),
    )

    holds : 0 < times_in_hand k (hoare_of b) b.turn → (lane : Lane) × Does h k lane
    holds some = (
      lanes.Inside,
      in_hand h k (hoare_of b) (turn h.events) refl claimed
          (subst (λ (t : Turn). 0 < times_in_hand k (hoare_of b) t) (sym o.turn_is) some),
    )

    by : (t : Bool) → outside k h.events ≡ t → (lane : Lane) × Does h k lane
    by true is = (lanes.Outside, is)
    by false is =
        ⊎_elim waits (⊎_elim signals (⊎_elim calls holds))
        (one_of _ _ _ _ (more_of (times_in k b) (sym (o.outside_are k) ∙ is)))

-- and nothing but what its own last event and its number say
pub Does-lane : (b : Contents) (h : Log) (k : ℕ) (lane : Lane) → IsOf b h → IsClaimed (turn h.events)
    → Does h k lane ↔ (lane ≡ lane_of h k)
Does-lane b h k lane o claimed = (
  Does-last h k lane o.legal,
  λ same.
      let r : (l : Lane) × Does h k l = Does-something b h k o claimed in
      subst (λ (l : Lane). Does h k l) (Does-last h k r.0 o.legal r.1 ∙ sym same) r.1,
)
