-- What each call does to the histories that a book is of.
use Rattle.std.proofs.Common.{◌≡◌, ◌≢◌, ◌==◌, ℕ, ◌+◌, ◌<◌, ◌≤◌, Bool, true, false, eq-eqb, eqb-true, cond, not, ◌||◌}
use Rattle.std.proofs.Common.{inl, inr, arith, length}
use Rattle.std.proofs.Common.{List, [], ◌∷◌, ◌++◌, map, Option, Some, None, refl, ap, sym, ◌∙◌, subst}
use Rattle.std.specs.List.{filter}
use Rattle.std.specs.Prelude.{IsSomeAnd, nat_lt, ◌↔◌}
use Rattle.std.proofs.lemmas.Bool.{cases_lt}
use Rattle.std.proofs.lemmas.Bool.Decides.{nat_tests}
use Rattle.std.proofs.lemmas.List.{append-nil, map-append}
use Rattle.std.proofs.lemmas.List.Elements.{filter_agree, filter-append}
use Rattle.hoare_law.specs.declared.event.Event.{Event}
use Rattle.hoare_law.specs.declared.event.History.{History}
use Rattle.hoare_law.specs.declared.event.Sizes.{Sizes}
use Rattle.hoare_law.specs.declared.event.Event.TheVariants.{Admit, Signal, Pass, Leave, Resume, Back, Notify}
use Rattle.hoare_law.specs.declared.event.Event.TheVariants.{Broadcast, SignalTo}
use Rattle.hoare_law.specs.declared.turn.Turn.{Turn}
use Rattle.hoare_law.specs.declared.turn.Turn.TheVariants.{Free, Held, Owed, Return}
use Rattle.hoare_law.specs.Events.{opened, place_of, with_event}
use Rattle.hoare_law.specs.Sizes.{IsHoare, IsMesa}
use Rattle.hoare_law.specs.Waiting.{waiting, waits_on, takes, concerns, priority_of, chosen, Chooses, wait_by}
use Rattle.hoare_law.specs.Waiting.{IsWaiting}
use Rattle.hoare_law.specs.Called.{called_by, called}
use Rattle.hoare_law.specs.Turns.{urgent, turn, turn_by, outside, is_out, is_signal}
use Rattle.hoare_law.specs.Priorities.{put_in, in_order, behind_first}
use Rattle.hoare_law.specs.Legal.{Allowed}
use Rattle.hoare_law.specs.Internal.WithoutData.{without_data}
use Rattle.hoare_law.proofs.Waiting.{waiting-push}
use Rattle.hoare_law.proofs.Called.{called-push}
use Rattle.hoare_law.proofs.Calling.{called_by-notify}
use Rattle.hoare_law.proofs.Turns.{urgent-push, turn-push, outside-push, filter-map}
use Rattle.hoare_law.proofs.Held.{handing, hand_of, concerns-own}
use Rattle.hoare_law.proofs.Legal.{IsLegal-push, IsLegal-none}
use Rattle.hoare_law.proofs.Filters.{filter-all, filter-filter, filter-or, list_all-filter_none, map-none}
use Rattle.hoare_law.proofs.Sorted.{in_order-filter, in_order-push, in_order-short, put_in-map, find-filter}
use Rattle.hoare_law.proofs.Priorities.{IsWaiting-by, waiting-wait_by}
use Rattle.hoare_law.proofs.Waiters.{waiting-once}
use Rattle.hoare_law.proofs.Chosen as law
use Rattle.hoare_law.proofs.Sorted as sorted
use Rattle.hoare_law.proofs.Tests.{eq_swap}
use Rattle.wait_book.specs.declared.waiter.Waiter.{Waiter}
use Rattle.wait_book.specs.Contents.{Contents, IsOf, hoare_of, next_of, one, times, times_in, wait_of, waiters_on}
use Rattle.wait_book.specs.Contents.{waits_of}
use Rattle.wait_book.specs.declared.steps.Next.TheVariants as next
use Rattle.wait_book.specs.Stepping.{after_broadcast, after_claim, after_notify, after_signal, after_signal_to}
use Rattle.wait_book.specs.Stepping.{after_pass, settled}
use Rattle.wait_book.specs.Insides.{IsCalledFirst, IsSound, chain_of}
use Rattle.wait_book.specs.Queues.{PutsIn, TakesAll, Removes, IsFirst}
use Rattle.wait_book.proofs.Times.{eq_self, one_at, one_same, one_apart, filter-apart, filter-others, list_all-apart}
use Rattle.wait_book.proofs.Waiters.{on, places, key, times-taken, filter-taken, filter-taken_on}
use Rattle.wait_book.proofs.Sound.{admitted, claimed, told, waited, left, resumed, returned, went_on, Enters, Holds}
use Rattle.wait_book.proofs.Sound.{Resumes, holder_apart, hand_apart, held_hand, owed_hand, owed_called, owed_condition}
use Rattle.wait_book.proofs.Sound.{called_times}
use Rattle.wait_book.proofs.Sound.{held_in_range, owed_in_range, return_in_range, return_in, return_front}
use Rattle.wait_book.proofs.Sound.{waited_times, left_times, admitted_times, owed_times, went_on_times, returned_times}
use Rattle.wait_book.proofs.Sound.{signalled_times, passed_times, notified_times, broadcast_times}

-- a history and an event without data
abbrev Log : Type 0
Log = History (Unit {0})

abbrev Act : Type 0
Act = Event (Unit {0})

-- an equal book is of the same histories
pub IsOf-same : (b d : Contents) (h : Log) → b ≡ d → IsOf b h → IsOf d h
IsOf-same b d h e o = subst (λ (v : Contents). IsOf v h) e o

-- a new book is of the history without events
pub IsOf-opened : (n : Sizes) (x y : ℕ)
    → IsOf (record {
      sizes = n;
      room_to_wait = x;
      room_to_signal = y;
      waiters = [];
      signallers = [];
      called = [];
      turn = Free;
    }) (opened n tt)
unfolding waiting urgent called turn outside
IsOf-opened n x y = record {
  legal = IsLegal-none (opened n tt) refl;
  sizes = refl;
  waiters = λ c. refl;
  signallers = refl;
  called_are = refl;
  turn_is = refl;
  outside_are = λ k. refl;
}

-- the waiters after an event that isn't a wait

-- the waiters that an event doesn't concern
abbrev spared : Act → List Waiter → List Waiter
spared e ws = filter (λ (w : Waiter). not (concerns w.condition w.place e)) ws

-- the waiters ws are those that the events say
abbrev AreWaiting : List Waiter → List Act → Type 0
AreWaiting ws h = (c : ℕ) → map wait_of (filter (on c) ws) ≡ in_order priority_of (waiting c h)

-- two tests that agree on the elements that a filter keeps give the same list
filter-agree_on : {X : Type 0} (r p q : X → Bool) (xs : List X) → ((x : X) → r x ≡ true → p x ≡ q x)
    → filter p (filter r xs) ≡ filter q (filter r xs)
filter-agree_on r p q [] f = refl
filter-agree_on {X = X} r p q (x ∷ xs) f = by (r x) refl (filter-agree_on r p q xs f)
  where
    by : (t : Bool) → r x ≡ t → filter p (filter r xs) ≡ filter q (filter r xs)
        → filter p (cond t (x ∷ filter r xs) (filter r xs)) ≡ filter q (cond t (x ∷ filter r xs) (filter r xs))
    by true is rest =
        ap (λ b. cond b (x ∷ filter p (filter r xs)) (filter p (filter r xs))) (f x is)
        ∙ ap (λ l. cond (q x) (x ∷ l) l) rest
    by false is rest = rest

-- the waiters that an event doesn't concern remain
waiters_stay : (b : Contents) (h : Log) (e : Act) (ws : List Waiter) → spared e b.waiters ≡ ws → IsOf b h
    → (c : ℕ)
    → map wait_of (filter (on c) ws) ≡ in_order priority_of
    (filter (λ x. not (concerns c (place_of x) e)) (waiting c h.events))
waiters_stay b h e ws f o c =
    let p : Waiter → Bool = λ w. not (concerns w.condition w.place e) in
    let q : Waiter → Bool = λ w. not (concerns c w.place e) in
    ap (λ l. map wait_of (filter (on c) l)) (sym f)
    ∙ ap (map wait_of) (filter-filter (on c) p b.waiters)
    ∙ ap (map wait_of)
    (filter-agree_on (on c) p q b.waiters (λ w is. ap (λ d. not (concerns d w.place e)) (eqb-true w.condition c is)))
    ∙ sym (filter-map wait_of (λ x. not (concerns c (place_of x) e)) (waiters_on c b))
    ∙ ap (filter (λ x. not (concerns c (place_of x) e))) (o.waiters c)
    ∙ sym (in_order-filter priority_of (λ x. not (concerns c (place_of x) e)) (waiting c h.events))

-- an event that isn't a wait adds no waiter
waiters_kept : (b : Contents) (h : Log) (e : Act) (ws : List Waiter) → ((c : ℕ) → waits_on c e ≡ false)
    → spared e b.waiters ≡ ws → IsOf b h
    → AreWaiting ws (h.events ++ e ∷ [])
waiters_kept b h e ws n f o c =
    let kept : List Act = filter (λ x. not (concerns c (place_of x) e)) (waiting c h.events) in
    waiters_stay b h e ws f o c
    ∙ ap (in_order priority_of)
    (sym (waiting-push c h.events e ∙ ap (λ t. kept ++ cond t (e ∷ []) []) (n c) ∙ append-nil _))

-- a wait adds its own waiter
waiters_joined : (b : Contents) (h : Log) (w : Waiter) (ws : List Waiter) → PutsIn w b.waiters ws
    → spared (wait_of w) b.waiters ≡ b.waiters → IsOf b h
    → AreWaiting ws (h.events ++ wait_of w ∷ [])
waiters_joined b h w ws p f o c =
    let kept : List Act = filter (λ x. not (concerns c (place_of x) (wait_of w))) (waiting c h.events) in
    ap (map wait_of) (p.on c) ∙ by (w.condition == c) (waiters_on c b)
    ∙ ap (λ l. cond (on c w) (put_in priority_of (wait_of w) l) l) (waiters_stay b h (wait_of w) b.waiters f o c)
    ∙ sym (in_order-push priority_of (on c w) (wait_of w) kept)
    ∙ ap (in_order priority_of) (sym (waiting-push c h.events (wait_of w)))
  where
    by : (t : Bool) (vs : List Waiter)
        → map wait_of (cond t (put_in key w vs) vs) ≡ cond t (put_in priority_of (wait_of w) (map wait_of vs))
        (map wait_of vs)
    by true vs = sym (put_in-map wait_of priority_of w vs)
    by false vs = refl

-- the places outside

outside_by : (t : Bool) (k : ℕ) (e : Act) (o : Bool) (n m : ℕ) → (place_of e == k) ≡ t → o ≡ (n == 0)
    → (place_of e ≡ k → is_out (Some e) ≡ (m == 0))
    → ((place_of e == k) ≡ false → n ≡ m) → cond t (is_out (Some e)) o ≡ (m == 0)
outside_by true k e o n m h p here off = here (eqb-true (place_of e) k h)
outside_by false k e o n m h p here off = p ∙ ap (λ v. v == 0) (off h)

-- the places outside after another event
outside_kept : (b d : Contents) (h : Log) (e : Act) → ((k : ℕ) → outside k h.events ≡ (times_in k b == 0))
    → is_out (Some e) ≡ (times_in (place_of e) d == 0)
    → ((k : ℕ) → (place_of e == k) ≡ false → times_in k b ≡ times_in k d) → (k : ℕ)
    → outside k (h.events ++ e ∷ []) ≡ (times_in k d == 0)
outside_kept b d h e o here off k =
    outside-push k h.events e
    ∙ outside_by (place_of e == k) k e (outside k h.events) (times_in k b) (times_in k d) refl (o k)
    (λ q. subst (λ (j : ℕ). is_out (Some e) ≡ (times_in j d == 0)) q here) (off k)

-- the book after another event that is allowed, by what the event does to each part
pub IsOf-push : (b d : Contents) (h : Log) (e : Act) → IsOf b h → d.sizes ≡ b.sizes → Allowed h e
    → AreWaiting d.waiters (h.events ++ e ∷ [])
    → filter (λ u. not (place_of e == u)) b.signallers ++ cond (is_signal e) (place_of e ∷ []) [] ≡ d.signallers
    → filter (λ x. not (place_of e == place_of x)) (map wait_of b.called) ++ called_by h.events e ≡ map wait_of d.called
    → turn_by e d.signallers (map wait_of d.called) ≡ d.turn
    → is_out (Some e) ≡ (times_in (place_of e) d == 0)
    → ((k : ℕ) → (place_of e == k) ≡ false → times_in k b ≡ times_in k d)
    → IsOf d (with_event h e)
unfolding with_event
IsOf-push b d h e o p allowed ws us cs t here off =
    let signallers : urgent (h.events ++ e ∷ []) ≡ d.signallers =
    urgent-push h.events e
    ∙ ap (λ l. filter (λ u. not (place_of e == u)) l ++ cond (is_signal e) (place_of e ∷ []) []) o.signallers ∙ us in
    let called_are : called (h.events ++ e ∷ []) ≡ map wait_of d.called =
    called-push h.events e
    ∙ ap (λ l. filter (λ x. not (place_of e == place_of x)) l ++ called_by h.events e) o.called_are ∙ cs in
    record {
      legal = IsLegal-push e o.legal allowed;
      sizes = o.sizes ∙ sym p;
      waiters = ws;
      signallers = signallers;
      called_are = called_are;
      turn_is = turn-push h.events e ∙ (λ i. turn_by e (signallers i) (called_are i)) ∙ t;
      outside_are = outside_kept b d h e o.outside_are here off;
    }

positive : (n : ℕ) → 0 < n → false ≡ (n == 0)
positive n h = grind (arith, nat_tests)

zero_is : (n : ℕ) → n ≡ 0 → true ≡ (n == 0)
zero_is n h = sym (ap (λ v. v == 0) h)

no_data : (x : Unit {0}) → tt ≡ x
no_data x = refl

place_fits : (b : Contents) (h : Log) (k : ℕ) → IsOf b h → k < b.sizes.places → k < h.sizes.places
place_fits b h k o l = subst (λ (n : Sizes). k < n.places) (sym o.sizes) l

condition_fits : (b : Contents) (h : Log) (c : ℕ) → IsOf b h → c < b.sizes.conditions → c < h.sizes.conditions
condition_fits b h c o l = subst (λ (n : Sizes). c < n.conditions) (sym o.sizes) l

-- an event of a place that doesn't wait concerns no waiter if it takes none
waiters_apart : (b : Contents) (e : Act) → ((d j : ℕ) → takes d j e ≡ false) → times (place_of e) (places b.waiters) ≡ 0
    → spared e b.waiters ≡ b.waiters
waiters_apart b e none z =
    filter-apart (λ (w : Waiter). w.place) (place_of e) (λ (w : Waiter). not (concerns w.condition w.place e)) b.waiters
    (λ v apart. ap not (concerns-own e v.condition v.place (none v.condition v.place) ∙ apart)) z

signallers_apart : (b : Contents) (k : ℕ) → times k b.signallers ≡ 0
    → filter (λ u. not (k == u)) b.signallers ++ [] ≡ b.signallers
signallers_apart b k z = append-nil _ ∙ filter-others k b.signallers z

called_apart : (b : Contents) (k : ℕ) → times k (places b.called) ≡ 0
    → filter (λ x. not (k == place_of x)) (map wait_of b.called) ++ [] ≡ map wait_of b.called
called_apart b k z = append-nil _ ∙ filter-map wait_of (λ x. not (k == place_of x)) b.called
    ∙ ap (map wait_of)
    (filter-apart (λ (w : Waiter). w.place) k (λ (w : Waiter). not (k == w.place)) b.called (λ v t. ap not t) z)

-- an admission
pub admitted_of : (b : Contents) (k : ℕ) (h : Log) → Enters b k → IsOf b h
    → IsOf (admitted k b) (with_event h (Admit k tt))
admitted_of b k h i o =
    let act : Act = Admit k tt in
    let e : b.turn ≡ Free = i.free in
    let z : times_in k b ≡ 0 = i.outside in
    IsOf-push b (admitted k b) h act o refl
    (record {
      in_range = (place_fits b h k o i.place, tt);
      fits = (o.turn_is ∙ e, o.outside_are k ∙ sym (zero_is _ z), no_data _);
    })
    (waiters_kept b h act b.waiters (λ c. refl) (waiters_apart b act (λ d j. refl) (omega arith)) o)
    (signallers_apart b k (omega arith)) (called_apart b k (omega arith)) refl
    (positive _ (omega (arith, admitted_times b k k e, one_same k)))
    (λ j t. omega (arith, admitted_times b k j e, one_apart j k (eq_swap j k ∙ t)))

-- a wait
pub waited_of : (b : Contents) (w : Waiter) (ws : List Waiter) (h : Log) → PutsIn w b.waiters ws → Holds b w.place
    → w.condition < b.sizes.conditions → IsOf b h
    → IsOf (waited ws b) (with_event h (wait_of w))
waited_of b w ws h p i l o =
    let s : IsSound b = i.sound in
    let e : b.turn ≡ Held w.place = i.inside in
    let apart = holder_apart b w.place i in
    IsOf-push b (waited ws b) h (wait_of w) o refl
    (record {
      in_range = (place_fits b h w.place o (held_in_range b w.place s e), condition_fits b h w.condition o l);
      fits = o.turn_is ∙ e;
    })
    (waiters_joined b h w ws p (waiters_apart b (wait_of w) (λ d j. refl) apart.0) o)
    (signallers_apart b w.place apart.1) (called_apart b w.place apart.2) refl
    (positive _ (omega (arith, waited_times b w ws w.place p s e, held_hand b w.place e)))
    (λ j t. sym (waited_times b w ws j p s e))

-- a leave
pub left_of : (b : Contents) (k : ℕ) (h : Log) → Holds b k → IsOf b h → IsOf (left b) (with_event h (Leave k tt))
left_of b k h i o =
    let s : IsSound b = i.sound in
    let e : b.turn ≡ Held k = i.inside in
    let act : Act = Leave k tt in
    let apart = holder_apart b k i in
    IsOf-push b (left b) h act o refl
    (record { in_range = (place_fits b h k o (held_in_range b k s e), tt); fits = o.turn_is ∙ e })
    (waiters_kept b h act b.waiters (λ c. refl) (waiters_apart b act (λ d j. refl) apart.0) o)
    (signallers_apart b k apart.1) (called_apart b k apart.2) refl
    (zero_is _ (omega (arith, left_times b k k s e, s.once k, one_same k)))
    (λ j t. omega (arith, left_times b k j s e, one_apart j k (eq_swap j k ∙ t)))

-- the place that a signal resumed continues
pub owed_of : (b : Contents) (k c : ℕ) (h : Log) → IsSound b → b.turn ≡ Owed k c → c < hoare_of b → IsOf b h
    → IsOf (admitted k b) (with_event h (Resume k c tt))
owed_of b k c h s e l o =
    let act : Act = Resume k c tt in
    let apart = hand_apart b k s (owed_hand b k c e l) in
    IsOf-push b (admitted k b) h act o refl
    (record {
      in_range = (
        place_fits b h k o (owed_in_range b k c s e),
        condition_fits b h c o (owed_condition b k c s e),
      );
      fits = (o.turn_is ∙ e, no_data _);
    })
    (waiters_kept b h act b.waiters (λ d. refl) (waiters_apart b act (λ d j. refl) apart.0) o)
    (signallers_apart b k apart.1) (called_apart b k apart.2) refl
    (positive _ (omega (arith, owed_times b k c k e l, owed_hand b k c e l)))
    (λ j t. sym (owed_times b k c j e l))

-- removing the place of the first of the called removes the first alone
first_goes : (k c : ℕ) (vs : List Waiter) → IsCalledFirst k c vs → times k (places vs) ≤ 1
    → filter (λ x. not (k == place_of x)) (map wait_of vs) ≡ map wait_of (behind_first vs)
first_goes k c [] f l = absurd f
first_goes k c (w ∷ vs) f l =
    let e : (k == w.place) ≡ true = eq-eqb k w.place (sym f.0) in
    rw e (filter-map wait_of (λ x. not (k == place_of x)) vs
    ∙ ap (map wait_of)
    (filter-apart (λ (v : Waiter). v.place) k (λ (v : Waiter). not (k == v.place)) vs (λ v t. ap not t)
    (omega (arith, l, one_at k w.place e))))

-- the first of the called resumes
pub went_on_of : (b : Contents) (k c : ℕ) (h : Log) → IsSound b → b.turn ≡ Owed k c → hoare_of b ≤ c → IsOf b h
    → IsOf (went_on k b) (with_event h (Resume k c tt))
went_on_of b k c h s e l o =
    let act : Act = Resume k c tt in
    let first : IsCalledFirst k c b.called = owed_called b k c s e l in
    let count = called_times k k c b.called first in
    IsOf-push b (went_on k b) h act o refl
    (record {
      in_range = (
        place_fits b h k o (owed_in_range b k c s e),
        condition_fits b h c o (owed_condition b k c s e),
      );
      fits = (o.turn_is ∙ e, no_data _);
    })
    (waiters_kept b h act b.waiters (λ d. refl)
    (waiters_apart b act (λ d j. refl) (omega (arith, s.once k, one_same k, count))) o)
    (signallers_apart b k (omega (arith, s.once k, one_same k, count)))
    (append-nil _ ∙ first_goes k c b.called first (omega (arith, s.once k)))
    refl
    (positive _ (omega (arith, went_on_times b k c k s e l, one_same k, count)))
    (λ j t. sym (went_on_times b k c j s e l))

-- removing the first of a list removes it alone, if it isn't in the rest
front_goes : (k : ℕ) (us : List ℕ) → times k us ≡ 0 → filter (λ u. not (k == u)) (k ∷ us) ≡ us
front_goes k us z = rw (eq_self k) (filter-others k us z)

-- the first signaller returns
pub returned_of : (b : Contents) (k : ℕ) (h : Log) → IsSound b → b.turn ≡ Return k → IsOf b h
    → IsOf (returned k b) (with_event h (Back k tt))
returned_of b k h s e o =
    let act : Act = Back k tt in
    let rest : List ℕ = behind_first b.signallers in
    let front : b.signallers ≡ k ∷ rest = return_front b k s e in
    let count : times k b.signallers ≡ one k k + times k rest = ap (times k) front in
    IsOf-push b (returned k b) h act o refl
    (record { in_range = (place_fits b h k o (return_in_range b k s e), tt); fits = (o.turn_is ∙ e, no_data _) })
    (waiters_kept b h act b.waiters (λ d. refl)
    (waiters_apart b act (λ d j. refl) (omega (arith, s.once k, one_same k))) o)
    (append-nil _ ∙ ap (filter (λ u. not (k == u))) front ∙ front_goes k rest (omega (arith, s.once k, one_same k)))
    (called_apart b k (omega (arith, s.once k, one_same k))) refl
    (positive _ (omega (arith, returned_times b k k s e, return_in b k s e)))
    (λ j t. sym (returned_times b k j s e))

-- the first waiter on c is chosen
pub chosen-first_on : (b : Contents) (h : Log) (c : ℕ) → IsOf b h
    → chosen c h.events ≡ sorted.first_of (map wait_of (waiters_on c b))
unfolding chosen
chosen-first_on b h c o = law.chosen-first priority_of (waiting c h.events) ∙ ap sorted.first_of (sym (o.waiters c))

-- the waiter that is removed was chosen
pub chosen-taken : (b : Contents) (h : Log) (c w : ℕ) (ws : List Waiter) → IsOf b h → (t : Removes c b.waiters ws w)
    → IsFirst c t.before → chosen c h.events ≡ Some (wait_of t.first)
chosen-taken b h c w ws o t first =
    chosen-first_on b h c o ∙ ap (λ l. sorted.first_of (map wait_of l)) (filter-taken_on c b.waiters ws w t first)

-- if no process waits, none is chosen
pub chosen-nobody : (b : Contents) (h : Log) (c : ℕ) → IsOf b h → waiters_on c b ≡ [] → chosen c h.events ≡ None
chosen-nobody b h c o e = chosen-first_on b h c o ∙ ap (λ l. sorted.first_of (map wait_of l)) e

-- what a pass adds if the flag is true, else what a signal adds
abbrev pub after_handing : Bool → Log → ℕ → ℕ → Option Act → Log
after_handing true = after_pass
after_handing false = after_signal

-- a signal or a pass hands the monitor off to the chosen waiter
pub after_handing-some : {D : Type 0} (out : Bool) (h : Log) (k c w : ℕ) (e : Act) (s : D) → place_of e ≡ w
    → after_handing out h k c (Some e) ≡ with_event h (without_data (handing (hand_of out) k c w s))
after_handing-some true h k c w e s is = ap (λ j. with_event h (Pass k c j tt)) is
after_handing-some false h k c w e s is = ap (λ j. with_event h (Signal k c j tt)) is

-- the wait of w is the first of its waits in the book
pub wait_by-is : (b : Contents) (h : Log) (c w : ℕ) → IsOf b h
    → wait_by w c h.events ≡ sorted.first_of (map wait_of (waits_of w c b))
unfolding wait_by
wait_by-is b h c w o =
    let test : Act → Bool = λ e. place_of e == w in
    let short : length (filter test (waiting c h.events)) ≤ 1 =
    subst (λ (l : List Act). length l ≤ 1)
    (filter_agree (λ e. w == place_of e) test (λ e. eq_swap w (place_of e)) (waiting c h.events))
    (waiting-once c w h.events) in
    find-filter test (waiting c h.events)
    ∙ ap sorted.first_of (sym (in_order-short priority_of (filter test (waiting c h.events)) short)
    ∙ in_order-filter priority_of test (waiting c h.events)
    ∙ ap (filter test) (sym (o.waiters c))
    ∙ filter-map wait_of test (waiters_on c b))

-- a waiter that is removed is among the waits of its place
pub waits_of-taken : (c w : ℕ) (old ws : List Waiter) → Removes c old ws w
    → (x : Waiter) × (xs : List Waiter)
    × (filter (λ (v : Waiter). v.place == w) (filter (on c) old) ≡ x ∷ xs)
waits_of-taken c w old ws t = by (kept t.before) (is ∙ here)
  where
    named : Waiter → Bool
    named v = v.place == w

    kept : List Waiter → List Waiter
    kept vs = filter named (filter (on c) vs)

    is : kept old ≡ kept t.before ++ kept (t.first ∷ t.after)
    is = ap kept t.was
        ∙ ap (filter named) (filter-append (on c) t.before (t.first ∷ t.after))
        ∙ filter-append named (filter (on c) t.before) (filter (on c) (t.first ∷ t.after))

    here : kept t.before ++ kept (t.first ∷ t.after) ≡ kept t.before ++ t.first ∷ kept t.after
    here =
        let there : on c t.first ≡ true = ap (λ d. d == c) t.on ∙ eq_self c in
        let it : named t.first ≡ true = ap (λ j. j == w) t.place ∙ eq_self w in
        ap (λ l. kept t.before ++ l)
        (ap (λ b. filter named (cond b (t.first ∷ filter (on c) t.after) (filter (on c) t.after))) there
        ∙ ap (λ b. cond b (t.first ∷ kept t.after) (kept t.after)) it)

    by : (vs : List Waiter) → kept old ≡ vs ++ t.first ∷ kept t.after
        → (x : Waiter) × (xs : List Waiter) × (kept old ≡ x ∷ xs)
    by [] e = (t.first, kept t.after, e)
    by (v ∷ vs) e = (v, vs ++ t.first ∷ kept t.after, e)

-- a signal to a place that doesn't wait there adds nothing
pub after_signal_to-nobody : (b : Contents) (k c w : ℕ) (h : Log) → waits_of w c b ≡ [] → IsOf b h
    → IsOf b (after_signal_to h k c w (wait_by w c h.events))
after_signal_to-nobody b k c w h none o =
    subst (λ (y : Option Act). IsOf b (after_signal_to h k c w y))
    (sym (wait_by-is b h c w o ∙ ap (λ vs. sorted.first_of (map wait_of vs)) none)) o

-- a place waits on a condition exactly if it has a wait in the book
pub waits_of-waiting : (b : Contents) (h : Log) (c w : ℕ) → IsOf b h → IsWaiting c h.events w ↔ (waits_of w c b ≢ [])
waits_of-waiting b h c w o = (
  (λ waits none.
      let r = waiting-wait_by c w h.events waits in
      let no : None ≡ Some r.0 =
      sym (wait_by-is b h c w o ∙ ap (λ vs. sorted.first_of (map wait_of vs)) none) ∙ r.1 in absurd (cc)),
  λ some. by (waits_of w c b) refl some,
)
  where
    by : (vs : List Waiter) → waits_of w c b ≡ vs → (waits_of w c b ≢ []) → IsWaiting c h.events w
    by [] is some = absurd (some is)
    by (v ∷ vs) is some =
        IsWaiting-by c w h.events (wait_of v)
        (wait_by-is b h c w o ∙ ap (λ l. sorted.first_of (map wait_of l)) is)

chooses : (b : Contents) (h : Log) (c w : ℕ) (ws : List Waiter) → IsOf b h → (t : Removes c b.waiters ws w)
    → IsFirst c t.before → Chooses c h.events w
unfolding Chooses
chooses b h c w ws o t first =
    subst (λ (x : Option Act). IsSomeAnd x (λ e. place_of e ≡ w)) (sym (chosen-taken b h c w ws o t first)) t.place

taken_in_range : (b : Contents) (c w : ℕ) (ws : List Waiter) → IsSound b → Removes c b.waiters ws w
    → w < b.sizes.places
taken_in_range b c w ws s t = s.in_range w (omega (arith, times-taken w c b.waiters ws w t, one_same w))

hoare_fits : (b : Contents) (h : Log) (c : ℕ) → IsOf b h → c < hoare_of b → IsHoare h.sizes.conditions h.sizes.mesa c
hoare_fits b h c o l = subst (λ (n : Sizes). IsHoare n.conditions n.mesa c) (sym o.sizes) (omega (arith, l))

mesa_fits : (b : Contents) (h : Log) (c : ℕ) → IsOf b h → IsMesa b.sizes.conditions b.sizes.mesa c
    → IsMesa h.sizes.conditions h.sizes.mesa c
mesa_fits b h c o m = subst (λ (n : Sizes). IsMesa n.conditions n.mesa c) (sym o.sizes) m

module _ (b : Contents) (k c w : ℕ) (ws : List Waiter) (r : Resumes b k c w ws) (h : Log) (o : IsOf b h) where
  -- the signaller, the condition and the resumed place are in range
  ranges : (k < h.sizes.places) × ((c < h.sizes.conditions) × (w < h.sizes.places))
  ranges = (
    place_fits b h k o (held_in_range b k r.by.sound r.by.inside),
    (condition_fits b h c o r.fits, place_fits b h w o (taken_in_range b c w ws r.by.sound r.took)),
  )

  -- the waiters after both places acted
  waiters_left : filter (λ (v : Waiter). not (k == v.place || w == v.place)) b.waiters ≡ ws
  waiters_left = filter-taken k c b.waiters ws w r.took (holder_apart b k r.by).0 (omega (arith, r.by.sound.once w))

  -- k hands the monitor off to the resumed place, and is among the signallers unless the signal is its last act
  handed_of : c < hoare_of b → IsFirst c r.took.before → (out : Bool)
      → IsOf (resumed ws (cond out b.signallers (b.signallers ++ k ∷ [])) w c b)
      (with_event h (without_data (handing {S = Unit {0}} (hand_of out) k c w tt)))
  handed_of l first true =
      IsOf-push b (resumed ws b.signallers w c b) h (Pass k c w tt) o refl
      (record {
        in_range = ranges;
        fits = (o.turn_is ∙ r.by.inside, chooses b h c w ws o r.took first, hoare_fits b h c o l);
      })
      (waiters_kept b h (Pass k c w tt) ws (λ d. refl) waiters_left o)
      (signallers_apart b k (holder_apart b k r.by).1) (called_apart b k (holder_apart b k r.by).2) refl
      (zero_is _ (omega (arith, passed_times b k c w k ws r l, r.by.sound.once k, one_same k)))
      (λ j q. omega (arith, passed_times b k c w j ws r l, one_apart j k (eq_swap j k ∙ q)))
  handed_of l first false =
      IsOf-push b (resumed ws (b.signallers ++ k ∷ []) w c b) h (Signal k c w tt) o refl
      (record {
        in_range = ranges;
        fits = (o.turn_is ∙ r.by.inside, chooses b h c w ws o r.took first, hoare_fits b h c o l);
      })
      (waiters_kept b h (Signal k c w tt) ws (λ d. refl) waiters_left o)
      (ap (λ l. l ++ k ∷ []) (filter-others k b.signallers (holder_apart b k r.by).1))
      (called_apart b k (holder_apart b k r.by).2) refl
      (positive _ (omega (arith, signalled_times b k c w k ws r l, held_hand b k r.by.inside)))
      (λ j q. sym (signalled_times b k c w j ws r l))

  -- k signals to w, and is among the signallers
  named_of : c < hoare_of b → IsOf (resumed ws (b.signallers ++ k ∷ []) w c b) (with_event h (SignalTo k c w tt))
  named_of l =
      let x = waits_of-taken c w b.waiters ws r.took in
      IsOf-push b (resumed ws (b.signallers ++ k ∷ []) w c b) h (SignalTo k c w tt) o refl
      (record {
        in_range = ranges;
        fits = (
          o.turn_is ∙ r.by.inside,
          IsWaiting-by c w h.events (wait_of x.0)
              (wait_by-is b h c w o ∙ ap (λ vs. sorted.first_of (map wait_of vs)) x.2),
          hoare_fits b h c o l,
        );
      })
      (waiters_kept b h (SignalTo k c w tt) ws (λ d. refl) waiters_left o)
      (ap (λ l. l ++ k ∷ []) (filter-others k b.signallers (holder_apart b k r.by).1))
      (called_apart b k (holder_apart b k r.by).2) refl
      (positive _ (omega (arith, signalled_times b k c w k ws r l, held_hand b k r.by.inside)))
      (λ j q. sym (signalled_times b k c w j ws r l))

  -- what a signal to w adds if w is removed
  pub after_signal_to-taken : c < hoare_of b
      → IsOf (resumed ws (b.signallers ++ k ∷ []) w c b) (after_signal_to h k c w (wait_by w c h.events))
  after_signal_to-taken l =
      let x = waits_of-taken c w b.waiters ws r.took in
      subst (IsOf _)
      (sym (ap (after_signal_to h k c w)
      (wait_by-is b h c w o ∙ ap (λ vs. sorted.first_of (map wait_of vs)) x.2)))
      (named_of l)

  -- what a signal or a pass adds if a waiter is removed
  pub after_handing-taken : c < hoare_of b → IsFirst c r.took.before → (out : Bool)
      → IsOf (resumed ws (cond out b.signallers (b.signallers ++ k ∷ [])) w c b)
      (after_handing out h k c (chosen c h.events))
  after_handing-taken l first out = subst (IsOf _)
      (sym (ap (after_handing out h k c) (chosen-taken b h c w ws o r.took first)
      ∙ after_handing-some out h k c w (wait_of r.took.first) tt r.took.place))
      (handed_of l first out)

  -- k notifies the waiter that it removes
  notified_of : IsMesa b.sizes.conditions b.sizes.mesa c → IsFirst c r.took.before
      → IsOf (told ws (b.called ++ r.took.first ∷ []) b) (with_event h (Notify k c w tt))
  notified_of m first =
      let x : Act = wait_of r.took.first in
      let one : called_by h.events (Notify k c w tt) ≡ x ∷ [] =
      ap (λ j. called_by h.events (Notify k c j tt)) (sym r.took.place)
      ∙ called_by-notify h.events k c x tt (chosen-taken b h c w ws o r.took first) in
      IsOf-push b (told ws (b.called ++ r.took.first ∷ []) b) h (Notify k c w tt) o refl
      (record {
        in_range = ranges;
        fits = (o.turn_is ∙ r.by.inside, chooses b h c w ws o r.took first, mesa_fits b h c o m);
      })
      (waiters_kept b h (Notify k c w tt) ws (λ d. refl) waiters_left o)
      (signallers_apart b k (holder_apart b k r.by).1)
      ((λ i. stay i ++ one i) ∙ sym (map-append wait_of b.called (r.took.first ∷ [])))
      (sym r.by.inside)
      (positive _ (omega (arith, notified_times b k c w k ws r, held_hand b k r.by.inside)))
      (λ j q. sym (notified_times b k c w j ws r))
    where
      stay : filter (λ x. not (k == place_of x)) (map wait_of b.called) ≡ map wait_of b.called
      stay = sym (append-nil _) ∙ called_apart b k (holder_apart b k r.by).2

  pub after_notify-taken : IsMesa b.sizes.conditions b.sizes.mesa c → IsFirst c r.took.before
      → IsOf (told ws (b.called ++ r.took.first ∷ []) b) (after_notify h k c (chosen c h.events))
  after_notify-taken m first = subst (IsOf _)
      (sym (ap (after_notify h k c) (chosen-taken b h c w ws o r.took first)
      ∙ ap (λ j. with_event h (Notify k c j tt)) r.took.place))
      (notified_of m first)

-- if no process waits, a notify adds nothing
pub after_notify-nobody : (b : Contents) (k c : ℕ) (h : Log) → waiters_on c b ≡ [] → IsOf b h
    → IsOf b (after_notify h k c (chosen c h.events))
after_notify-nobody b k c h n o =
    subst (λ (y : Option Act). IsOf b (after_notify h k c y)) (sym (chosen-nobody b h c o n)) o

-- k notifies all waiters on c

module _ (b : Contents) (k c : ℕ) (ws : List Waiter) (i : Holds b k) (m : IsMesa b.sizes.conditions b.sizes.mesa c)
    (t : TakesAll c b.waiters ws) (h : Log) (o : IsOf b h) where
  stay_called : filter (λ x. not (k == place_of x)) (map wait_of b.called) ≡ map wait_of b.called
  stay_called = sym (append-nil _) ∙ called_apart b k (holder_apart b k i).2

  -- the waiters on other conditions remain
  others_left : spared (Broadcast k c tt) b.waiters ≡ ws
  others_left =
      filter-or (λ (w : Waiter). k == w.place) (λ (w : Waiter). c == w.condition) b.waiters
      (list_all-apart (λ (v : Waiter). v.place) k (λ (v : Waiter). not (k == v.place)) b.waiters (λ v t. ap not t)
      (holder_apart b k i).0)
      ∙ filter_agree (λ (w : Waiter). not (c == w.condition)) (λ (w : Waiter). not (w.condition == c))
      (λ w. ap not (eq_swap c w.condition)) b.waiters
      ∙ sym t.is

  broadcast_of : waiting c h.events ≢ []
      → IsOf (told ws (b.called ++ waiters_on c b) b) (with_event h (Broadcast k c tt))
  broadcast_of some =
      let s : IsSound b = i.sound in
      IsOf-push b (told ws (b.called ++ waiters_on c b) b) h (Broadcast k c tt) o refl
      (record {
        in_range = (place_fits b h k o (held_in_range b k s i.inside), condition_fits b h c o m.0);
        fits = (o.turn_is ∙ i.inside, some, mesa_fits b h c o m);
      })
      (waiters_kept b h (Broadcast k c tt) ws (λ d. refl) others_left o)
      (signallers_apart b k (holder_apart b k i).1)
      ((λ j. stay_called j ++ sym (o.waiters c) j) ∙ sym (map-append wait_of b.called (waiters_on c b)))
      (sym i.inside)
      (positive _ (omega (arith, broadcast_times b c k ws t, held_hand b k i.inside)))
      (λ j q. sym (broadcast_times b c j ws t))

  pub after_broadcast-taken : IsOf (told ws (b.called ++ waiters_on c b) b) (after_broadcast h k c (waiting c h.events))
  after_broadcast-taken = by (waiting c h.events) refl
    where
      by : (xs : List Act) → waiting c h.events ≡ xs
          → IsOf (told ws (b.called ++ waiters_on c b) b) (after_broadcast h k c xs)
      by (x ∷ xs) is = broadcast_of (λ none. let no : x ∷ xs ≡ [] = sym is ∙ none in cc)
      by [] is =
          let none : waiters_on c b ≡ [] =
          map-none wait_of (waiters_on c b) (o.waiters c ∙ ap (in_order priority_of) is) in
          let same : ws ≡ b.waiters =
          t.is ∙ filter-all (λ w. not (on c w)) b.waiters (list_all-filter_none (on c) b.waiters none) in
          let is_called : b.called ++ waiters_on c b ≡ b.called = ap (λ l. b.called ++ l) none ∙ append-nil _ in
          IsOf-same b _ h (λ j. told (sym same j) (sym is_called j) b) o

-- what a signal or a pass adds if no process waits
pub after_handing-nobody : (out : Bool) (b d : Contents) (k c : ℕ) (h : Log) → waiters_on c b ≡ [] → IsOf b h
    → IsOf d (after_handing out h k c None)
    → IsOf d (after_handing out h k c (chosen c h.events))
after_handing-nobody out b d k c h n o x =
    subst (λ (y : Option Act). IsOf d (after_handing out h k c y)) (sym (chosen-nobody b h c o n)) x

-- the place to which the monitor is owed resumes

settles : (b d : Contents) (h : Log) (t : Turn) → b.turn ≡ t → IsOf b h → IsOf d (after_claim h t) → IsOf d (settled h)
settles b d h t e o x = subst (λ (u : Turn). IsOf d (after_claim h u)) (sym (o.turn_is ∙ e)) x

-- the claim of a place that was resumed, that was notified, or that returns
pub claimed_of : (t : Turn) (b : Contents) (k : ℕ) (h : Log) → b.turn ≡ t → next_of t ≡ next.For k → IsSound b
    → IsOf b h → IsOf (claimed (chain_of t (hoare_of b)) k b) (settled h)
claimed_of Free b k h e n s o = absurd (cc)
claimed_of (Held j) b k h e n s o = absurd (cc)
claimed_of (Owed j c) b k h e n s o =
    let q : j ≡ k = cc in subst (λ (i : ℕ). IsOf (claimed (chain_of (Owed j c) (hoare_of b)) i b) (settled h)) q
    (elim (cases_lt c (hoare_of b)) [
      | inl l ↦ let f : nat_lt c (hoare_of b) ≡ true = grind (arith, nat_tests) in
          rw f (settles b (admitted j b) h (Owed j c) e o (owed_of b j c h s e l o))
      | inr l ↦ let f : nat_lt c (hoare_of b) ≡ false = grind (arith, nat_tests) in
          rw f (settles b (went_on j b) h (Owed j c) e o (went_on_of b j c h s e l o))
    ])
claimed_of (Return j) b k h e n s o =
    let q : j ≡ k = cc in
    subst (λ (i : ℕ). IsOf (returned i b) (settled h)) q
    (settles b (returned j b) h (Return j) e o (returned_of b j h s e o))

-- the result r is true exactly if place k is outside, by the book and by each of its histories
pub record SaysOutside (b : Contents) (k : ℕ) (r : Bool) : Type 0 where
  pub nowhere : r ≡ (times_in k b == 0)
  pub of : (h : Log) → IsOf b h → r ≡ outside k h.events

-- it follows from the counts of an equal book
pub outside-by_times : {b d : Contents} (k : ℕ) {r : Bool} → b ≡ d → r ≡ (times_in k b == 0) → SaysOutside d k r
outside-by_times {d = d} k {r = r} e q =
    let m : r ≡ (times_in k d == 0) = q ∙ ap (λ (v : Contents). times_in k v == 0) e in
    record { nowhere = m; of = λ h o. m ∙ sym (o.outside_are k) }

-- a place that is outside by the history is nowhere in the book
pub times_in-outside : (b : Contents) (k : ℕ) (h : Log) → IsOf b h → outside k h.events ≡ true → times_in k b ≡ 0
times_in-outside b k h o e = eqb-true (times_in k b) 0 (sym (o.outside_are k) ∙ e)
