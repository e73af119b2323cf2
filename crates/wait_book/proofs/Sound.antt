-- What keeps a book sound.
use Rattle.std.proofs.Common.{◌≡◌, ◌==◌, ℕ, ◌+◌, ◌-◌, ◌≤◌, ◌<◌, Bool, true, false, cond, not, ◌||◌, ◌⊎◌, inl, inr}
use Rattle.std.proofs.Common.{⊎_elim, eqb, eqb-true, List, [], ◌∷◌, ◌++◌, length, map, Option, Some, None, refl, ap}
use Rattle.std.proofs.Common.{sym, ◌∙◌, subst, arith}
use Rattle.std.specs.Prelude.{All, nat_lt}
use Rattle.std.specs.List.{filter}
use Rattle.std.proofs.lemmas.Bool.{cases_lt}
use Rattle.std.proofs.lemmas.Bool.Decides.{nat_tests}
use Rattle.std.proofs.lemmas.List.{length-map, length-append}
use Rattle.std.proofs.lemmas.List.Elements.{All-nil, All-cons, All-head, All-tail, All-weaker}
use Rattle.hoare_law.specs.declared.event.Sizes.{Sizes}
use Rattle.hoare_law.specs.declared.turn.Turn.{Turn}
use Rattle.hoare_law.specs.declared.turn.Turn.TheVariants.{Free, Held, Owed, Return}
use Rattle.hoare_law.specs.Sizes.{IsHoare, IsMesa}
use Rattle.hoare_law.specs.Turns.{turn_given_up}
use Rattle.hoare_law.specs.Priorities.{put_in, in_order, behind_first}
use Rattle.hoare_law.proofs.Filters.{filter-filter}
use Rattle.hoare_law.proofs.Sorted.{in_order-put_in, in_order-filtered}
use Rattle.wait_book.specs.declared.book.TheConstants.{MOST_CONDITIONS, MOST_PLACES}
use Rattle.wait_book.specs.declared.chains.TheConstants.{SIGNALLERS}
use Rattle.wait_book.specs.declared.waiter.Waiter.{Waiter}
use Rattle.wait_book.specs.Contents.{Contents, SameSizes, hoare_of, next_of, one, times, times_in, times_in_hand}
use Rattle.wait_book.specs.Contents.{wait_of, waiters_on}
use Rattle.wait_book.specs.declared.steps.Next.TheVariants as next
use Rattle.wait_book.specs.Insides.{IsCalledFirst, IsSound, IsTurnBeside, chain_of}
use Rattle.wait_book.specs.Queues.{PutsIn, TakesAll, Removes}
use Rattle.wait_book.proofs.Times.{one_same, one_apart, one_le, times-append, few_once}
use Rattle.wait_book.proofs.Waiters.{on, places, key, times-places, times-taken, filter-taken, filter-taken_off}

-- the contents after each call

-- place k enters, or resumes
abbrev pub admitted : ℕ → Contents → Contents
admitted k b = record b { turn = Held k }

-- the place inside waits; the waiters are then ws
abbrev pub waited : List Waiter → Contents → Contents
waited ws b = record b { waiters = ws; turn = turn_given_up b.signallers (map wait_of b.called) }

-- the place inside leaves
abbrev pub left : Contents → Contents
left b = record b { turn = turn_given_up b.signallers (map wait_of b.called) }

-- place w is resumed on c; the waiters and the signallers are then ws and us
abbrev pub resumed : List Waiter → List ℕ → ℕ → ℕ → Contents → Contents
resumed ws us w c b = record b { waiters = ws; signallers = us; turn = Owed w c }

-- the first signaller, k, returns
abbrev pub returned : ℕ → Contents → Contents
returned k b = record b { signallers = behind_first b.signallers; turn = Held k }

-- the first of the called, k, resumes
abbrev pub went_on : ℕ → Contents → Contents
went_on k b = record b { called = behind_first b.called; turn = Held k }

-- the place inside notified waiters; the waiters and the called are then ws and vs
abbrev pub told : List Waiter → List Waiter → Contents → Contents
told ws vs b = record b { waiters = ws; called = vs }

-- kinds of conditions

pub hoare_below : (n m c : ℕ) → IsHoare n m c → c < n - m
hoare_below n m c h = omega (arith, h)

pub mesa_past : (n m c : ℕ) → IsMesa n m c → n - m ≤ c
mesa_past n m c h = omega (arith, h.0, h.1)

-- a place that a signal resumed has the turn by hand, and a notified place doesn't
pub hand_hoare : (j k c m : ℕ) → c < m → times_in_hand j m (Owed k c) ≡ one j k
hand_hoare j k c m l = let e : nat_lt c m ≡ true = grind (arith, nat_tests) in rw e refl

pub hand_mesa : (j k c m : ℕ) → m ≤ c → times_in_hand j m (Owed k c) ≡ 0
hand_mesa j k c m l = let e : nat_lt c m ≡ false = grind (arith, nat_tests) in rw e refl

-- whose turn it is

-- the called waited on conditions after the first m, which are Hoare's
abbrev ArePast : ℕ → List Waiter → Type 0
ArePast m vs = All (λ (w : Waiter). m ≤ w.condition) vs

are_past : (b : Contents) → IsSound b → ArePast (hoare_of b) b.called
are_past b s =
    All-weaker (λ (w : Waiter). IsMesa b.sizes.conditions b.sizes.mesa w.condition)
    (λ (w : Waiter). hoare_of b ≤ w.condition)
    (λ w h. mesa_past b.sizes.conditions b.sizes.mesa w.condition h) b.called s.on_mesa

-- after a release no place has the turn by hand
given_up_hand : (k m : ℕ) (us : List ℕ) (vs : List Waiter) → ArePast m vs
    → times_in_hand k m (turn_given_up us (map wait_of vs)) ≡ 0
given_up_hand k m [] [] a = refl
given_up_hand k m [] (v ∷ vs) a = hand_mesa k v.place v.condition m (All-head (λ (w : Waiter). m ≤ w.condition) v vs a)
given_up_hand k m (u ∷ us) vs a = refl

-- the turn after a release agrees with the signallers and the called
given_up_fits : (us : List ℕ) (vs : List Waiter) (m : ℕ) → IsTurnBeside us vs m (turn_given_up us (map wait_of vs))
given_up_fits [] [] m = refl
given_up_fits [] (v ∷ vs) m = inr (refl, refl)
given_up_fits (u ∷ us) vs m = refl

-- a known turn says which place has it by hand
pub hand_of : (j : ℕ) (b : Contents) (t : Turn) → b.turn ≡ t
    → times_in_hand j (hoare_of b) b.turn ≡ times_in_hand j (hoare_of b) t
hand_of j b t e = ap (times_in_hand j (hoare_of b)) e

-- a place that is inside or was resumed is in no list
pub hand_apart : (b : Contents) (k : ℕ) → IsSound b → times_in_hand k (hoare_of b) b.turn ≡ 1
    → (times k (places b.waiters) ≡ 0) × (times k b.signallers ≡ 0) × (times k (places b.called) ≡ 0)
hand_apart b k s e = (omega (arith, s.once k), omega (arith, s.once k), omega (arith, s.once k))

-- a place that is inside has the turn by hand
pub held_hand : (b : Contents) (k : ℕ) → b.turn ≡ Held k → times_in_hand k (hoare_of b) b.turn ≡ 1
held_hand b k e = hand_of k b (Held k) e ∙ one_same k

-- a place that a signal resumed has the turn by hand
pub owed_hand : (b : Contents) (k c : ℕ) → b.turn ≡ Owed k c → c < hoare_of b → times_in_hand k (hoare_of b) b.turn ≡ 1
owed_hand b k c e l = hand_of k b (Owed k c) e ∙ hand_hoare k k c (hoare_of b) l ∙ one_same k

-- a place that has the turn by hand is in range
pub hand_in_range : (b : Contents) (k : ℕ) → IsSound b → times_in_hand k (hoare_of b) b.turn ≡ 1 → k < b.sizes.places
hand_in_range b k s e = s.in_range k (omega arith)

front_of : (us : List ℕ) (vs : List Waiter) (m k : ℕ) → IsTurnBeside us vs m (Return k) → us ≡ k ∷ behind_first us
front_of [] vs m k h = absurd h
front_of (u ∷ us) vs m k h = ap (λ v. v ∷ us) h

-- a place that returns is the first signaller
pub return_front : (b : Contents) (k : ℕ) → IsSound b → b.turn ≡ Return k → b.signallers ≡ k ∷ behind_first b.signallers
return_front b k s e =
    front_of b.signallers b.called (hoare_of b) k
    (subst (λ (t : Turn). IsTurnBeside b.signallers b.called (hoare_of b) t) e s.turn_fits)

-- a place that is owed the monitor was resumed from one of Hoare's conditions, or is the first of the called
pub owed_cases : (b : Contents) (k c : ℕ) → IsSound b → b.turn ≡ Owed k c
    → (c < hoare_of b) ⊎ IsCalledFirst k c b.called
owed_cases b k c s e = subst (λ (t : Turn). IsTurnBeside b.signallers b.called (hoare_of b) t) e s.turn_fits

-- it is the first of the called if the condition is a Mesa condition
pub owed_called : (b : Contents) (k c : ℕ) → IsSound b → b.turn ≡ Owed k c → hoare_of b ≤ c → IsCalledFirst k c b.called
owed_called b k c s e l = ⊎_elim (λ h. absurd (omega (arith, h, l))) (λ f. f) (owed_cases b k c s e)

-- how often a place is among the called, if k is the first of them
pub called_times : (j k c : ℕ) (vs : List Waiter) → IsCalledFirst k c vs
    → times j (places vs) ≡ one j k + times j (places (behind_first vs))
called_times j k c [] f = absurd f
called_times j k c (w ∷ vs) f = ap (λ p. one j p + times j (places vs)) f.0

called_condition : (n m k c : ℕ) (vs : List Waiter) → All (λ (w : Waiter). IsMesa n m w.condition) vs
    → IsCalledFirst k c vs → c < n
called_condition n m k c [] a f = absurd f
called_condition n m k c (w ∷ vs) a f =
    subst (λ d. d < n) f.1 (All-head (λ (v : Waiter). IsMesa n m v.condition) w vs a).0

All-behind : (P : Waiter → Type 0) (vs : List Waiter) → All P vs → All P (behind_first vs)
All-behind P [] a = a
All-behind P (w ∷ vs) a = All-tail P w vs a

-- how often a place is among the signallers, if the first of them returns
return_times : (b : Contents) (k j : ℕ) → IsSound b → b.turn ≡ Return k
    → times j b.signallers ≡ one j k + times j (behind_first b.signallers)
return_times b k j s e = ap (times j) (return_front b k s e)

-- a place that returns is in the book
pub return_in : (b : Contents) (k : ℕ) → IsSound b → b.turn ≡ Return k → 0 < times_in k b
return_in b k s e = omega (arith, return_times b k k s e, one_same k)

-- a place that is owed the monitor is in range
pub owed_in_range : (b : Contents) (k c : ℕ) → IsSound b → b.turn ≡ Owed k c → k < b.sizes.places
owed_in_range b k c s e = ⊎_elim (λ l. hand_in_range b k s (owed_hand b k c e l))
    (λ f. s.in_range k (omega (arith, called_times k k c b.called f, one_same k))) (owed_cases b k c s e)

-- a place that is inside is in range
pub held_in_range : (b : Contents) (k : ℕ) → IsSound b → b.turn ≡ Held k → k < b.sizes.places
held_in_range b k s e = hand_in_range b k s (held_hand b k e)

-- a place that returns is in range
pub return_in_range : (b : Contents) (k : ℕ) → IsSound b → b.turn ≡ Return k → k < b.sizes.places
return_in_range b k s e = s.in_range k (return_in b k s e)

-- the condition of a place that is owed the monitor is the book's
pub owed_condition : (b : Contents) (k c : ℕ) → IsSound b → b.turn ≡ Owed k c → c < b.sizes.conditions
owed_condition b k c s e =
    ⊎_elim (λ l. omega (arith, l)) (called_condition b.sizes.conditions b.sizes.mesa k c b.called s.on_mesa)
    (owed_cases b k c s e)

-- what a call by the place inside knows

-- a condition of an equal book is the book's
pub same_condition : (b d : Contents) (c : ℕ) → b ≡ d → c < d.sizes.conditions → c < b.sizes.conditions
same_condition b d c e h = subst (λ (v : Contents). c < v.sizes.conditions) (sym e) h

-- Hoare's conditions of an equal book are Hoare's conditions of the book
pub same_hoare : (b d : Contents) (c : ℕ) → b ≡ d → IsHoare d.sizes.conditions d.sizes.mesa c → c < hoare_of b
same_hoare b d c e h =
    subst (λ (v : Contents). c < hoare_of v) (sym e) (hoare_below d.sizes.conditions d.sizes.mesa c h)

-- one of Hoare's conditions has a chain
pub hoare_chain : (b d : Contents) (c : ℕ) → b ≡ d → IsHoare d.sizes.conditions d.sizes.mesa c → IsSound b
    → c < MOST_CONDITIONS
hoare_chain b d c e h s = omega (arith, same_condition b d c e (omega (arith, h)), s.few_conditions)

pub mesa_chain : (b : Contents) (c : ℕ) → IsMesa b.sizes.conditions b.sizes.mesa c → IsSound b → c < MOST_CONDITIONS
mesa_chain b c m s = omega (arith, m.0, s.few_conditions)

pub same_mesa : (b d : Contents) (c : ℕ) → b ≡ d → IsMesa d.sizes.conditions d.sizes.mesa c
    → IsMesa b.sizes.conditions b.sizes.mesa c
same_mesa b d c e h = subst (λ (v : Contents). IsMesa v.sizes.conditions v.sizes.mesa c) (sym e) h

-- a sound book, with place k inside
pub record Holds (b : Contents) (k : ℕ) : Type 0 where
  pub sound : IsSound b
  pub inside : b.turn ≡ Held k

-- it follows from what a call requires
pub holds : {b d : Contents} {k : ℕ} → b ≡ d → IsSound b → d.turn ≡ Held k → Holds b k
holds e s h = record { sound = s; inside = ap (λ (v : Contents). v.turn) e ∙ h }

-- place k is inside, and w, the first of the waiters on c, is removed from them, which leaves ws
pub record Resumes (b : Contents) (k c w : ℕ) (ws : List Waiter) : Type 0 where
  pub by : Holds b k
  pub fits : c < b.sizes.conditions
  pub took : Removes c b.waiters ws w

-- it follows from what a call requires, and from the removal of the first
abbrev pub resumes : {b d : Contents} {k c w : ℕ} {ws : List Waiter} → b ≡ d → IsSound b → d.turn ≡ Held k
    → c < d.sizes.conditions → Removes c b.waiters ws w → Resumes b k c w ws
resumes {b = b} {c = c} e s h l t = record { by = holds e s h; fits = same_condition b _ c e l; took = t }

-- the place inside is in no list
pub holder_apart : (b : Contents) (k : ℕ) → Holds b k
    → (times k (places b.waiters) ≡ 0) × (times k b.signallers ≡ 0) × (times k (places b.called) ≡ 0)
holder_apart b k o = hand_apart b k o.sound (held_hand b k o.inside)

-- the place inside doesn't wait in an equal book
pub apart_same : {b d : Contents} {k : ℕ} → b ≡ d → IsSound b → d.turn ≡ Held k → times k (places d.waiters) ≡ 0
apart_same {b = b} {k = k} e s h =
    subst (λ (v : Contents). times k (places v.waiters) ≡ 0) e (holder_apart b k (holds e s h)).0

-- what an entering place knows: the book is sound, the monitor is free, and k is a place that is nowhere in the book
pub record Enters (b : Contents) (k : ℕ) : Type 0 where
  pub sound : IsSound b
  pub free : b.turn ≡ Free
  pub place : k < b.sizes.places
  pub outside : times_in k b ≡ 0

-- it follows from what a call requires
pub enters : {b d : Contents} {k : ℕ} → b ≡ d → IsSound b → d.turn ≡ Free → k < d.sizes.places → times_in k d ≡ 0
    → Enters b k
enters {k = k} e s f l z = record {
  sound = s;
  free = ap (λ (v : Contents). v.turn) e ∙ f;
  place = subst (λ (v : Contents). k < v.sizes.places) (sym e) l;
  outside = ap (times_in k) e ∙ z;
}

-- a book with the same sizes in which each place is at most as often

sound_fewer : (b d : Contents) → IsSound b → SameSizes b d → ((k : ℕ) → times_in k d ≤ times_in k b)
    → ((c : ℕ) → b.sizes.conditions ≤ c → waiters_on c d ≡ [])
    → ((c : ℕ) → in_order key (waiters_on c d) ≡ waiters_on c d)
    → All (λ (w : Waiter). IsMesa d.sizes.conditions d.sizes.mesa w.condition) d.called
    → IsTurnBeside d.signallers d.called (hoare_of d) d.turn → IsSound d
sound_fewer b d s e o a r m t = record {
  some_places = subst (λ (n : Sizes). 0 < n.places) (sym e.0) s.some_places;
  few_places = subst (λ (n : Sizes). n.places ≤ MOST_PLACES) (sym e.0) s.few_places;
  some_conditions = subst (λ (n : Sizes). 0 < n.conditions) (sym e.0) s.some_conditions;
  few_conditions = subst (λ (n : Sizes). n.conditions ≤ MOST_CONDITIONS) (sym e.0) s.few_conditions;
  few_mesa = subst (λ (n : Sizes). n.mesa ≤ n.conditions) (sym e.0) s.few_mesa;
  waiters_fit = omega (arith, ap (λ (n : Sizes). n.places) e.0, e.1, s.waiters_fit);
  signallers_fit = omega (arith, ap (λ (n : Sizes). n.places) e.0, e.2, s.signallers_fit);
  once = λ k. omega (arith, o k, s.once k);
  in_range = λ k p. subst (λ (n : Sizes). k < n.places) (sym e.0) (s.in_range k (omega (arith, o k)));
  on_conditions = λ c l. a c (subst (λ (n : Sizes). n.conditions ≤ c) e.0 l);
  ordered = r;
  on_mesa = m;
  turn_fits = t;
}

same : (b : Contents) → SameSizes b b
same b = (refl, refl, refl)

-- wait

-- a wait moves its place
pub waited_times : (b : Contents) (w : Waiter) (ws : List Waiter) (j : ℕ) → PutsIn w b.waiters ws → IsSound b
    → b.turn ≡ Held w.place → times_in j (waited ws b) ≡ times_in j b
waited_times b w ws j p s e =
    omega
    (arith, p.more j, given_up_hand j (hoare_of b) b.signallers b.called (are_past b s), hand_of j b (Held w.place) e)

-- after a wait the waiters on each condition are in order
waited_ordered : (b : Contents) (w : Waiter) (ws : List Waiter) (c : ℕ) → PutsIn w b.waiters ws
    → in_order key (waiters_on c b) ≡ waiters_on c b
    → in_order key (filter (on c) ws) ≡ filter (on c) ws
waited_ordered b w ws c p o = ap (in_order key) (p.on c) ∙ by (w.condition == c) ∙ sym (p.on c)
  where
    by : (t : Bool)
        → in_order key (cond t (put_in key w (waiters_on c b)) (waiters_on c b))
        ≡ cond t (put_in key w (waiters_on c b)) (waiters_on c b)
    by true = in_order-put_in key w (waiters_on c b) o
    by false = o

-- after a wait no process waits on a condition that isn't the book's
waited_conditions : (b : Contents) (w : Waiter) (ws : List Waiter) (c : ℕ) → PutsIn w b.waiters ws
    → w.condition < b.sizes.conditions → b.sizes.conditions ≤ c
    → waiters_on c b ≡ [] → filter (on c) ws ≡ []
waited_conditions b w ws c p l m n =
    let off : (w.condition == c) ≡ false = grind (arith, nat_tests) in
    p.on c ∙ ap (λ t. cond t (put_in key w (waiters_on c b)) (waiters_on c b)) off ∙ n

-- a wait keeps the book sound
pub waited_sound : (b : Contents) (w : Waiter) (ws : List Waiter) → PutsIn w b.waiters ws → Holds b w.place
    → w.condition < b.sizes.conditions → IsSound (waited ws b)
waited_sound b w ws p o l =
    sound_fewer b (waited ws b) o.sound (same b) (λ j. omega (arith, waited_times b w ws j p o.sound o.inside))
    (λ c m. waited_conditions b w ws c p l m (o.sound.on_conditions c m))
    (λ c. waited_ordered b w ws c p (o.sound.ordered c)) o.sound.on_mesa
    (given_up_fits b.signallers b.called (hoare_of b))

-- at most `MOST_PLACES` processes wait
pub few_waiters : (b : Contents) → IsSound b → length b.waiters ≤ MOST_PLACES
few_waiters b s =
    let few : length (places b.waiters) ≤ b.sizes.places =
    few_once (places b.waiters) b.sizes.places (λ j. omega (arith, s.once j)) (λ j p. s.in_range j (omega arith)) in
    omega (arith, s.few_places, length-map b.waiters (λ (w : Waiter). w.place))

-- there is room for the place inside
pub room : (b : Contents) (k : ℕ) → Holds b k
    → length b.waiters + length b.signallers + length b.called < b.sizes.places
room b k o =
    let behind : List ℕ = b.signallers ++ places b.called in
    let all : List ℕ = k ∷ (places b.waiters ++ behind) in
    let few : length all ≤ b.sizes.places = few_once all b.sizes.places
    (λ j. omega (
      arith,
      o.sound.once j,
      hand_of j b (Held k) o.inside,
      times-append j (places b.waiters) behind,
      times-append j b.signallers (places b.called),
    ))
    (λ j p. o.sound.in_range j
    (omega (
      arith,
      hand_of j b (Held k) o.inside,
      times-append j (places b.waiters) behind,
      times-append j b.signallers (places b.called),
    ))) in
    omega (
      arith,
      length-append (places b.waiters) behind,
      length-append b.signallers (places b.called),
      length-map b.waiters (λ (w : Waiter). w.place),
      length-map b.called (λ (w : Waiter). w.place),
    )

-- leave

-- a leave removes its place
pub left_times : (b : Contents) (k j : ℕ) → IsSound b → b.turn ≡ Held k → times_in j (left b) + one j k ≡ times_in j b
left_times b k j s e =
    omega (arith, given_up_hand j (hoare_of b) b.signallers b.called (are_past b s), hand_of j b (Held k) e)

-- a leave keeps the book sound
pub left_sound : (b : Contents) (k : ℕ) → Holds b k → IsSound (left b)
left_sound b k o =
    sound_fewer b (left b) o.sound (same b)
    (λ j. omega (arith, left_times b k j o.sound o.inside)) o.sound.on_conditions o.sound.ordered o.sound.on_mesa
    (given_up_fits b.signallers b.called (hoare_of b))

-- admit

-- an entering place is in the book once more
pub admitted_times : (b : Contents) (k j : ℕ) → b.turn ≡ Free → times_in j (admitted k b) ≡ times_in j b + one j k
admitted_times b k j e = omega (arith, hand_of j b Free e)

-- so it is there once at most, if it was nowhere
once_more : (t : Bool) (b : Contents) (k j : ℕ) → eqb j k ≡ t → times_in k b ≡ 0 → times_in j b ≤ 1
    → times_in j b + one j k ≤ 1
once_more true b k j h z o =
    let z2 : times_in j b ≡ 0 = ap (λ v. times_in v b) (eqb-true j k h) ∙ z in omega (arith, one_le j k)
once_more false b k j h z o = omega (arith, one_apart j k h)

-- each place is still in range
ranged_more : (t : Bool) (b : Contents) (k j n : ℕ) → eqb j k ≡ t → k < n → (0 < times_in j b → j < n)
    → 0 < times_in j b + one j k → j < n
ranged_more true b k j n h r o p = let q : j ≡ k = eqb-true j k h in omega arith
ranged_more false b k j n h r o p = o (omega (arith, one_apart j k h))

-- an admission keeps the book sound
pub admitted_sound : (b : Contents) (k : ℕ) → Enters b k → IsSound (admitted k b)
admitted_sound b k i = record {
  some_places = i.sound.some_places;
  few_places = i.sound.few_places;
  some_conditions = i.sound.some_conditions;
  few_conditions = i.sound.few_conditions;
  few_mesa = i.sound.few_mesa;
  waiters_fit = i.sound.waiters_fit;
  signallers_fit = i.sound.signallers_fit;
  once = λ j. omega (arith, admitted_times b k j i.free, once_more (eqb j k) b k j refl i.outside (i.sound.once j));
  in_range = λ j p. ranged_more (eqb j k) b k j b.sizes.places refl i.place (i.sound.in_range j)
      (omega (arith, admitted_times b k j i.free));
  on_conditions = i.sound.on_conditions;
  ordered = i.sound.ordered;
  on_mesa = i.sound.on_mesa;
  turn_fits = tt;
}

-- claim

-- if a place resumes after a signal, each place is in the book as often as it was
pub owed_times : (b : Contents) (k c j : ℕ) → b.turn ≡ Owed k c → c < hoare_of b
    → times_in j (admitted k b) ≡ times_in j b
owed_times b k c j e l = omega (arith, hand_of j b (Owed k c) e, hand_hoare j k c (hoare_of b) l)

-- the same if the first of the called resumes
pub went_on_times : (b : Contents) (k c j : ℕ) → IsSound b → b.turn ≡ Owed k c → hoare_of b ≤ c
    → times_in j (went_on k b) ≡ times_in j b
went_on_times b k c j s e l =
    omega (
      arith,
      hand_of j b (Owed k c) e,
      hand_mesa j k c (hoare_of b) l,
      called_times j k c b.called (owed_called b k c s e l),
    )

-- the same if the first signaller returns
pub returned_times : (b : Contents) (k j : ℕ) → IsSound b → b.turn ≡ Return k → times_in j (returned k b) ≡ times_in j b
returned_times b k j s e = omega (arith, hand_of j b (Return k) e, return_times b k j s e)

-- each of these keeps the book sound
pub owed_sound : (b : Contents) (k c : ℕ) → IsSound b → b.turn ≡ Owed k c → c < hoare_of b → IsSound (admitted k b)
owed_sound b k c s e l =
    sound_fewer b (admitted k b) s (same b)
    (λ j. omega (arith, owed_times b k c j e l)) s.on_conditions s.ordered s.on_mesa tt

pub went_on_sound : (b : Contents) (k c : ℕ) → IsSound b → b.turn ≡ Owed k c → hoare_of b ≤ c → IsSound (went_on k b)
went_on_sound b k c s e l =
    sound_fewer b (went_on k b) s (same b) (λ j. omega (arith, went_on_times b k c j s e l)) s.on_conditions s.ordered
    (All-behind (λ (w : Waiter). IsMesa b.sizes.conditions b.sizes.mesa w.condition) b.called s.on_mesa) tt

pub returned_sound : (b : Contents) (k : ℕ) → IsSound b → b.turn ≡ Return k → IsSound (returned k b)
returned_sound b k s e =
    sound_fewer b (returned k b) s (same b)
    (λ j. omega (arith, returned_times b k j s e)) s.on_conditions s.ordered s.on_mesa tt

-- the contents after place k has resumed, by the chain that it was in
abbrev pub claimed : Option ℕ → ℕ → Contents → Contents
claimed None k b = admitted k b
claimed (Some n) k b = cond (n == SIGNALLERS) (returned k b) (went_on k b)

-- the book is then sound
pub claimed_sound : (t : Turn) (b : Contents) (k : ℕ) → b.turn ≡ t → next_of t ≡ next.For k → IsSound b
    → IsSound (claimed (chain_of t (hoare_of b)) k b)
claimed_sound Free b k e n s = absurd (cc)
claimed_sound (Held j) b k e n s = absurd (cc)
claimed_sound (Owed j c) b k e n s =
    let q : j ≡ k = cc in subst (λ (i : ℕ). IsSound (claimed (chain_of (Owed j c) (hoare_of b)) i b)) q
    (elim (cases_lt c (hoare_of b)) [
      | inl l ↦ let f : nat_lt c (hoare_of b) ≡ true = grind (arith, nat_tests) in rw f (owed_sound b j c s e l)
      | inr l ↦ let f : nat_lt c (hoare_of b) ≡ false = grind (arith, nat_tests) in rw f (went_on_sound b j c s e l)
    ])
claimed_sound (Return j) b k e n s =
    let q : j ≡ k = cc in subst (λ (i : ℕ). IsSound (returned i b)) q (returned_sound b j s e)

-- signal and pass

-- once the resumed waiter is removed, the waiters on each condition are in order
pub taken_ordered : (b : Contents) (k c w : ℕ) (ws : List Waiter) → Resumes b k c w ws → (d : ℕ)
    → in_order key (filter (on d) ws) ≡ filter (on d) ws
taken_ordered b k c w ws r d =
    let stays : Waiter → Bool = λ v. not (eqb k v.place || eqb w v.place) in
    let gone = filter-taken k c b.waiters ws w r.took (holder_apart b k r.by).0 (omega (arith, r.by.sound.once w)) in
    let is : filter stays (waiters_on d b) ≡ filter (on d) ws =
    filter-filter stays (on d) b.waiters ∙ ap (filter (on d)) gone in
    ap (in_order key) (sym is) ∙ in_order-filtered key stays (waiters_on d b) (r.by.sound.ordered d) ∙ is

-- no process waits then on a condition that isn't the book's
taken_conditions : (b : Contents) (k c w : ℕ) (ws : List Waiter) → Resumes b k c w ws → (d : ℕ) → b.sizes.conditions ≤ d
    → filter (on d) ws ≡ []
taken_conditions b k c w ws r d l =
    let off : (c == d) ≡ false = apart c d b.sizes.conditions r.fits l in
    sym (filter-taken_off c d b.waiters ws w r.took off) ∙ r.by.sound.on_conditions d l
  where
    apart : (c d n : ℕ) → c < n → n ≤ d → (c == d) ≡ false
    apart c d n l m = grind (arith, nat_tests)

-- a signal moves both places
pub signalled_times : (b : Contents) (k c w j : ℕ) (ws : List Waiter) → Resumes b k c w ws → c < hoare_of b
    → times_in j (resumed ws (b.signallers ++ k ∷ []) w c b) ≡ times_in j b
signalled_times b k c w j ws r l =
    omega (
      arith,
      hand_hoare j w c (hoare_of b) l,
      hand_of j b (Held k) r.by.inside,
      times-taken j c b.waiters ws w r.took,
      times-append j b.signallers (k ∷ []),
    )

-- a pass removes its caller
pub passed_times : (b : Contents) (k c w j : ℕ) (ws : List Waiter) → Resumes b k c w ws → c < hoare_of b
    → times_in j (resumed ws b.signallers w c b) + one j k ≡ times_in j b
passed_times b k c w j ws r l =
    omega
    (arith, hand_hoare j w c (hoare_of b) l, hand_of j b (Held k) r.by.inside, times-taken j c b.waiters ws w r.took)

-- a resumption keeps the book sound if no place is in the book more often
resumed_sound : (b : Contents) (k c w : ℕ) (ws : List Waiter) (us : List ℕ) → Resumes b k c w ws → c < hoare_of b
    → ((j : ℕ) → times_in j (resumed ws us w c b) ≤ times_in j b) → IsSound (resumed ws us w c b)
resumed_sound b k c w ws us r l o = sound_fewer b (resumed ws us w c b) r.by.sound (same b) o
    (taken_conditions b k c w ws r) (taken_ordered b k c w ws r) r.by.sound.on_mesa (inl l)

-- a signal keeps the book sound
pub signalled_sound : (b : Contents) (k c w : ℕ) (ws : List Waiter) → Resumes b k c w ws → c < hoare_of b
    → IsSound (resumed ws (b.signallers ++ k ∷ []) w c b)
signalled_sound b k c w ws r l =
    resumed_sound b k c w ws (b.signallers ++ k ∷ []) r l (λ j. omega (arith, signalled_times b k c w j ws r l))

-- a pass keeps the book sound
pub passed_sound : (b : Contents) (k c w : ℕ) (ws : List Waiter) → Resumes b k c w ws → c < hoare_of b
    → IsSound (resumed ws b.signallers w c b)
passed_sound b k c w ws r l =
    resumed_sound b k c w ws b.signallers r l (λ j. omega (arith, passed_times b k c w j ws r l))

-- notify and broadcast

-- a notify moves the waiter that it notifies
pub notified_times : (b : Contents) (k c w j : ℕ) (ws : List Waiter) (r : Resumes b k c w ws)
    → times_in j (told ws (b.called ++ r.took.first ∷ []) b) ≡ times_in j b
notified_times b k c w j ws r =
    let e : one j r.took.first.place ≡ one j w = ap (one j) r.took.place in
    omega (arith, times-taken j c b.waiters ws w r.took, times-places j b.called (r.took.first ∷ []))

-- a fact that holds of all elements of two lists holds of all of the joined list
All-last : (P : Waiter → Type 0) (vs ws : List Waiter) → All P vs → All P ws → All P (vs ++ ws)
All-last P [] ws a b = b
All-last P (v ∷ vs) ws a b = All-cons P v (vs ++ ws) (All-head P v vs a) (All-last P vs ws (All-tail P v vs a) b)

-- a notify keeps the book sound
pub notified_sound : (b : Contents) (k c w : ℕ) (ws : List Waiter) (r : Resumes b k c w ws)
    → IsMesa b.sizes.conditions b.sizes.mesa c → IsSound (told ws (b.called ++ r.took.first ∷ []) b)
notified_sound b k c w ws r m =
    let mesa : Waiter → Type 0 = λ v. IsMesa b.sizes.conditions b.sizes.mesa v.condition in
    sound_fewer b (told ws (b.called ++ r.took.first ∷ []) b) r.by.sound (same b)
    (λ j. omega (arith, notified_times b k c w j ws r))
    (taken_conditions b k c w ws r) (taken_ordered b k c w ws r)
    (All-last mesa b.called (r.took.first ∷ []) r.by.sound.on_mesa
    (All-cons mesa r.took.first [] (subst (λ (d : ℕ). IsMesa b.sizes.conditions b.sizes.mesa d) (sym r.took.on) m)
    (All-nil mesa)))
    (subst (λ (t : Turn). IsTurnBeside b.signallers (b.called ++ r.took.first ∷ []) (hoare_of b) t)
    (sym r.by.inside) tt)

-- the elements that a filter keeps, and the others, are all
times-filter : (j : ℕ) (p : Waiter → Bool) (ws : List Waiter)
    → times j (places ws) ≡ times j (places (filter (λ w. not (p w)) ws)) + times j (places (filter p ws))
times-filter j p [] = omega arith
times-filter j p (w ∷ ws) = by (p w) (times-filter j p ws)
  where
    by : (t : Bool)
        → times j (places ws) ≡ times j (places (filter (λ v. not (p v)) ws)) + times j (places (filter p ws))
        → one j w.place + times j (places ws)
        ≡ times j (places (cond (not t) (w ∷ filter (λ v. not (p v)) ws) (filter (λ v. not (p v)) ws))) + times j
        (places (cond t (w ∷ filter p ws) (filter p ws)))
    by true h = omega arith
    by false h = omega arith

-- a broadcast moves all waiters that it notifies
pub broadcast_times : (b : Contents) (c j : ℕ) (ws : List Waiter) → TakesAll c b.waiters ws
    → times_in j (told ws (b.called ++ waiters_on c b) b) ≡ times_in j b
broadcast_times b c j ws t =
    omega (
      arith,
      times-filter j (on c) b.waiters,
      ap (λ l. times j (places l)) t.is,
      times-places j b.called (waiters_on c b),
    )

all_on : (P : ℕ → Type 0) (c : ℕ) (ws : List Waiter) → P c → All (λ (w : Waiter). P w.condition) (filter (on c) ws)
all_on P c [] p = All-nil (λ (w : Waiter). P w.condition)
all_on P c (w ∷ ws) p = by (w.condition == c) refl (all_on P c ws p)
  where
    by : (t : Bool) → (w.condition == c) ≡ t → All (λ (v : Waiter). P v.condition) (filter (on c) ws)
        → All (λ (v : Waiter). P v.condition) (cond t (w ∷ filter (on c) ws) (filter (on c) ws))
    by true e a =
        All-cons (λ (v : Waiter). P v.condition) w (filter (on c) ws) (subst P (sym (eqb-true w.condition c e)) p) a
    by false e a = a

emptied_conditions : (b : Contents) (c d : ℕ) (ws : List Waiter) → TakesAll c b.waiters ws → waiters_on d b ≡ []
    → filter (on d) ws ≡ []
emptied_conditions b c d ws t n = t.on d ∙ by (d == c)
  where
    by : (q : Bool) → cond q [] (waiters_on d b) ≡ []
    by true = refl
    by false = n

emptied_ordered : (b : Contents) (c d : ℕ) (ws : List Waiter) → TakesAll c b.waiters ws
    → in_order key (waiters_on d b) ≡ waiters_on d b → in_order key (filter (on d) ws) ≡ filter (on d) ws
emptied_ordered b c d ws t o = ap (in_order key) (t.on d) ∙ by (d == c) ∙ sym (t.on d)
  where
    by : (q : Bool) → in_order key (cond q [] (waiters_on d b)) ≡ cond q [] (waiters_on d b)
    by true = refl
    by false = o

-- a broadcast keeps the book sound
pub broadcast_sound : (b : Contents) (k c : ℕ) (ws : List Waiter) → Holds b k → IsMesa b.sizes.conditions b.sizes.mesa c
    → TakesAll c b.waiters ws → IsSound (told ws (b.called ++ waiters_on c b) b)
broadcast_sound b k c ws o m t =
    sound_fewer b (told ws (b.called ++ waiters_on c b) b) o.sound (same b)
    (λ j. omega (arith, broadcast_times b c j ws t))
    (λ d l. emptied_conditions b c d ws t (o.sound.on_conditions d l))
    (λ d. emptied_ordered b c d ws t (o.sound.ordered d))
    (All-last (λ (v : Waiter). IsMesa b.sizes.conditions b.sizes.mesa v.condition) b.called
    (waiters_on c b) o.sound.on_mesa (all_on (λ (d : ℕ). IsMesa b.sizes.conditions b.sizes.mesa d) c b.waiters m))
    (subst (λ (t : Turn). IsTurnBeside b.signallers (b.called ++ waiters_on c b) (hoare_of b) t) (sym o.inside) tt)

-- a new book

-- a book with empty lists whose monitor is free is sound
pub opened_sound : (n : Sizes) (x : ℕ) → 0 < n.places → n.places ≤ MOST_PLACES → 0 < n.conditions
    → n.conditions ≤ MOST_CONDITIONS → n.mesa ≤ n.conditions → n.places ≤ x
    → IsSound (record {
      sizes = n;
      room_to_wait = x;
      room_to_signal = x;
      waiters = [];
      signallers = [];
      called = [];
      turn = Free;
    })
opened_sound n x a b d e g f = record {
  some_places = a;
  few_places = b;
  some_conditions = d;
  few_conditions = e;
  few_mesa = g;
  waiters_fit = f;
  signallers_fit = f;
  once = λ k. omega arith;
  in_range = λ k p. absurd (omega arith);
  on_conditions = λ c q. refl;
  ordered = λ c. refl;
  on_mesa = All-nil (λ (w : Waiter). IsMesa n.conditions n.mesa w.condition);
  turn_fits = refl;
}

-- an equal book

-- books with equal parts are equal
pub parts : {n : Sizes} {x y p q : ℕ} {ws vs : List Waiter} {us zs : List ℕ} {cs ds : List Waiter} {t r : Turn} → x ≡ y
    → p ≡ q → ws ≡ vs → us ≡ zs → cs ≡ ds → t ≡ r
    → (let b : Contents = record {
      sizes = n;
      room_to_wait = x;
      room_to_signal = p;
      waiters = ws;
      signallers = us;
      called = cs;
      turn = t;
    } in
    let d : Contents =
    record { sizes = n; room_to_wait = y; room_to_signal = q; waiters = vs; signallers = zs; called = ds; turn = r } in
    d ≡ b)
parts e f a b k t = cc

-- an equal book is sound
pub IsSound-same : (b d : Contents) → d ≡ b → IsSound d → IsSound b
IsSound-same b d e s = subst IsSound e s
