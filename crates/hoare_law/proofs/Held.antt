-- Which place has the turn, by the last event, and which processes wait meanwhile.
use Rattle.std.proofs.Common.{◌≡◌, ◌≢◌, ◌==◌, ◌||◌, ◌⊎◌, inl, inr, not, ℕ, List, [], ◌∷◌, ◌++◌, Bool, true, false, cond}
use Rattle.std.proofs.Common.{Some, refl, ap, sym, ◌∙◌, subst, eq-eqb, eqb-true}
use Rattle.std.specs.List.{filter, list_all}
use Rattle.std.proofs.lemmas.List.{append-nil}
use Rattle.hoare_law.specs.declared.event.Event.{Event}
use Rattle.hoare_law.specs.declared.event.Event.TheVariants.{Admit, Wait, Signal, Pass, Leave, Resume, Back, Notify}
use Rattle.hoare_law.specs.declared.event.Event.TheVariants.{Broadcast, SignalTo}
use Rattle.hoare_law.specs.declared.turn.Turn.{Turn}
use Rattle.hoare_law.specs.declared.turn.Turn.TheVariants.{Free, Held, Owed, Return}
use Rattle.hoare_law.specs.Events.{place_of, data_of, own, newest}
use Rattle.hoare_law.specs.Waiting.{priority_of, condition_of, waits_on, takes, concerns, waiting, Chooses, IsWaiting}
use Rattle.hoare_law.specs.Called.{called}
use Rattle.hoare_law.specs.Turns.{After, stays, frees, hands, after, urgent, turn, turn_of, turn_by, turn_given_up}
use Rattle.hoare_law.specs.Turns.{is_out, outside}
use Rattle.hoare_law.proofs.Events.{newest-push, own-push}
use Rattle.hoare_law.proofs.Waiting.{waiting-push}
use Rattle.hoare_law.proofs.Turns.{turn-push, outside-push}
use Rattle.hoare_law.proofs.Filters.{HasLast, nothing, pushed, has_last, list_all-filter_own, list_all-weaker}

-- the same place is inside after an event with this effect
abbrev pub is_stay : After → Bool
is_stay stays = true
is_stay _ = false

-- the place of the event is inside after it
abbrev pub is_inside : {S : Type 0} → Event S → Bool
is_inside e = is_stay (after e)

-- how a place hands off the monitor to a waiter
pub data Hand : Type 0 where
  by_pass : Hand
  by_signal : Hand
  by_signal_to : Hand

-- a pass if the flag is true, else a signal
abbrev pub hand_of : Bool → Hand
hand_of true = by_pass
hand_of false = by_signal

-- k hands off the monitor to w, which waits on c
abbrev pub handing : {S : Type 0} → Hand → ℕ → ℕ → ℕ → S → Event S
handing by_pass k c w s = Pass k c w s
handing by_signal k c w s = Signal k c w s
handing by_signal_to k c w s = SignalTo k c w s

-- w may be the one to which the monitor is handed off from c
abbrev pub MayBeHanded : {S : Type 0} → Hand → ℕ → List (Event S) → ℕ → Type 0
MayBeHanded by_pass c h w = Chooses c h w
MayBeHanded by_signal c h w = Chooses c h w
MayBeHanded by_signal_to c h w = IsWaiting c h w

abbrev pub is_free : After → Bool
is_free frees = true
is_free _ = false

-- the event releases the monitor to no particular place
abbrev pub gives_up : {S : Type 0} → Event S → Bool
gives_up e = is_free (after e)

-- a monitor that was released is held by no place
pub not_held : {S : Type 0} (us : List ℕ) (ws : List (Event S)) (k : ℕ) → turn_given_up us ws ≢ Held k
not_held [] [] k e = cc
not_held [] (w ∷ ws) k e = cc
not_held (u ∷ us) ws k e = cc

-- if it is owed to a place, no signaller waits, and that place is the first notified
owed_first : {S : Type 0} (us : List ℕ) (ws : List (Event S)) (w c : ℕ) → turn_given_up us ws ≡ Owed w c
    → (us ≡ []) × (x : Event S) × (xs : List (Event S)) × (ws ≡ x ∷ xs) × (place_of x ≡ w) × (condition_of x ≡ c)
owed_first [] [] w c e = absurd (cc)
owed_first [] (x ∷ xs) w c e = (refl, x, xs, refl, cc, cc)
owed_first (u ∷ us) ws w c e = absurd (cc)

returns_first : {S : Type 0} (us : List ℕ) (ws : List (Event S)) (k : ℕ) → turn_given_up us ws ≡ Return k
    → (vs : List ℕ) × (us ≡ k ∷ vs)
returns_first [] [] k e = absurd (cc)
returns_first [] (w ∷ ws) k e = absurd (cc)
returns_first (u ∷ us) ws k e = (us, cc)

free_first : {S : Type 0} (us : List ℕ) (ws : List (Event S)) → turn_given_up us ws ≡ Free → (us ≡ []) × (ws ≡ [])
free_first [] [] e = (refl, refl)
free_first [] (w ∷ ws) e = absurd (cc)
free_first (u ∷ us) ws e = absurd (cc)

first : (a b : Bool) → not (a || b) ≡ true → a ≡ false
first true b e = absurd (cc)
first false b e = refl

-- an event that does not concern a place is not its own
pub own_is_concerned : {S : Type 0} (e : Event S) (c k : ℕ) → not (concerns c k e) ≡ true → (place_of e == k) ≡ false
own_is_concerned e c k n = first (place_of e == k) (takes c k e) n

-- an event that takes no waiter concerns its own place alone
pub concerns-own : {S : Type 0} (e : Event S) (c k : ℕ) → takes c k e ≡ false → concerns c k e ≡ (place_of e == k)
concerns-own e c k none = ap (λ b. place_of e == k || b) none ∙ or_false (place_of e == k)
  where
    or_false : (b : Bool) → (b || false) ≡ b
    or_false true = refl
    or_false false = refl

-- an event that hands off the monitor is a pass or a signal
pub handing_is : {S : Type 0} (e : Event S) (w c : ℕ) → after e ≡ hands w c
    → (out : Hand) × (k : ℕ) × (s : S) × (e ≡ handing out k c w s)
handing_is (Signal k d v s) w c is = (by_signal, k, s, cc)
handing_is (Pass k d v s) w c is = (by_pass, k, s, cc)
handing_is (SignalTo k d v s) w c is = (by_signal_to, k, s, cc)
handing_is (Admit k s) w c is = absurd (cc)
handing_is (Resume k d s) w c is = absurd (cc)
handing_is (Back k s) w c is = absurd (cc)
handing_is (Wait k d p s) w c is = absurd (cc)
handing_is (Leave k s) w c is = absurd (cc)
handing_is (Notify k d v s) w c is = absurd (cc)
handing_is (Broadcast k d s) w c is = absurd (cc)

-- a wait on c is made of its parts
pub waits_on-is : {S : Type 0} (c : ℕ) (e : Event S) → waits_on c e ≡ true
    → e ≡ Wait (place_of e) c (priority_of e) (data_of e)
waits_on-is c (Wait k d p s) on = ap (λ i. Wait k i p s) (eqb-true d c on)
waits_on-is c (Admit k s) on = absurd (cc)
waits_on-is c (Signal k d w s) on = absurd (cc)
waits_on-is c (Pass k d w s) on = absurd (cc)
waits_on-is c (SignalTo k d w s) on = absurd (cc)
waits_on-is c (Leave k s) on = absurd (cc)
waits_on-is c (Resume k d s) on = absurd (cc)
waits_on-is c (Back k s) on = absurd (cc)
waits_on-is c (Notify k d w s) on = absurd (cc)
waits_on-is c (Broadcast k d s) on = absurd (cc)

module _ {S : Type 0} where
  -- a history whose last event is e
  abbrev pub Ends : List (Event S) → Event S → Type 0
  Ends h e = (g : List (Event S)) × (h ≡ g ++ e ∷ [])

  turn_by_last : (g : List (Event S)) (e : Event S) (h : List (Event S)) → h ≡ g ++ e ∷ []
      → turn_by e (urgent h) (called h) ≡ turn h
  turn_by_last g e h ends = ap (λ x. turn_by e (urgent x) (called x)) ends ∙ sym (turn-push g e) ∙ ap turn (sym ends)

  -- the turn is what the last event makes it
  turn_of_last : (h : List (Event S)) (t : Turn) → turn h ≡ t → t ≢ Free
      → (e : Event S) × Ends h e × (turn_by e (urgent h) (called h) ≡ t)
  unfolding turn
  turn_of_last h t is some = by (has_last h)
    where
      by : HasLast h → (e : Event S) × Ends h e × (turn_by e (urgent h) (called h) ≡ t)
      by (nothing none) = absurd (some (sym is ∙ ap turn none))
      by (pushed g e ends) = (e, (g, ends), turn_by_last g e h ends ∙ is)

  held_of : (a : After) (j : ℕ) (us : List ℕ) (ws : List (Event S)) (k : ℕ) → turn_of a j us ws ≡ Held k
      → (is_stay a ≡ true) × (j ≡ k)
  held_of stays j us ws k t = (refl, cc)
  held_of frees j us ws k t = absurd (not_held us ws k t)
  held_of (hands w c) j us ws k t = absurd (cc)

  -- the last event brought inside the place whose turn it is, or is a notify or a broadcast by it
  pub turn-held : (h : List (Event S)) (k : ℕ) → turn h ≡ Held k
      → (e : Event S) × Ends h e × (is_inside e ≡ true) × (place_of e ≡ k)
  turn-held h k is =
      let r : (e : Event S) × Ends h e × (turn_by e (urgent h) (called h) ≡ Held k) =
      turn_of_last h (Held k) is (λ e. cc) in
      let b : (is_inside r.0 ≡ true) × (place_of r.0 ≡ k) =
      held_of (after r.0) (place_of r.0) (urgent h) (called h) k r.2 in
      (r.0, r.1, b.0, b.1)

  -- the last event handed off the monitor to w, which waited on c
  pub record EndsHanding (w c : ℕ) (h : List (Event S)) : Type 0 where
    pub out : Hand
    pub by : ℕ
    pub left : S
    pub before : List (Event S)
    pub ends : h ≡ before ++ handing out by c w left ∷ []

  -- the last event released the monitor, no signaller waits, and w, which waited on c, is the first notified process
  pub record EndsCalled (w c : ℕ) (h : List (Event S)) : Type 0 where
    pub by : Event S
    pub ends : Ends h by
    pub gives : gives_up by ≡ true
    pub nobody : urgent h ≡ []
    pub first : Event S
    pub others : List (Event S)
    pub are : called h ≡ first ∷ others
    pub place : place_of first ≡ w
    pub on : condition_of first ≡ c

  -- how the monitor comes to be owed to a place
  pub data IsOwed (w c : ℕ) (h : List (Event S)) : Type 0 where
    handed : EndsHanding w c h → IsOwed w c h
    next_called : EndsCalled w c h → IsOwed w c h

  given_to_called : (h : List (Event S)) (e : Event S) (w c : ℕ) → Ends h e → gives_up e ≡ true
      → turn_given_up (urgent h) (called h) ≡ Owed w c → IsOwed w c h
  given_to_called h e w c ends gives t =
      let r = owed_first (urgent h) (called h) w c t in
      next_called
      (record {
        by = e;
        ends = ends;
        gives = gives;
        nobody = r.0;
        first = r.1;
        others = r.2;
        are = r.3;
        place = r.4;
        on = r.5;
      })

  owed_by : (h g : List (Event S)) (e : Event S) (w c : ℕ) → h ≡ g ++ e ∷ []
      → turn_by e (urgent h) (called h) ≡ Owed w c → IsOwed w c h
  owed_by h g e w c is t = by (after e) refl t
    where
      by_hand : after e ≡ hands w c → IsOwed w c h
      by_hand hand =
          let r : (out : Hand) × (k : ℕ) × (s : S) × (e ≡ handing out k c w s) = handing_is e w c hand in
          handed (record { out = r.0; by = r.1; left = r.2; before = g; ends = is ∙ ap (λ x. g ++ x ∷ []) r.3 })

      by : (a : After) → after e ≡ a → turn_of a (place_of e) (urgent h) (called h) ≡ Owed w c → IsOwed w c h
      by stays kind owed = absurd (cc)
      by (hands v d) kind owed = by_hand (kind ∙ (let one : hands v d ≡ hands w c = cc in one))
      by frees kind owed = given_to_called h e w c (g, is) (ap is_free kind) owed

  pub turn-owed : (h : List (Event S)) (w c : ℕ) → turn h ≡ Owed w c → IsOwed w c h
  turn-owed h w c is =
      let r : (e : Event S) × Ends h e × (turn_by e (urgent h) (called h) ≡ Owed w c) =
      turn_of_last h (Owed w c) is (λ e. cc) in
      owed_by h r.1.0 r.0 w c r.1.1 r.2

  return_of : (a : After) (j : ℕ) (us : List ℕ) (ws : List (Event S)) (k : ℕ) → turn_of a j us ws ≡ Return k
      → (is_free a ≡ true) × (turn_given_up us ws ≡ Return k)
  return_of stays j us ws k t = absurd (cc)
  return_of (hands w c) j us ws k t = absurd (cc)
  return_of frees j us ws k t = (refl, t)

  -- the last event released the monitor, and k is the first waiting signaller
  pub turn-return : (h : List (Event S)) (k : ℕ) → turn h ≡ Return k
      → (e : Event S) × Ends h e × (gives_up e ≡ true) × (us : List ℕ) × (urgent h ≡ k ∷ us)
  turn-return h k is =
      let r : (e : Event S) × Ends h e × (turn_by e (urgent h) (called h) ≡ Return k) =
      turn_of_last h (Return k) is (λ e. cc) in
      let g : (gives_up r.0 ≡ true) × (turn_given_up (urgent h) (called h) ≡ Return k) =
      return_of (after r.0) (place_of r.0) (urgent h) (called h) k r.2 in
      let u : (us : List ℕ) × (urgent h ≡ k ∷ us) = returns_first (urgent h) (called h) k g.1 in
      (r.0, r.1, g.0, u.0, u.1)

  free_of : (a : After) (j : ℕ) (us : List ℕ) (ws : List (Event S)) → turn_of a j us ws ≡ Free
      → (is_free a ≡ true) × (us ≡ []) × (ws ≡ [])
  free_of stays j us ws t = absurd (cc)
  free_of (hands w c) j us ws t = absurd (cc)
  free_of frees j us ws t = let r = free_first us ws t in (refl, r.0, r.1)

  free_by : (g : List (Event S)) (e : Event S) (h : List (Event S)) → h ≡ g ++ e ∷ [] → turn h ≡ Free
      → (gives_up e ≡ true) × (urgent h ≡ []) × (called h ≡ [])
  free_by g e h ends is = free_of (after e) (place_of e) (urgent h) (called h) (turn_by_last g e h ends ∙ is)

  -- if the turn is free, nothing happened, or the last event released the monitor
  pub turn-free : (h : List (Event S)) → turn h ≡ Free → (h ≡ []) ⊎ ((e : Event S) × Ends h e × (gives_up e ≡ true))
  turn-free h is = by (has_last h)
    where
      by : HasLast h → (h ≡ []) ⊎ ((e : Event S) × Ends h e × (gives_up e ≡ true))
      by (nothing none) = inl none
      by (pushed g e ends) = inr (e, (g, ends), (free_by g e h ends is).0)

  -- if the turn is free, no signaller waits
  pub urgent-free : (h : List (Event S)) → turn h ≡ Free → urgent h ≡ []
  unfolding urgent
  urgent-free h is = by (has_last h)
    where
      by : HasLast h → urgent h ≡ []
      by (nothing none) = ap urgent none
      by (pushed g e ends) = (free_by g e h ends is).1

  -- if the turn is free, no process is notified
  pub called-free : (h : List (Event S)) → turn h ≡ Free → called h ≡ []
  unfolding called
  called-free h is = by (has_last h)
    where
      by : HasLast h → called h ≡ []
      by (nothing none) = ap called none
      by (pushed g e ends) = (free_by g e h ends is).2

  -- k is the place that hands off the monitor, and s are the data that it leaves
  pub place_of-handing : (out : Hand) (k c w : ℕ) (s : S) → place_of (handing out k c w s) ≡ k
  place_of-handing by_pass k c w s = refl
  place_of-handing by_signal k c w s = refl
  place_of-handing by_signal_to k c w s = refl

  pub data_of-handing : (out : Hand) (k c w : ℕ) (s : S) → data_of (handing out k c w s) ≡ s
  data_of-handing by_pass k c w s = refl
  data_of-handing by_signal k c w s = refl
  data_of-handing by_signal_to k c w s = refl

  -- such an event is no wait, and concerns k and w
  pub waits_on-handing : (out : Hand) (d k c w : ℕ) (s : S) → waits_on d (handing out k c w s) ≡ false
  waits_on-handing by_pass d k c w s = refl
  waits_on-handing by_signal d k c w s = refl
  waits_on-handing by_signal_to d k c w s = refl

  pub concerns-handing : (out : Hand) (d j k c w : ℕ) (s : S) → concerns d j (handing out k c w s) ≡ (k == j || w == j)
  concerns-handing by_pass d j k c w s = refl
  concerns-handing by_signal d j k c w s = refl
  concerns-handing by_signal_to d j k c w s = refl

  -- an event that is no wait is no wait on a condition
  pub waits_not : (Is : Event S → Type 0) (e : Event S) (c : ℕ) → ((k d p : ℕ) (s : S) → Is (Wait k d p s) → ⊥) → Is e
      → waits_on c e ≡ false
  waits_not Is e c never is = by (waits_on c e) refl
    where
      by : (t : Bool) → waits_on c e ≡ t → t ≡ false
      by false no_wait = refl
      by true on = absurd (never (place_of e) c (priority_of e) (data_of e) (subst Is (waits_on-is c e on) is))

  -- an event after which its place is inside is no wait
  pub in_not_waiting : (e : Event S) (c : ℕ) → is_inside e ≡ true → waits_on c e ≡ false
  in_not_waiting e c is = waits_not (λ x. is_inside x ≡ true) e c (λ k d p s on. cc) is

  in_not_out : (e : Event S) → is_inside e ≡ true → is_out (Some e) ≡ false
  in_not_out (Admit j s) is = refl
  in_not_out (Resume j d s) is = refl
  in_not_out (Back j s) is = refl
  in_not_out (Wait j d p s) is = refl
  in_not_out (Signal j d v s) is = refl
  in_not_out (SignalTo j d v s) is = refl
  in_not_out (Notify j d v s) is = refl
  in_not_out (Broadcast j d s) is = refl
  in_not_out (Pass j d v s) is = absurd (cc)
  in_not_out (Leave j s) is = absurd (cc)

  -- a place whose last event isn't a wait waits nowhere
  pub waiting-in : (g : List (Event S)) (e : Event S) (c : ℕ) → waits_on c e ≡ false
      → list_all (λ x. not (place_of e == place_of x)) (waiting c (g ++ e ∷ [])) ≡ true
  waiting-in g e c is =
      let added : waiting c (g ++ e ∷ []) ≡ filter (λ x. not (concerns c (place_of x) e)) (waiting c g) =
      waiting-push c g e
      ∙ ap (λ b. filter (λ x. not (concerns c (place_of x) e)) (waiting c g) ++ cond b (e ∷ []) []) is ∙ append-nil _ in
      list_all-weaker (λ x. not (concerns c (place_of x) e)) (λ x. not (place_of e == place_of x))
      (waiting c (g ++ e ∷ []))
      (λ x n. ap not (own_is_concerned e c (place_of x) n))
      (ap (list_all (λ x. not (concerns c (place_of x) e))) added
      ∙ list_all-filter_own (λ x. not (concerns c (place_of x) e)) (waiting c g))

  -- the place whose turn it is waits nowhere
  pub waiting-held : (h : List (Event S)) (k c : ℕ) → turn h ≡ Held k
      → list_all (λ x. not (k == place_of x)) (waiting c h) ≡ true
  waiting-held h k c is =
      let r : (e : Event S) × Ends h e × (is_inside e ≡ true) × (place_of e ≡ k) = turn-held h k is in
      ap (λ j. list_all (λ x. not (j == place_of x)) (waiting c h)) (sym r.3)
      ∙ ap (λ g. list_all (λ x. not (place_of r.0 == place_of x)) (waiting c g)) r.1.1
      ∙ waiting-in r.1.0 r.0 c (in_not_waiting r.0 c r.2)

  -- the place whose turn it is isn't outside
  pub outside-held : (h : List (Event S)) (k : ℕ) → turn h ≡ Held k → outside k h ≡ false
  outside-held h k is =
      let r : (e : Event S) × Ends h e × (is_inside e ≡ true) × (place_of e ≡ k) = turn-held h k is in
      ap (outside k) r.1.1
      ∙ outside-push k r.1.0 r.0
      ∙ ap (λ b. cond b (is_out (Some r.0)) (outside k r.1.0)) (eq-eqb (place_of r.0) k r.3)
      ∙ in_not_out r.0 r.2

  -- the last event of the place whose turn it is brought it inside, or is a notify or a broadcast
  pub own-held : (h : List (Event S)) (k : ℕ) → turn h ≡ Held k
      → (e : Event S) × (newest (own k h) ≡ Some e) × (is_inside e ≡ true)
  own-held h k is =
      let r : (e : Event S) × Ends h e × (is_inside e ≡ true) × (place_of e ≡ k) = turn-held h k is in
      let last : own k h ≡ own k r.1.0 ++ r.0 ∷ [] =
      ap (own k) r.1.1 ∙ own-push k r.1.0 r.0
      ∙ ap (λ b. own k r.1.0 ++ cond b (r.0 ∷ []) []) (eq-eqb (place_of r.0) k r.3) in
      (r.0, ap newest last ∙ newest-push (own k r.1.0) r.0, r.2)

  -- at most one place has the turn
  pub held_one : (h : List (Event S)) (j k : ℕ) → turn h ≡ Held j → turn h ≡ Held k → j ≡ k
  held_one h j k a b = let both : Held j ≡ Held k = sym a ∙ b in cc
