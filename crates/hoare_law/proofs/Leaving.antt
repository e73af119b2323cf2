-- The place inside releases the monitor, by a wait, a leave, a signal or a pass: that this is allowed, and what it
-- owes.
use Rattle.std.proofs.Common.{◌≡◌, ◌≢◌, ℕ, ◌<◌, arith, true, false, cond, List, [], ◌∷◌, ◌++◌, Option, Some, None}
use Rattle.std.proofs.Common.{refl, ap, sym, ◌∙◌, subst, eq-eqb}
use Rattle.std.specs.Prelude.{IsSomeAnd, slice_index}
use Rattle.hoare_law.specs.declared.event.Event.{Event}
use Rattle.hoare_law.specs.declared.event.History.{History}
use Rattle.hoare_law.specs.declared.event.Event.TheVariants.{Wait, Signal, Pass, Leave, SignalTo}
use Rattle.hoare_law.specs.declared.turn.Turn.TheVariants.{Held, Owed}
use Rattle.hoare_law.specs.Events.{place_of, with_event}
use Rattle.hoare_law.specs.Lawful.{Rest, Ready, Owes}
use Rattle.hoare_law.specs.Legal.{Allowed, IsLegal}
use Rattle.hoare_law.specs.Priorities.{priorities, joined, taken, left_by}
use Rattle.hoare_law.specs.Turns.{After, stays, frees, hands, after, turn, turn_of, urgent, IsGivenUp, outside, is_out}
use Rattle.hoare_law.specs.Sizes.{IsHoare}
use Rattle.hoare_law.specs.Waiting.{priority_of, chosen, Chooses, wait_by}
use Rattle.hoare_law.specs.Called.{called}
use Rattle.hoare_law.proofs.Held.{Hand, by_pass, by_signal, by_signal_to, handing, MayBeHanded, is_stay, is_inside}
use Rattle.hoare_law.proofs.Priorities.{priorities-leave, priorities-wait, priorities-handing, priorities-nobody}
use Rattle.hoare_law.proofs.Priorities.{slice_index-chosen, waiting-unchosen, wait_by-chosen, IsWaiting-by}
use Rattle.hoare_law.proofs.Priorities.{priorities-signal_to}
use Rattle.hoare_law.proofs.Turns.{outside-push, turn-push}
use Rattle.hoare_law.proofs.Waiters.{held-in_range, chosen-in_range, wait_by-in_range}

module _ {S : Type 0} where
  given_up_of : (a : After) (k : ℕ) (us : List ℕ) (ws : List (Event S)) → is_stay a ≡ false
      → IsGivenUp (turn_of a k us ws)
  given_up_of stays k us ws left = absurd (cc)
  given_up_of (hands w c) k us ws left = tt
  given_up_of frees k [] [] left = tt
  given_up_of frees k [] (w ∷ ws) left = tt
  given_up_of frees k (u ∷ us) ws left = tt

  -- no place is inside after an event that doesn't leave its place inside
  pub given_up-left : (f : History S) (e : Event S) → is_inside e ≡ false → IsGivenUp (turn (with_event f e).events)
  unfolding with_event
  given_up-left f e left =
      let h : List (Event S) = f.events ++ e ∷ [] in
      subst IsGivenUp (sym (turn-push f.events e)) (given_up_of (after e) (place_of e) (urgent h) (called h) left)

  -- the turn is that of the place to which the monitor is handed off
  pub turn-handing : (out : Hand) (h : History S) (k c w : ℕ) (s : S)
      → turn (with_event h (handing out k c w s)).events ≡ Owed w c
  unfolding with_event
  turn-handing by_pass h k c w s = turn-push h.events (Pass k c w s)
  turn-handing by_signal h k c w s = turn-push h.events (Signal k c w s)
  turn-handing by_signal_to h k c w s = turn-push h.events (SignalTo k c w s)

  -- k is outside after a leave or a pass
  pub outside-left : (f : History S) (k : ℕ) (e : Event S) → place_of e ≡ k → is_out (Some e) ≡ true
      → outside k (with_event f e).events ≡ true
  unfolding with_event
  outside-left f k e mine out =
      outside-push k f.events e ∙ ap (λ b. cond b (is_out (Some e)) (outside k f.events)) (eq-eqb (place_of e) k mine)
      ∙ out

  -- a waiter is chosen if there is a waiting priority
  pub chosen-some : (c : ℕ) (h : List (Event S)) → priorities h c ≢ [] → (x : Event S) × (chosen c h ≡ Some x)
  chosen-some c h some = by (chosen c h) refl
    where
      by : (o : Option (Event S)) → chosen c h ≡ o → (x : Event S) × (chosen c h ≡ Some x)
      by (Some x) is = (x, is)
      by None is = absurd (some (priorities-nobody c h (waiting-unchosen c h is)))

  pub Chooses-place : (c : ℕ) (h : List (Event S)) (x : Event S) → chosen c h ≡ Some x → Chooses c h (place_of x)
  unfolding Chooses
  Chooses-place c h x is = subst (λ (o : Option (Event S)). IsSomeAnd o (λ e. place_of e ≡ place_of x)) (sym is) refl

  -- the place inside may leave, wait, signal and pass
  pub Allowed-leave : (f : History S) (k : ℕ) (s : S) → IsLegal f → turn f.events ≡ Held k → Allowed f (Leave k s)
  Allowed-leave f k s legal held = record { in_range = (held-in_range f k legal held, tt); fits = held }

  pub Allowed-wait : (f : History S) (k c p : ℕ) (s : S) → IsLegal f → turn f.events ≡ Held k → c < f.sizes.conditions
      → Allowed f (Wait k c p s)
  Allowed-wait f k c p s legal held below = record { in_range = (held-in_range f k legal held, below); fits = held }

  handing_allowed : (out : Hand) (f : History S) (k c w : ℕ) (s : S)
      → (k < f.sizes.places) × ((c < f.sizes.conditions) × (w < f.sizes.places))
      → (turn f.events ≡ Held k) × MayBeHanded out c f.events w × IsHoare f.sizes.conditions f.sizes.mesa c
      → Allowed f (handing out k c w s)
  handing_allowed by_pass f k c w s in_range fits = record { in_range = in_range; fits = fits }
  handing_allowed by_signal f k c w s in_range fits = record { in_range = in_range; fits = fits }
  handing_allowed by_signal_to f k c w s in_range fits = record { in_range = in_range; fits = fits }

  may_by_choice : (out : Hand) (c : ℕ) (h : List (Event S)) (x : Event S) → chosen c h ≡ Some x
      → MayBeHanded out c h (place_of x)
  may_by_choice by_pass c h x is = Chooses-place c h x is
  may_by_choice by_signal c h x is = Chooses-place c h x is
  may_by_choice by_signal_to c h x is = IsWaiting-by c (place_of x) h x (wait_by-chosen c h x is)

  pub Allowed-handing : (out : Hand) (f : History S) (k c : ℕ) (x : Event S) (s : S) → IsLegal f
      → turn f.events ≡ Held k → IsHoare f.sizes.conditions f.sizes.mesa c
      → chosen c f.events ≡ Some x → Allowed f (handing out k c (place_of x) s)
  Allowed-handing out f k c x s legal held hoare is = handing_allowed out f k c (place_of x) s
      (held-in_range f k legal held, (omega (arith, hoare), (chosen-in_range c f x legal is).0))
      (held, may_by_choice out c f.events x is, hoare)

  -- it may signal to a place that waits
  pub Allowed-signal_to : (f : History S) (k c w : ℕ) (x : Event S) (s : S) → IsLegal f
      → turn f.events ≡ Held k → IsHoare f.sizes.conditions f.sizes.mesa c
      → wait_by w c f.events ≡ Some x → Allowed f (SignalTo k c w s)
  Allowed-signal_to f k c w x s legal held hoare is = record {
    in_range = (held-in_range f k legal held, (omega (arith, hoare), wait_by-in_range c w f x legal is));
    fits = (held, IsWaiting-by c w f.events x is, hoare);
  }

  module _ (rest : Rest S) (ready : Ready S) where
    -- the event makes true what it owes
    pub Owes-leave : (f : History S) (k : ℕ) (s : S) → turn f.events ≡ Held k → rest s (priorities f.events)
        → Owes rest ready f.events (Leave k s)
    unfolding Owes
    Owes-leave f k s held asked = subst (rest s) (sym (priorities-leave f.events k s held)) asked

    pub Owes-wait : (f : History S) (k c p : ℕ) (s : S) → turn f.events ≡ Held k
        → rest s (joined (priorities f.events) c p)
        → Owes rest ready f.events (Wait k c p s)
    unfolding Owes
    Owes-wait f k c p s held asked = subst (rest s) (sym (priorities-wait f.events k c p s held)) asked

    handing_owes : (out : Hand) (f : List (Event S)) (k c w : ℕ) (s : S)
        → IsSomeAnd (wait_by w c f) (λ e. ready c (priority_of e) s (priorities (f ++ handing out k c w s ∷ [])))
        → Owes rest ready f (handing out k c w s)
    unfolding Owes
    handing_owes by_pass f k c w s owed = owed
    handing_owes by_signal f k c w s owed = owed
    handing_owes by_signal_to f k c w s owed = owed

    pub Owes-handing : (out : Hand) (f : History S) (k c : ℕ) (x : Event S) (s : S) → turn f.events ≡ Held k
        → chosen c f.events ≡ Some x
        → ready c (slice_index (priorities f.events c) 0) s (taken (priorities f.events) c)
        → Owes rest ready f.events (handing out k c (place_of x) s)
    Owes-handing out f k c x s held is asked =
        let after : ℕ → List ℕ = priorities (f.events ++ handing out k c (place_of x) s ∷ []) in
        let same = priorities-handing out f.events k c (place_of x) s held (Chooses-place c f.events x is) in
        handing_owes out f.events k c (place_of x) s
        (subst (λ (o : Option (Event S)). IsSomeAnd o (λ e. ready c (priority_of e) s after))
        (sym (wait_by-chosen c f.events x is))
        (subst (ready c (priority_of x) s) (sym same)
        (subst (λ (p : ℕ). ready c p s (taken (priorities f.events) c))
        (slice_index-chosen c f.events x is) asked)))

    pub Owes-signal_to : (f : History S) (k c w : ℕ) (x : Event S) (s : S) → turn f.events ≡ Held k
        → wait_by w c f.events ≡ Some x
        → ready c (priority_of x) s (left_by (priorities f.events) c (priority_of x))
        → Owes rest ready f.events (SignalTo k c w s)
    Owes-signal_to f k c w x s held is asked =
        let after : ℕ → List ℕ = priorities (f.events ++ SignalTo k c w s ∷ []) in
        handing_owes by_signal_to f.events k c w s
        (subst (λ (o : Option (Event S)). IsSomeAnd o (λ e. ready c (priority_of e) s after)) (sym is)
        (subst (ready c (priority_of x) s) (sym (priorities-signal_to f.events k c w x s held is)) asked))
