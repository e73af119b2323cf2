-- The histories that only the procedures of a monitor use: what each event does to the state of a model of them.
use Rattle.std.proofs.Common.{◌≡◌, ◌==◌, not, ℕ, List, [], ◌∷◌, ◌++◌, map, Bool, true, false, cond, Some, refl}
use Rattle.std.proofs.Common.{ap, sym, ◌∙◌, subst, append_assoc}
use Rattle.std.specs.List.{filter, list_all}
use Rattle.std.proofs.lemmas.List.{append-nil, append_cancel_right}
use Rattle.hoare_law.specs.declared.event.Event.{Event}
use Rattle.hoare_law.specs.declared.event.History.{History}
use Rattle.hoare_law.specs.declared.event.Event.TheVariants.{Admit, Wait, Signal, Pass, Leave, Resume, Back, Notify}
use Rattle.hoare_law.specs.declared.event.Event.TheVariants.{Broadcast, SignalTo}
use Rattle.hoare_law.specs.declared.turn.Turn.{Turn}
use Rattle.hoare_law.specs.declared.turn.Turn.TheVariants.{Free, Held, Owed, Return}
use Rattle.hoare_law.specs.Events.{place_of, data_of, own, newest, latest_data, with_event, cut_to}
use Rattle.hoare_law.specs.Waiting.{priority_of, waits_on, concerns, waiting}
use Rattle.hoare_law.specs.Sizes.{IsHoare}
use Rattle.hoare_law.specs.Turns.{After, after, stays, frees, hands, turn, turn_of, turn_given_up, urgent}
use Rattle.hoare_law.specs.Called.{called, called_by}
use Rattle.hoare_law.specs.Legal.{IsLegal}
use Rattle.hoare_law.specs.Lawful.{Rest, Ready}
use Rattle.hoare_law.specs.Overtaking.{is_release}
use Rattle.hoare_law.specs.Priorities.{priorities, in_order}
use Rattle.hoare_law.proofs.Events.{newest-push, latest_data-push}
use Rattle.hoare_law.proofs.Called.{called-push}
use Rattle.hoare_law.proofs.Entering.{own-last, turn-in}
use Rattle.hoare_law.proofs.Filters.{HasLast, nothing, pushed, has_last, newest-some}
use Rattle.hoare_law.proofs.Fronts.{own-owed, ready-owed}
use Rattle.hoare_law.proofs.Held.{is_inside, is_free, Hand, handing, turn-held, concerns-own, waiting-held, turn-owed}
use Rattle.hoare_law.proofs.Held.{IsOwed, handed, next_called}
use Rattle.hoare_law.proofs.Leaving.{turn-handing}
use Rattle.hoare_law.proofs.Legal.{Stands-front}
use Rattle.hoare_law.proofs.Owed.{waiting-owed, handed-hoare}
use Rattle.hoare_law.proofs.Priorities.{in_turn, waiting-own, waiting-outside, waiting-return}
use Rattle.hoare_law.proofs.Signallers.{legal_upto, give_up_same}
use Rattle.hoare_law.proofs.Turns.{turn-push}
use Rattle.sweep_schedulers.specs.Follows.{Procedures, HasEntered, HasResumed, Continues, IsUsed}
use Rattle.sweep_schedulers.proofs.Calls.{newest-two}

not_owed_free : (S : Type 0) (us : List ℕ) (w c : ℕ) → turn_given_up {S = S} us [] ≡ Owed w c → ⊥
not_owed_free S [] w c is = cc
not_owed_free S (u ∷ us) w c is = cc

module _ {S : Type 0} where
  -- what the place inside did last is the last event
  pub last_held : (f : List (Event S)) (k : ℕ) (e : Event S) → turn f ≡ Held k → newest (own k f) ≡ Some e
      → newest f ≡ Some e
  last_held f k e held last =
      let r : (y : Event S) × ((g : List (Event S)) × (f ≡ g ++ y ∷ [])) × (is_inside y ≡ true) × (place_of y ≡ k) =
      turn-held f k held in
      let own_last : newest (own k f) ≡ Some r.0 =
      ap (λ l. newest (own k l)) r.1.1 ∙ ap newest (own-last k r.1.0 r.0 r.3) ∙ newest-push (own k r.1.0) r.0 in
      let both : Some r.0 ≡ Some e = sym own_last ∙ last in
      let one : r.0 ≡ e = cc in
      ap newest r.1.1 ∙ newest-push r.1.0 r.0 ∙ ap (λ y. Some y) one

  -- an event of a place that waits nowhere, which is no wait and takes no waiter, leaves the waiters as they are
  in_turn-same : (f : List (Event S)) (e : Event S) → ((d j : ℕ) → concerns d j e ≡ (place_of e == j))
      → ((d : ℕ) → waits_on d e ≡ false)
      → ((d : ℕ) → list_all (λ x. not (place_of e == place_of x)) (waiting d f) ≡ true) → (d : ℕ)
      → in_turn (f ++ e ∷ []) d ≡ in_turn f d
  in_turn-same f e alone no_wait apart d =
      ap (in_order priority_of) (waiting-own f e d (alone d) (apart d)
      ∙ ap (λ b. waiting d f ++ cond b (e ∷ []) []) (no_wait d) ∙ append-nil _)

  -- an entry, a resumption, a return or a leave
  abbrev pub is_still : Event S → Bool
  is_still (Admit k s) = true
  is_still (Resume k c s) = true
  is_still (Back k s) = true
  is_still (Leave k s) = true
  is_still _ = false

  pub resumed_last : (k c p : ℕ) (f : List (Event S)) (a found : S) → HasResumed k c p f a found
      → newest (own k f) ≡ Some (Resume k c found)
  resumed_last k c p f a found r = ap newest r.is ∙ newest-two r.earlier (Wait k c p a) (Resume k c found)

  -- a place that resumed is inside
  resumed_held : (h : History S) (f : List (Event S)) (k c : ℕ) (s : S) → newest f ≡ Some (Resume k c s)
      → turn f ≡ Held k
  unfolding with_event
  resumed_held h f k c s last =
      let r = newest-some f (Resume k c s) last in
      ap turn r.1 ∙ turn-in (cut_to h r.0) k (Resume k c s) refl refl

  -- before it resumed it waited
  waited : (f : List (Event S)) (e : Event S) (k c p : ℕ) (a s : S) → e ≡ Resume k c s
      → HasResumed k c p (f ++ e ∷ []) a s → newest (own k f) ≡ Some (Wait k c p a)
  waited f e k c p a s is r =
      let both : own k f ++ e ∷ [] ≡ (r.earlier ++ Wait k c p a ∷ []) ++ e ∷ [] =
      sym (own-last k f e (ap place_of is)) ∙ r.is ∙ ap (λ y. r.earlier ++ Wait k c p a ∷ y ∷ []) (sym is)
      ∙ sym (append_assoc r.earlier (Wait k c p a ∷ []) (e ∷ [])) in
      ap newest (append_cancel_right (own k f) (r.earlier ++ Wait k c p a ∷ []) (e ∷ []) both)
      ∙ newest-push r.earlier (Wait k c p a)

  freed : (a : After) → is_free a ≡ true → (k : ℕ) (us : List ℕ) (ws : List (Event S))
      → turn_of a k us ws ≡ turn_given_up us ws
  freed stays is k us ws = absurd (cc)
  freed (hands w c) is k us ws = absurd (cc)
  freed frees is k us ws = refl

  -- if the last event released the monitor, and no process is notified, it is owed to none
  not_owed_released : (f : List (Event S)) (w c : ℕ) → ((e : Event S) → newest f ≡ Some e → is_release e ≡ true)
      → called f ≡ [] → turn f ≡ Owed w c → ⊥
  unfolding turn
  not_owed_released f w c done none is = by (has_last f)
    where
      by : HasLast f → ⊥
      by (nothing empty) = let both : Free ≡ Owed w c = sym (ap turn empty) ∙ is in cc
      by (pushed g e ends) =
          let last : newest f ≡ Some e = ap newest ends ∙ newest-push g e in
          let gives : is_free (after e) ≡ true = sym (give_up_same e) ∙ done e last in
          let t : turn (g ++ e ∷ []) ≡ turn_given_up (urgent (g ++ e ∷ [])) (called (g ++ e ∷ [])) =
          turn-push g e ∙ freed (after e) gives (place_of e) (urgent (g ++ e ∷ []))
          (called (g ++ e ∷ [])) in
          not_owed_free S (urgent (g ++ e ∷ [])) w c
          (ap (turn_given_up (urgent (g ++ e ∷ []))) (sym (ap called (sym ends) ∙ none)) ∙ sym t
          ∙ ap turn (sym ends) ∙ is)

none_at_first : (S : Type 0) → called {S = S} [] ≡ []
unfolding called
none_at_first S = refl

-- H is a history that only the procedures use
module _ {S : Type 0} {by : Procedures S} {rest : Rest S} {ready : Ready S} (H : History S)
    (used : IsUsed by rest ready H) where
  -- each event continues its place's procedures
  pub continues : (f later : List (Event S)) (e : Event S) → H.events ≡ f ++ e ∷ later → Continues by f e
  continues f later e at =
      (used.follows _ (used.stands.legal.each f later e at).in_range.0).each f later e at refl

  abbrev pub now : List (Event S) → S
  now f = latest_data (cut_to H f)

  pub now-push : (f : List (Event S)) (e : Event S) → now (f ++ e ∷ []) ≡ data_of e
  unfolding with_event
  now-push f e = latest_data-push (cut_to H f) e

  pub fits : (f later : List (Event S)) → H.events ≡ f ++ later → IsLegal (cut_to H f)
  fits f later is = legal_upto H f later is used.stands.legal

  -- what the place inside did last, it did with the latest data
  pub found_held : (f : List (Event S)) (k : ℕ) (e : Event S) → turn f ≡ Held k → newest (own k f) ≡ Some e
      → now f ≡ data_of e
  found_held f k e held last =
      let r : (ys : List (Event S)) × (f ≡ ys ++ e ∷ []) = newest-some f e (last_held f k e held last) in
      ap now r.1 ∙ now-push r.0 e

  -- what holds at first, and after each event if it held before, holds on
  pub onward : (P : List (Event S) → Type 0)
      → ((f later : List (Event S)) (e : Event S) → H.events ≡ f ++ e ∷ later → P f → P (f ++ e ∷ []))
      → (f mid later : List (Event S)) → H.events ≡ f ++ (mid ++ later) → P f → P (f ++ mid)
  onward P keeps f [] later is first = subst P (sym (append-nil f)) first
  onward P keeps f (e ∷ mid) later is first =
      subst P (append_assoc f (e ∷ []) mid)
      (onward P keeps (f ++ e ∷ []) mid later (is ∙ sym (append_assoc f (e ∷ []) (mid ++ later)))
      (keeps f (mid ++ later) e is first))

  abbrev StaysUncalled : List (Event S) → Event S → Type 0
  StaysUncalled f x = filter (λ y. not (place_of x == place_of y)) (called f) ++ called_by f x ≡ []

  -- no process is ever notified
  uncalled : (f later : List (Event S)) → H.events ≡ f ++ later → called f ≡ []
  uncalled f later is = onward (λ l. called l ≡ []) keeps [] f later is (none_at_first S)
    where
      keeps : (g more : List (Event S)) (e : Event S) → H.events ≡ g ++ e ∷ more → called g ≡ []
          → called (g ++ e ∷ []) ≡ []
      keeps g more e at none = called-push g e ∙ one e (continues g more e at)
        where
          empty : (x : Event S) → called_by g x ≡ [] → StaysUncalled g x
          empty x quiet =
              ap (λ l. filter (λ y. not (place_of x == place_of y)) l ++ called_by g x) none ∙ quiet

          one : (x : Event S) → Continues by g x → StaysUncalled g x
          one (Admit k s) go = empty (Admit k s) refl
          one (Wait k c p s) go = empty (Wait k c p s) refl
          one (Signal k c w s) go = empty (Signal k c w s) refl
          one (Pass k c w s) go = empty (Pass k c w s) refl
          one (Leave k s) go = empty (Leave k s) refl
          one (Resume k c s) go = empty (Resume k c s) refl
          one (Back k s) go = empty (Back k s) refl
          one (SignalTo k c w s) go = absurd go
          one (Notify k c w s) go = absurd go
          one (Broadcast k c s) go = absurd go

  pub still : (f later : List (Event S)) (e : Event S) → H.events ≡ f ++ e ∷ later → is_still e ≡ true → (c : ℕ)
      → in_turn (f ++ e ∷ []) c ≡ in_turn f c
  still f later (Admit k s) is same =
      in_turn-same f (Admit k s) (λ c j. concerns-own (Admit k s) c j refl) (λ c. refl)
      (λ c. waiting-outside f k c (used.stands.legal.each f later (Admit k s) is).fits.1)
  still f later (Resume k b s) is same =
      in_turn-same f (Resume k b s) (λ c j. concerns-own (Resume k b s) c j refl) (λ c. refl)
      (λ c. waiting-owed (cut_to H f) k b c (fits f (Resume k b s ∷ later) is)
      (used.stands.legal.each f later (Resume k b s) is).fits.0)
  still f later (Back k s) is same =
      in_turn-same f (Back k s) (λ c j. concerns-own (Back k s) c j refl) (λ c. refl)
      (λ c. waiting-return f k c (used.stands.legal.each f later (Back k s) is).fits.0)
  still f later (Leave k s) is same =
      in_turn-same f (Leave k s) (λ c j. concerns-own (Leave k s) c j refl) (λ c. refl)
      (λ c. waiting-held f k c (used.stands.legal.each f later (Leave k s) is).fits)
  still f later (Wait k c p s) is same = absurd (cc)
  still f later (Signal k c w s) is same = absurd (cc)
  still f later (Pass k c w s) is same = absurd (cc)
  still f later (SignalTo k c w s) is same = absurd (cc)
  still f later (Notify k c w s) is same = absurd (cc)
  still f later (Broadcast k c s) is same = absurd (cc)

  pub priorities-still : (f later : List (Event S)) (e : Event S) → H.events ≡ f ++ e ∷ later → is_still e ≡ true
      → priorities (f ++ e ∷ []) ≡ priorities f
  unfolding priorities
  priorities-still f later e is same = λ i c. map priority_of (still f later e is same c i)

  -- no process is about to resume, and none just resumed
  pub record IsSettled (f : List (Event S)) : Type 0 where
    pub not_owed : (w c : ℕ) → turn f ≡ Owed w c → ⊥
    pub not_resumed : (k c : ℕ) (s : S) → newest f ≡ Some (Resume k c s) → ⊥

  -- w, which waited on c with priority p and a, is to resume, or just did
  pub data Coming (f : List (Event S)) (w c p : ℕ) (a : S) : Type 0 where
    owed : turn f ≡ Owed w c → newest (own w f) ≡ Some (Wait w c p a) → Coming f w c p a
    resumed : turn f ≡ Held w → HasResumed w c p f a (now f) → Coming f w c p a

  pub settled_apart : (f : List (Event S)) (w c p : ℕ) (a : S) → IsSettled f → Coming f w c p a → ⊥
  settled_apart f w c p a calm (owed t last) = calm.not_owed w c t
  settled_apart f w c p a calm (resumed t r) =
      calm.not_resumed w c (now f)
      (last_held f w (Resume w c (now f)) t (resumed_last w c p f a (now f) r))

  settled_by : (f : List (Event S)) (t : Turn) → turn f ≡ t → ((w c : ℕ) → t ≡ Owed w c → ⊥)
      → ((k : ℕ) → t ≡ Held k → ⊥) → IsSettled f
  settled_by f t at owes holds = record {
    not_owed = λ w c o. owes w c (sym at ∙ o);
    not_resumed = λ k c s last. holds k (sym at ∙ resumed_held H f k c s last);
  }

  -- so at the opening, and after a wait or a leave
  pub settled_released : (f later : List (Event S)) → H.events ≡ f ++ later
      → ((e : Event S) → newest f ≡ Some e → is_release e ≡ true) → IsSettled f
  settled_released f later is done = record {
    not_owed = λ w c t. not_owed_released f w c done (uncalled f later is) t;
    not_resumed = λ k c s last. let off : false ≡ true = done (Resume k c s) last in cc;
  }

  -- and while a process is inside whose last event isn't that it resumed
  settled_inside : (f : List (Event S)) (k : ℕ) (y : Event S) → turn f ≡ Held k
      → ((i c : ℕ) (t : S) → y ≡ Resume i c t → ⊥) → newest (own k f) ≡ Some y → IsSettled f
  settled_inside f k y held other mine = record {
    not_owed = λ w c o. let both : Owed w c ≡ Held k = sym o ∙ held in cc;
    not_resumed = λ i c t last. let both : Some y ≡ Some (Resume i c t) = sym (last_held f k y held mine) ∙ last in
        let one : y ≡ Resume i c t = cc in other i c t one;
  }

  pub resumed_found : (f : List (Event S)) (k c p : ℕ) (a found : S) → turn f ≡ Held k → HasResumed k c p f a found
      → (now f ≡ found) × Coming f k c p a
  resumed_found f k c p a found t r =
      let same = found_held f k (Resume k c found) t (resumed_last k c p f a found r) in
      (same, resumed t (subst (λ (s : S). HasResumed k c p f a s) (sym same) r))

  -- the one that just resumed was about to resume before
  was_owed : (f later : List (Event S)) (j b : ℕ) (s : S) → H.events ≡ f ++ Resume j b s ∷ later → (w c p : ℕ) (a : S)
      → Coming (f ++ Resume j b s ∷ []) w c p a → (turn f ≡ Owed w c) × (newest (own w f) ≡ Some (Wait w c p a))
  unfolding with_event
  was_owed f later j b s is w c p a (owed t last) =
      let both : Owed w c ≡ Held j = sym t ∙ turn-in (cut_to H f) j (Resume j b s) refl refl in absurd (cc)
  was_owed f later j b s is w c p a (resumed t r) =
      let e : Event S = Resume j b s in
      let g : List (Event S) = f ++ e ∷ [] in
      let both : Some e ≡ Some (Resume w c (now g)) =
      sym (newest-push f e) ∙ last_held g w (Resume w c (now g)) t (resumed_last w c p g a (now g) r) in
      let one : e ≡ Resume w c (now g) = cc in
      let place : j ≡ w = cc in
      let on : b ≡ c = cc in (
        (used.stands.legal.each f later e is).fits.0 ∙ (λ i. Owed (place i) (on i)),
        waited f e w c p a (now g) one r,
      )

  -- none is about to resume after another brought itself inside
  none_comes : (f : List (Event S)) (k : ℕ) (e : Event S) → is_inside e ≡ true → place_of e ≡ k
      → ((i c : ℕ) (t : S) → e ≡ Resume i c t → ⊥) → (w c p : ℕ) (a : S) → Coming (f ++ e ∷ []) w c p a → ⊥
  unfolding with_event
  none_comes f k e inside mine other w c p a come =
      settled_apart (f ++ e ∷ []) w c p a
      (settled_inside (f ++ e ∷ []) k e (turn-in (cut_to H f) k e inside mine) other
      (ap newest (own-last k f e mine) ∙ newest-push (own k f) e)) come

  -- after the monitor was handed off to w, which waited on c, w comes
  pub handed_comes : (out : Hand) (f later : List (Event S)) (j c w : ℕ) (s : S)
      → H.events ≡ f ++ handing out j c w s ∷ later
      → (p : ℕ) × (a : S) × Coming (f ++ handing out j c w s ∷ []) w c p a
  unfolding with_event
  handed_comes out f later j c w s is =
      let g : List (Event S) = f ++ handing out j c w s ∷ [] in
      let t : turn g ≡ Owed w c = turn-handing out (cut_to H f) j c w s in
      let r = own-owed (cut_to H g) w c
      (fits g later (is ∙ sym (append_assoc f (handing out j c w s ∷ []) later))) t in
      (r.0, r.1, owed t r.2)

  pub handed_waits : (out : Hand) (f : List (Event S)) (j c w : ℕ) (s : S) (p : ℕ) (a : S)
      → Coming (f ++ handing out j c w s ∷ []) w c p a
      → newest (own w (f ++ handing out j c w s ∷ [])) ≡ Some (Wait w c p a)
  unfolding with_event
  handed_waits out f j c w s p a (owed t last) = last
  handed_waits out f j c w s p a (resumed t r) =
      let both : Owed w c ≡ Held w = sym (turn-handing out (cut_to H f) j c w s) ∙ t in absurd (cc)

  hoare_owed : (f later : List (Event S)) → H.events ≡ f ++ later → (w c : ℕ) → turn f ≡ Owed w c
      → IsHoare H.sizes.conditions H.sizes.mesa c
  hoare_owed f later is w c t = case (turn-owed f w c t)
    where
      case : IsOwed w c f → IsHoare H.sizes.conditions H.sizes.mesa c
      case (handed r) = handed-hoare (cut_to H f) w c (fits f later is) r
      case (next_called r) = let both : r.first ∷ r.others ≡ [] = sym r.are ∙ uncalled f later is in absurd (cc)

  -- ready holds for a process that is to resume, or just did
  pub ready_coming : (f later : List (Event S)) → H.events ≡ f ++ later → (w c p : ℕ) (a : S) → Coming f w c p a
      → ready c p (now f) (priorities f)
  ready_coming f later is w c p a come = case come
    where
      ready_owed : (g more : List (Event S)) → H.events ≡ g ++ more → turn g ≡ Owed w c
          → newest (own w g) ≡ Some (Wait w c p a) → ready c p (now g) (priorities g)
      ready_owed g more at t last =
          ready-owed (cut_to H g) w c p a
          (Stands-front {f = cut_to H g} {h = H}
          (record { sizes = refl; opening = refl; later = more; is = sym at }) used.stands)
          (hoare_owed g more at w c t) t last

      case : Coming f w c p a → ready c p (now f) (priorities f)
      case (owed t last) = ready_owed f later is t last
      case (resumed t r) =
          let e : Event S = Resume w c (now f) in
          let before = newest-some f e (last_held f w e t (resumed_last w c p f a (now f) r)) in
          let g : List (Event S) = before.0 in
          let at : H.events ≡ g ++ e ∷ later =
          is ∙ ap (λ l. l ++ later) before.1 ∙ append_assoc g (e ∷ []) later in
          let was = was_owed g later w c (now f) at w c p a
          (subst (λ (l : List (Event S)). Coming l w c p a) before.1 (resumed t r)) in
          let found : now f ≡ now g = (used.stands.legal.each g later e at).fits.1 in
          let lists : priorities f ≡ priorities g = ap priorities before.1 ∙ priorities-still g later e at refl in
          subst (λ (r : S × (ℕ → List ℕ)). ready c p r.0 r.1) (λ i. (sym found i, sym lists i))
          (ready_owed g (e ∷ later) at was.0 was.1)

  -- A model of the histories: its state m fits the data and the waiters in turn, while no process is about to resume;
  -- and while w, which waited on c with priority p, is to resume, or just did
  module _ {M : Type 0} (AtRest : S → (ℕ → List (Event S)) → M → Type 0)
      (Comes : (w c p : ℕ) → S → (ℕ → List (Event S)) → M → Type 0) where
    -- m is the model's state after f
    pub record Now (f : List (Event S)) (m : M) : Type 0 where
      pub settled : IsSettled f → AtRest (now f) (in_turn f) m
      pub coming : (w c p : ℕ) (a : S) → Coming f w c p a → Comes w c p (now f) (in_turn f) m

  module _ {M : Type 0} {AtRest : S → (ℕ → List (Event S)) → M → Type 0}
      {Comes : (w c p : ℕ) → S → (ℕ → List (Event S)) → M → Type 0} where
    pub Now-settled : (f : List (Event S)) (m : M) → IsSettled f → AtRest (now f) (in_turn f) m → Now AtRest Comes f m
    Now-settled f m calm fit = record {
      settled = λ c. fit;
      coming = λ w c p a come. absurd (settled_apart f w c p a calm come);
    }

    -- a place that did nothing since it entered or returned finds the data as they were left
    pub Now-inside : (f : List (Event S)) (k : ℕ) (y : Event S) (m : M) → turn f ≡ Held k
        → ((i c : ℕ) (t : S) → y ≡ Resume i c t → ⊥) → newest (own k f) ≡ Some y → Now AtRest Comes f m
        → (now f ≡ data_of y) × AtRest (data_of y) (in_turn f) m
    Now-inside f k y m held other mine here =
        let same = found_held f k y held mine in
        (same, subst (λ (s : S). AtRest s (in_turn f) m) same (here.settled (settled_inside f k y held other mine)))

    pub Now-entered : (f : List (Event S)) (k : ℕ) (a : S) (m : M) → turn f ≡ Held k → HasEntered k f a
        → Now AtRest Comes f m
        → (now f ≡ a) × AtRest a (in_turn f) m
    Now-entered f k a m held mine here = Now-inside f k (Admit k a) m held (λ i c t same. cc) mine here

    pub Now-returned : (f : List (Event S)) (k : ℕ) (s : S) (m : M) → turn f ≡ Held k
        → newest (own k f) ≡ Some (Back k s) → Now AtRest Comes f m → (now f ≡ s) × AtRest s (in_turn f) m
    Now-returned f k s m held mine here = Now-inside f k (Back k s) m held (λ i c t same. cc) mine here

    -- a place that resumed finds what it was handed
    pub Now-resumed : (f : List (Event S)) (k c p : ℕ) (a found : S) (m : M) → turn f ≡ Held k
        → HasResumed k c p f a found → Now AtRest Comes f m → (now f ≡ found) × Comes k c p found (in_turn f) m
    Now-resumed f k c p a found m held r here =
        let came = resumed_found f k c p a found held r in
        (came.0, subst (λ (s : S). Comes k c p s (in_turn f) m) came.0 (here.coming k c p a came.1))

    -- after an event that leaves the data and the waiters as they are
    Now-still : (f later : List (Event S)) (e : Event S) (m : M) → H.events ≡ f ++ e ∷ later → is_still e ≡ true
        → data_of e ≡ now f → (IsSettled (f ++ e ∷ []) → IsSettled f)
        → ((w c p : ℕ) (a : S) → Coming (f ++ e ∷ []) w c p a → Coming f w c p a) → Now AtRest Comes f m
        → Now AtRest Comes (f ++ e ∷ []) m
    Now-still f later e m is same found calm came here =
        let lists : in_turn (f ++ e ∷ []) ≡ in_turn f = λ i c. still f later e is same c i in
        let left : now (f ++ e ∷ []) ≡ now f = now-push f e ∙ found in record {
          settled = λ c. subst (λ (r : S × (ℕ → List (Event S))). AtRest r.0 r.1 m) (λ i. (sym left i, sym lists i))
              (here.settled (calm c));
          coming = λ w c p a come. subst (λ (r : S × (ℕ → List (Event S))). Comes w c p r.0 r.1 m)
              (λ i. (sym left i, sym lists i)) (here.coming w c p a (came w c p a come));
        }

    -- after an entry, a return and a resumption
    pub Now-admit : (f later : List (Event S)) (j : ℕ) (s : S) (m : M) → H.events ≡ f ++ Admit j s ∷ later
        → Now AtRest Comes f m → Now AtRest Comes (f ++ Admit j s ∷ []) m
    Now-admit f later j s m is here =
        let a = (used.stands.legal.each f later (Admit j s) is).fits in
        Now-still f later (Admit j s) m is refl a.2 (λ c. settled_by f Free a.0 (λ w d o. cc) (λ k o. cc))
        (λ w c p x come. absurd (none_comes f j (Admit j s) refl refl (λ i d t at. cc) w c p x come)) here

    pub Now-back : (f later : List (Event S)) (j : ℕ) (s : S) (m : M) → H.events ≡ f ++ Back j s ∷ later
        → Now AtRest Comes f m → Now AtRest Comes (f ++ Back j s ∷ []) m
    Now-back f later j s m is here =
        let a = (used.stands.legal.each f later (Back j s) is).fits in
        Now-still f later (Back j s) m is refl a.1 (λ c. settled_by f (Return j) a.0 (λ w d o. cc) (λ k o. cc))
        (λ w c p x come. absurd (none_comes f j (Back j s) refl refl (λ i d t at. cc) w c p x come)) here

    pub Now-resume : (f later : List (Event S)) (j b : ℕ) (s : S) (m : M) → H.events ≡ f ++ Resume j b s ∷ later
        → Now AtRest Comes f m → Now AtRest Comes (f ++ Resume j b s ∷ []) m
    Now-resume f later j b s m is here =
        Now-still f later (Resume j b s) m is refl (used.stands.legal.each f later (Resume j b s) is).fits.1
        (λ calm. absurd (calm.not_resumed j b s (newest-push f (Resume j b s))))
        (λ w c p x come. let was = was_owed f later j b s is w c p x come in owed was.0 was.1) here

    -- after a wait, and after a leave
    Now-released : (f later : List (Event S)) (e : Event S) (m : M) → H.events ≡ f ++ e ∷ later → is_release e ≡ true
        → AtRest (data_of e) (in_turn (f ++ e ∷ [])) m → Now AtRest Comes (f ++ e ∷ []) m
    Now-released f later e m is gives fit =
        Now-settled (f ++ e ∷ []) m
        (settled_released (f ++ e ∷ []) later (is ∙ sym (append_assoc f (e ∷ []) later)) (λ y last. done y last))
        (subst (λ (s : S). AtRest s (in_turn (f ++ e ∷ [])) m) (sym (now-push f e)) fit)
      where
        done : (y : Event S) → newest (f ++ e ∷ []) ≡ Some y → is_release y ≡ true
        done y last =
            let both : Some e ≡ Some y = sym (newest-push f e) ∙ last in
            let one : e ≡ y = cc in ap is_release (sym one) ∙ gives

    pub Now-wait : (f later : List (Event S)) (j c p : ℕ) (s : S) (m : M) → H.events ≡ f ++ Wait j c p s ∷ later
        → AtRest s (in_turn (f ++ Wait j c p s ∷ [])) m → Now AtRest Comes (f ++ Wait j c p s ∷ []) m
    Now-wait f later j c p s m is fit = Now-released f later (Wait j c p s) m is refl fit

    pub Now-leave : (f later : List (Event S)) (j : ℕ) (s : S) (m : M) → H.events ≡ f ++ Leave j s ∷ later
        → AtRest s (in_turn f) m → Now AtRest Comes (f ++ Leave j s ∷ []) m
    Now-leave f later j s m is fit =
        Now-released f later (Leave j s) m is refl
        (subst (λ (q : ℕ → List (Event S)). AtRest s q m) (λ i c. sym (still f later (Leave j s) is refl c) i) fit)

    -- after a signal or a pass to w
    pub Now-hand : (out : Hand) (f : List (Event S)) (j c w : ℕ) (s : S) (m : M)
        → ((p : ℕ) (a : S) → Coming (f ++ handing out j c w s ∷ []) w c p a
        → Comes w c p (now (f ++ handing out j c w s ∷ [])) (in_turn (f ++ handing out j c w s ∷ [])) m)
        → Now AtRest Comes (f ++ handing out j c w s ∷ []) m
    unfolding with_event
    Now-hand out f j c w s m fit = record {
      settled = λ calm. absurd (calm.not_owed w c t);
      coming = λ v d p a come. one v d p a come;
    }
      where
        g : List (Event S)
        g = f ++ handing out j c w s ∷ []

        t : turn g ≡ Owed w c
        t = turn-handing out (cut_to H f) j c w s

        one : (v d p : ℕ) (a : S) → Coming g v d p a → Comes v d p (now g) (in_turn g) m
        one v d p a (owed t1 last) =
            let both : Owed w c ≡ Owed v d = sym t ∙ t1 in
            let place : w ≡ v = cc in
            let on : c ≡ d = cc in
            subst (λ (r : ℕ × ℕ). Comes r.0 r.1 p (now g) (in_turn g) m) (λ i. (place i, on i))
            (fit p a (subst (λ (r : ℕ × ℕ). Coming g r.0 r.1 p a) (λ i. (sym place i, sym on i)) (owed t1 last)))
        one v d p a (resumed t1 r) = let both : Owed w c ≡ Held v = sym t ∙ t1 in absurd (cc)
