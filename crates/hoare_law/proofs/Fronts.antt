-- What a front, or whose turn it is, says of a legal and lawful history.
use Rattle.std.proofs.Common.{◌≡◌, ◌≢◌, ◌==◌, ⊎_elim, ℕ, List, [], ◌∷◌, ◌++◌, length, true, false, cond}
use Rattle.std.proofs.Common.{Option, Some, None, refl, ap, sym, ◌∙◌, subst, arith, eq-eqb, eqb-true, ne_eqb}
use Rattle.std.proofs.Common.{true≢false, length-append}
use Rattle.std.specs.Prelude.{IsSomeAnd}
use Rattle.std.specs.Option.{option_map, unwrap_or}
use Rattle.std.specs.List.{list_all}
use Rattle.std.proofs.lemmas.List.{append-nil}
use Rattle.std.proofs.lemmas.List.Elements.{filter-append}
use Rattle.hoare_law.specs.declared.event.Event.{Event}
use Rattle.hoare_law.specs.declared.event.History.{History}
use Rattle.hoare_law.specs.declared.event.Event.TheVariants.{Admit, Wait, Signal, Pass, Leave, Resume, Back, Notify}
use Rattle.hoare_law.specs.declared.event.Event.TheVariants.{Broadcast, SignalTo}
use Rattle.hoare_law.specs.declared.turn.Turn.{Turn}
use Rattle.hoare_law.specs.declared.turn.Turn.TheVariants.{Free, Held, Owed, Return}
use Rattle.hoare_law.specs.Events.{place_of, data_of, own, newest, latest_data, cut_to}
use Rattle.hoare_law.specs.Sizes.{IsHoare, IsMesa}
use Rattle.hoare_law.specs.Waiting.{priority_of, waiting, chosen, Chooses, wait_by}
use Rattle.hoare_law.specs.Turns.{After, stays, frees, hands, after, is_signal, turn, is_out}
use Rattle.hoare_law.specs.Priorities.{priorities}
use Rattle.hoare_law.specs.Legal.{Allowed, IsLegal}
use Rattle.hoare_law.specs.Lawful.{Rest, Ready, OwesAfter, Owes, IsLawful, Stands}
use Rattle.hoare_law.specs.Growth.{Begins}
use Rattle.hoare_law.proofs.Events.{newest-push, own-push}
use Rattle.hoare_law.proofs.Filters.{newest-some, list_all-at, list_all-filter_own}
use Rattle.hoare_law.proofs.Held.{is_inside, EndsHanding, EndsCalled, IsOwed, handed, next_called, handing}
use Rattle.hoare_law.proofs.Held.{Hand, by_pass, by_signal, by_signal_to, MayBeHanded}
use Rattle.hoare_law.proofs.Held.{place_of-handing, data_of-handing, is_free, gives_up, waits_on-is, turn-owed}
use Rattle.hoare_law.proofs.Held.{turn-return, turn-free, own-held, held_one}
use Rattle.hoare_law.proofs.Waiters.{Waits, LastSignals, own-return}
use Rattle.hoare_law.proofs.Priorities.{Chooses-chosen, wait_by-waits, wait_by-chosen, waiting-wait_by}
use Rattle.hoare_law.proofs.Owed.{IsCalled, first-called, turn-handed, turn-called}

none_added : {X : Type 0} (xs ys : List X) → xs ++ ys ≡ xs → ys ≡ []
none_added xs [] same = refl
none_added xs (y ∷ ys) same = absurd (omega (arith, ap length same, length-append xs (y ∷ ys)))

some_at : {X : Type 0} (P : X → Type 0) (o : Option X) (x : X) → o ≡ Some x → IsSomeAnd o P → P x
some_at P None x is p = absurd p
some_at P (Some y) x is p = let same : y ≡ x = cc in subst P same p

module _ {S : Type 0} where
  turn_taken : (h : List (Event S)) (t u : Turn) → turn h ≡ t → turn h ≡ u → t ≡ u
  turn_taken h t u a b = sym a ∙ b

  -- while k has the turn, only k acts
  pub place_of-held : (h : History S) (k : ℕ) (e : Event S) → turn h.events ≡ Held k → Allowed h e → place_of e ≡ k
  place_of-held h k (Admit j s) is a =
      let t : Free ≡ Held k = turn_taken h.events Free (Held k) a.fits.0 is in absurd (cc)
  place_of-held h k (Resume j c s) is a =
      let t : Owed j c ≡ Held k = turn_taken h.events (Owed j c) (Held k) a.fits.0 is in absurd (cc)
  place_of-held h k (Back j s) is a =
      let t : Return j ≡ Held k = turn_taken h.events (Return j) (Held k) a.fits.0 is in absurd (cc)
  place_of-held h k (Wait j c p s) is a = held_one h.events j k a.fits is
  place_of-held h k (Leave j s) is a = held_one h.events j k a.fits is
  place_of-held h k (Signal j c w s) is a = held_one h.events j k a.fits.0 is
  place_of-held h k (SignalTo j c w s) is a = held_one h.events j k a.fits.0 is
  place_of-held h k (Pass j c w s) is a = held_one h.events j k a.fits.0 is
  place_of-held h k (Notify j c w s) is a = held_one h.events j k a.fits.0 is
  place_of-held h k (Broadcast j c s) is a = held_one h.events j k a.fits.0 is

  -- if a place has the turn at its front and did nothing since, the history is its front
  pub still_held : (k : ℕ) (f log : History S) → IsLegal log → turn f.events ≡ Held k → Begins f log
      → own k log.events ≡ own k f.events → log ≡ f
  still_held k f log legal is begins same = by begins.later begins.is
    where
      one_more : (e : Event S) (more : List (Event S)) → f.events ++ e ∷ more ≡ log.events → place_of e ≡ k
          → own k (e ∷ more) ≡ []
      one_more e more at placed =
          none_added (own k f.events) (own k (e ∷ more))
          (sym (filter-append (λ x. place_of x == k) f.events (e ∷ more)) ∙ ap (own k) at ∙ same)

      by : (later : List (Event S)) → f.events ++ later ≡ log.events → log ≡ f
      by [] at =
          λ i. record {
            sizes = sym begins.sizes i;
            opening = sym begins.opening i;
            events = (sym at ∙ append-nil f.events) i;
          }
      by (e ∷ more) at =
          let placed : place_of e ≡ k =
          place_of-held (cut_to log f.events) k e is (legal.each f.events more e (sym at)) in
          let kept : own k (e ∷ more) ≡ e ∷ own k more =
          ap (λ b. cond b (e ∷ own k more) (own k more)) (eq-eqb (place_of e) k placed) in
          let none : e ∷ own k more ≡ [] = sym kept ∙ one_more e more at placed in
          absurd (cc)

  -- unless it was a signal to a place, x is the chosen waiter on c
  abbrev pub ByRule : Hand → ℕ → List (Event S) → Event S → Type 0
  ByRule by_signal_to c h x = Unit {0}
  ByRule _ c h x = chosen c h ≡ Some x

  -- the last event handed off the monitor to k, which waited on c with x
  pub record IsHanded (h : List (Event S)) (k c : ℕ) (x : Event S) : Type 0 where
    pub hand : EndsHanding k c h
    pub waited : wait_by k c hand.before ≡ Some x
    pub by_rule : ByRule hand.out c hand.before x
    pub is : x ≡ Wait k c (priority_of x) (data_of x)
    pub last : newest (own k h) ≡ Some x

  handing_fits : (out : Hand) (f : History S) (k c w : ℕ) (s : S) → Allowed f (handing out k c w s)
      → (turn f.events ≡ Held k) × MayBeHanded out c f.events w
  handing_fits by_pass f k c w s a = (a.fits.0, a.fits.1)
  handing_fits by_signal f k c w s a = (a.fits.0, a.fits.1)
  handing_fits by_signal_to f k c w s a = (a.fits.0, a.fits.1)

  by_choice : (c w : ℕ) (h : List (Event S)) → Chooses c h w
      → (x : Event S) × (wait_by w c h ≡ Some x) × (place_of x ≡ w) × (chosen c h ≡ Some x)
  by_choice c w h chooses =
      let r = Chooses-chosen c w h chooses in
      (r.0, ap (λ k. wait_by k c h) (sym r.2) ∙ wait_by-chosen c h r.0 r.1, r.2, r.1)

  -- the wait of the place to which the monitor may be handed off
  handed_wait : (out : Hand) (c w : ℕ) (h : List (Event S)) → MayBeHanded out c h w
      → (x : Event S) × (wait_by w c h ≡ Some x) × (place_of x ≡ w) × ByRule out c h x
  handed_wait by_pass c w h may = by_choice c w h may
  handed_wait by_signal c w h may = by_choice c w h may
  handed_wait by_signal_to c w h may = let r = waiting-wait_by c w h may in (r.0, r.1, r.2, tt)

  -- the process to which the monitor was handed off waited: its own last event is its wait
  pub owed-handed : (h : History S) (k c : ℕ) → IsLegal h → EndsHanding k c h.events
      → (x : Event S) × IsHanded h.events k c x
  owed-handed h k c legal r =
      let j : ℕ = r.by in
      let g : List (Event S) = r.before in
      let hand : Event S = handing r.out j c k r.left in
      let fits : (turn g ≡ Held j) × MayBeHanded r.out c g k =
      handing_fits r.out (cut_to h g) j c k r.left (legal.each g [] hand r.ends) in
      let x : (x : Event S) × (wait_by k c g ≡ Some x) × (place_of x ≡ k) × ByRule r.out c g x =
      handed_wait r.out c k g fits.1 in
      let waits : Waits c g x.0 = (wait_by-waits c k g x.0 x.1).0 in
      let last : newest (own k g) ≡ Some x.0 = ap (λ i. newest (own i g)) (sym x.2) ∙ waits.last in
      let came : (e : Event S) × (newest (own j g) ≡ Some e) × (is_inside e ≡ true) = own-held g j fits.0 in
      let other : j ≢ k = λ same.
      let both : Some came.0 ≡ Some x.0 = sym came.1 ∙ ap (λ i. newest (own i g)) same ∙ last in
      let one : came.0 ≡ x.0 = cc in
      true≢false (sym came.2 ∙ ap is_inside (one ∙ waits_on-is c x.0 waits.on)) in
      let apart : (place_of hand == k) ≡ false =
      ap (λ i. i == k) (place_of-handing r.out j c k r.left) ∙ ne_eqb j k other in
      let kept : own k h.events ≡ own k g =
      ap (own k) r.ends ∙ own-push k g hand ∙ ap (λ b. own k g ++ cond b (hand ∷ []) []) apart ∙ append-nil _ in (
        x.0,
        record {
          hand = r;
          waited = x.1;
          by_rule = x.3;
          is = waits_on-is c x.0 waits.on ∙ ap (λ i. Wait i c (priority_of x.0) (data_of x.0)) x.2;
          last = ap newest kept ∙ last;
        },
      )

  latest_data-ends : (h : History S) (g : List (Event S)) (e : Event S) → h.events ≡ g ++ e ∷ []
      → latest_data h ≡ data_of e
  unfolding latest_data
  latest_data-ends h g e is = ap (λ o. unwrap_or (option_map data_of o) h.opening) (ap newest is ∙ newest-push g e)

  handing_owed : (rest : Rest S) (ready : Ready S) (out : Hand) (g : List (Event S)) (k c w : ℕ) (s : S) (x : Event S)
      → wait_by w c g ≡ Some x
      → Owes rest ready g (handing out k c w s) → ready c (priority_of x) s (priorities (g ++ handing out k c w s ∷ []))
  unfolding Owes
  handing_owed rest ready by_pass g k c w s x is owes = some_at _ (wait_by w c g) x is owes
  handing_owed rest ready by_signal g k c w s x is owes = some_at _ (wait_by w c g) x is owes
  handing_owed rest ready by_signal_to g k c w s x is owes = some_at _ (wait_by w c g) x is owes

  give_up_owes : (rest : Rest S) (ready : Ready S) (g : List (Event S)) (e : Event S) → gives_up e ≡ true
      → Owes rest ready g e → rest (data_of e) (priorities (g ++ e ∷ []))
  unfolding Owes
  give_up_owes rest ready g e is owes = by (after e) is owes
    where
      by : (a : After) → is_free a ≡ true → OwesAfter rest ready g e a → rest (data_of e) (priorities (g ++ e ∷ []))
      by frees free owed = owed
      by stays free owed = absurd (cc)
      by (hands w c) free owed = absurd (cc)

  module _ {rest : Rest S} {ready : Ready S} where
    given_up : (h : History S) (g : List (Event S)) (e : Event S) → IsLawful rest ready h → h.events ≡ g ++ e ∷ []
        → gives_up e ≡ true → rest (latest_data h) (priorities h.events)
    given_up h g e lawful is gives =
        subst (λ (s : S). rest s (priorities h.events)) (sym (latest_data-ends h g e is))
        (subst (λ (l : List (Event S)). rest (data_of e) (priorities l)) (sym is)
        (give_up_owes rest ready g e gives (lawful.each g [] e is)))

    -- a process to which the monitor is owed, from one of Hoare's conditions, finds what has to be ready for its wait
    pub ready-owed : (h : History S) (k c p : ℕ) (s : S) → Stands rest ready h
        → IsHoare h.sizes.conditions h.sizes.mesa c → turn h.events ≡ Owed k c
        → newest (own k h.events) ≡ Some (Wait k c p s) → ready c p (latest_data h) (priorities h.events)
    ready-owed h k c p s stands hoare is last =
        let r : (x : Event S) × IsHanded h.events k c x =
        owed-handed h k c stands.legal (turn-handed h k c stands.legal hoare is) in
        let both : Some r.0 ≡ Some (Wait k c p s) = sym r.1.last ∙ last in
        let one : r.0 ≡ Wait k c p s = cc in
        let l = r.1.hand in
        let hand : Event S = handing l.out l.by c k l.left in
        let found : ready c (priority_of r.0) l.left (priorities (l.before ++ hand ∷ [])) =
        handing_owed rest ready l.out l.before l.by c k l.left r.0 r.1.waited
        (stands.lawful.each l.before [] hand l.ends) in
        let kept : latest_data h ≡ l.left =
        latest_data-ends h l.before hand l.ends ∙ data_of-handing l.out l.by c k l.left in
        subst (λ (q : ℕ). ready c q (latest_data h) (priorities h.events)) (ap priority_of one)
        (subst (λ (t : S). ready c (priority_of r.0) t (priorities h.events)) (sym kept)
        (subst (λ (g : List (Event S)). ready c (priority_of r.0) l.left (priorities g)) (sym l.ends) found))

    -- a process to which it is owed from a Mesa condition finds the monitor at rest
    pub rest-owed : (h : History S) (k c : ℕ) → Stands rest ready h → IsMesa h.sizes.conditions h.sizes.mesa c
        → turn h.events ≡ Owed k c → rest (latest_data h) (priorities h.events)
    rest-owed h k c stands mesa is =
        let r : EndsCalled k c h.events = turn-called h k c stands.legal mesa is in
        given_up h r.ends.0 r.by stands.lawful r.ends.1 r.gives

    -- a signaller that returns finds the monitor at rest
    pub rest-return : (h : History S) (k : ℕ) → IsLawful rest ready h → turn h.events ≡ Return k
        → rest (latest_data h) (priorities h.events)
    rest-return h k lawful is =
        let r = turn-return h.events k is in
        given_up h r.1.0 r.0 lawful r.1.1 r.2

    rest_opening : (h : History S) → IsLawful rest ready h → h.events ≡ [] → rest (latest_data h) (priorities h.events)
    unfolding latest_data priorities waiting
    rest_opening h lawful none =
        subst (λ (l : List (Event S)). rest (unwrap_or (option_map data_of (newest l)) h.opening) (priorities l))
        (sym none) lawful.opens

    -- an entering process finds the monitor at rest
    pub rest-free : (h : History S) → IsLawful rest ready h → turn h.events ≡ Free
        → rest (latest_data h) (priorities h.events)
    rest-free h lawful is =
        ⊎_elim (rest_opening h lawful) (λ r. given_up h r.1.0 r.0 lawful r.1.1 r.2) (turn-free h.events is)

  -- the last event of a place to which the monitor is owed is its wait
  pub own-owed : (h : History S) (k c : ℕ) → IsLegal h → turn h.events ≡ Owed k c
      → (p : ℕ) × (s : S) × (newest (own k h.events) ≡ Some (Wait k c p s))
  own-owed h k c legal is = by (turn-owed h.events k c is)
    where
      by : IsOwed k c h.events → (p : ℕ) × (s : S) × (newest (own k h.events) ≡ Some (Wait k c p s))
      by (handed r) =
          let x : (x : Event S) × IsHanded h.events k c x = owed-handed h k c legal r in
          (priority_of x.0, data_of x.0, x.1.last ∙ ap (λ y. Some y) x.1.is)
      by (next_called r) =
          let x : Event S = r.first in
          let was : IsCalled h x = first-called h k c legal r in
          let is : x ≡ Wait k c (priority_of x) (data_of x) =
          waits_on-is _ x was.waits ∙ (λ i. Wait (r.place i) (r.on i) (priority_of x) (data_of x)) in
          (priority_of x, data_of x, ap (λ j. newest (own j h.events)) (sym r.place) ∙ was.last ∙ ap (λ y. Some y) is)

  -- the last event of k is an event of place k
  pub place_of-own : (h : List (Event S)) (k : ℕ) (x : Event S) → newest (own k h) ≡ Some x → place_of x ≡ k
  place_of-own h k x is =
      let r : (ys : List (Event S)) × (own k h ≡ ys ++ x ∷ []) = newest-some (own k h) x is in
      eqb-true (place_of x) k
      (list_all-at (λ y. place_of y == k) r.0 x [] (ap (list_all (λ y. place_of y == k)) (sym r.1)
      ∙ list_all-filter_own (λ y. place_of y == k) h))

  signal_stays : (x : Event S) → is_signal x ≡ true → is_out (Some x) ≡ false
  signal_stays (Signal k c w s) is = refl
  signal_stays (SignalTo k c w s) is = refl
  signal_stays (Admit k s) is = absurd (cc)
  signal_stays (Wait k c p s) is = absurd (cc)
  signal_stays (Pass k c w s) is = absurd (cc)
  signal_stays (Leave k s) is = absurd (cc)
  signal_stays (Resume k c s) is = absurd (cc)
  signal_stays (Back k s) is = absurd (cc)
  signal_stays (Notify k c w s) is = absurd (cc)
  signal_stays (Broadcast k c s) is = absurd (cc)

  -- the last event of a place that returns is a signal of its own
  pub own-returning : (h : List (Event S)) (k : ℕ) → turn h ≡ Return k
      → (e : Event S) × (newest (own k h) ≡ Some e) × (is_signal e ≡ true) × (is_out (Some e) ≡ false)
  own-returning h k is = let r : LastSignals h k = own-return h k is in (r.0, r.1, r.2, signal_stays r.0 r.2)
