-- What happened between a wait on a Mesa condition and its end.
use Rattle.std.proofs.Common.{◌≡◌, ◌≢◌, ◌==◌, ◌||◌, ◌+◌, ◌≤◌, not, ℕ, List, [], ◌∷◌, ◌++◌, length, map, Bool}
use Rattle.std.proofs.Common.{true, false, cond, Some, refl, ap, sym, ◌∙◌, subst, arith, eq-eqb, eqb-true, ne_eqb}
use Rattle.std.proofs.Common.{append_assoc, length-append}
use Rattle.std.specs.List.{filter, list_all}
use Rattle.std.proofs.lemmas.List.{append-nil}
use Rattle.std.proofs.lemmas.List.Elements.{filter-append}
use Rattle.hoare_law.specs.declared.event.Event.{Event}
use Rattle.hoare_law.specs.declared.event.History.{History}
use Rattle.hoare_law.specs.declared.event.Event.TheVariants.{Admit, Wait, Signal, Pass, Leave, Resume, Back, Notify}
use Rattle.hoare_law.specs.declared.event.Event.TheVariants.{Broadcast, SignalTo}
use Rattle.hoare_law.specs.declared.turn.Turn.TheVariants.{Held, Owed}
use Rattle.hoare_law.specs.Events.{place_of, own, newest, with_event, cut_to}
use Rattle.hoare_law.specs.Sizes.{IsHoare, IsMesa}
use Rattle.hoare_law.specs.Waiting.{priority_of, waits_on, takes, concerns, waiting, chosen, IsWaiting}
use Rattle.hoare_law.specs.Called.{called}
use Rattle.hoare_law.specs.Turns.{is_signal, urgent, turn}
use Rattle.hoare_law.specs.Legal.{Allowed, IsLegal}
use Rattle.hoare_law.specs.Growth.{AddsTwo}
use Rattle.hoare_law.specs.Overtaking.{takes_from, taken_from, waits_below, waiters_up_to, signals_on, signals_to}
use Rattle.hoare_law.specs.Overtaking.{is_notification, signals, resumed_called}
use Rattle.hoare_law.specs.MesaWaits.{MesaWait}
use Rattle.hoare_law.proofs.Events.{newest-push}
use Rattle.hoare_law.proofs.Filters.{filter-none}
use Rattle.hoare_law.proofs.Sorted.{in_order-filter, length-in_order}
use Rattle.hoare_law.proofs.Priorities.{in_turn, Chooses-waits, waiting-wait_by, wait_by-waits}
use Rattle.hoare_law.proofs.Held.{own-held, EndsCalled}
use Rattle.hoare_law.proofs.Waiters.{Waits, chosen-waits, condition-waits_on}
use Rattle.hoare_law.proofs.Owed.{one_kind, turn-called, first-called}
use Rattle.hoare_law.proofs.Calling.{called-notify, called-broadcast}
use Rattle.hoare_law.proofs.Signallers.{own_other, legal_upto, stay_by, urgent-apart, in_no_signal, given_up}
use Rattle.hoare_law.proofs.Signallers.{given_up-push}
use Rattle.hoare_law.proofs.PassedOver.{passed, signals_to_more, chosen_alone, one_if}
use Rattle.hoare_law.proofs.Resuming.{no_elements, called_meanwhile, called_bound, first_alone}
use Rattle.hoare_law.proofs.Between.{Between, between_two}
use Rattle.hoare_law.proofs.Awaiting.{stands_at}

none_at_first : (S : Type 0) (c : ℕ) → signals_to {S = S} c [] ≡ 0
unfolding signals_to
none_at_first S c = refl

module _ {S : Type 0} where
  -- the first event that concerns the place k, which waits on c, if there is one
  data Touch (c k : ℕ) (later : List (Event S)) : Type 0 where
    untouched : list_all (λ y. not (concerns c k y)) later ≡ true → Touch c k later
    touched : (earlier rest : List (Event S)) (e : Event S) → later ≡ earlier ++ e ∷ rest
        → list_all (λ y. not (concerns c k y)) earlier ≡ true → concerns c k e ≡ true → Touch c k later

  touch : (c k : ℕ) (later : List (Event S)) → Touch c k later
  touch c k [] = untouched refl
  touch c k (y ∷ later) = by (concerns c k y) refl (touch c k later)
    where
      by : (b : Bool) → concerns c k y ≡ b → Touch c k later → Touch c k (y ∷ later)
      by true here rest = touched [] later y refl refl here
      by false quiet (untouched all) = untouched (rw quiet all)
      by false quiet (touched earlier rest e is all here) =
          touched (y ∷ earlier) rest e (ap (λ l. y ∷ l) is) (rw quiet all) here

  -- a place that does nothing does nothing before, in, and after an event
  own_parts : (k : ℕ) (earlier rest : List (Event S)) (e : Event S) → own k (earlier ++ e ∷ rest) ≡ []
      → (own k earlier ≡ []) × (place_of e ≢ k) × (own k rest ≡ [])
  own_parts k [] rest e none = let o = own_other k e rest none in (refl, o.0, o.1)
  own_parts k (y ∷ earlier) rest e none =
      let o = own_other k y (earlier ++ e ∷ rest) none in let r = own_parts k earlier rest e o.1 in (
        ap (λ b. cond b (y ∷ own k earlier) (own k earlier)) (ne_eqb (place_of y) k o.0) ∙ r.0,
        r.1,
        r.2,
      )

  -- no place on a Mesa condition is resumed by a signal to it
  no_signal_on : (f : History S) (e : Event S) (c : ℕ) → IsMesa f.sizes.conditions f.sizes.mesa c → Allowed f e
      → signals_on c e ≡ false
  no_signal_on f (SignalTo k d w s) c mesa may = ne_eqb d c (λ same.
      one_kind f.sizes.conditions f.sizes.mesa c
      (subst (IsHoare f.sizes.conditions f.sizes.mesa) same may.fits.2) mesa)
  no_signal_on f (Admit k s) c mesa may = refl
  no_signal_on f (Wait k d p s) c mesa may = refl
  no_signal_on f (Signal k d w s) c mesa may = refl
  no_signal_on f (Pass k d w s) c mesa may = refl
  no_signal_on f (Leave k s) c mesa may = refl
  no_signal_on f (Resume k d s) c mesa may = refl
  no_signal_on f (Back k s) c mesa may = refl
  no_signal_on f (Notify k d w s) c mesa may = refl
  no_signal_on f (Broadcast k d s) c mesa may = refl

  none_named : (h : History S) (f later : List (Event S)) (c : ℕ) → IsLegal h
      → IsMesa h.sizes.conditions h.sizes.mesa c → h.events ≡ f ++ later → signals_to c later ≡ 0
  none_named h f [] c legal mesa at = none_at_first S c
  none_named h f (e ∷ later) c legal mesa at =
      let none = ap one_if (no_signal_on (cut_to h f) e c mesa (legal.each f later e at)) in
      let rest = none_named h (f ++ e ∷ []) later c legal mesa (at ∙ sym (append_assoc f (e ∷ []) later)) in
      omega (arith, signals_to_more c e later, none, rest)

  -- a place among the waiters isn't apart from them
  not_apart : (c : ℕ) (h us : List (Event S)) (x : Event S) (vs : List (Event S)) → in_turn h c ≡ us ++ x ∷ vs
      → list_all (λ y. not (place_of x == place_of y)) (waiting c h) ≡ true → ⊥
  not_apart c h us x vs is apart =
      let p : Event S → Bool = λ y. place_of x == place_of y in
      let none : length (filter p (in_turn h c)) ≡ 0 =
      sym (sym (length-in_order priority_of (filter p (waiting c h)))
      ∙ ap length (in_order-filter priority_of p (waiting c h)))
      ∙ ap length (filter-none p (waiting c h) apart) in
      let parts = ap (λ l. length (filter p l)) is ∙ ap length (filter-append p us (x ∷ vs))
      ∙ length-append (filter p us) (filter p (x ∷ vs)) in
      let here : length (filter p (x ∷ vs)) ≡ length (x ∷ filter p vs) =
      ap (λ b. length (cond b (x ∷ filter p vs) (filter p vs))) (eq-eqb (place_of x) (place_of x) refl) in
      absurd (omega (arith, none, parts, here))

  -- the event e notified the waiter x, with us before it
  record Notified (a : History S) (e : Event S) (us : List (Event S)) (x : Event S) : Type 0 where
    notifies : is_notification e ≡ true
    alone : (c : ℕ) → takes_from c e ≡ true → us ≡ []
    behind : List (Event S)
    now : called (a.events ++ e ∷ []) ≡ (called a.events ++ us) ++ x ∷ behind
    signallers : urgent (a.events ++ e ∷ []) ≡ urgent a.events
    kept : given_up (a.events ++ e ∷ []) ≡ 0

  -- a place inside that notifies others changes nothing for the signallers
  same_signallers : (a : List (Event S)) (e : Event S) → turn a ≡ Held (place_of e) → is_signal e ≡ false
      → urgent (a ++ e ∷ []) ≡ urgent a
  same_signallers a e held quiet =
      let r = own-held a (place_of e) held in
      stay_by a e (urgent-apart a (place_of e) r.0 r.1 (in_no_signal r.0 r.2))
      ∙ ap (λ b. urgent a ++ cond b (place_of e ∷ []) []) quiet ∙ append-nil (urgent a)

  -- two waits of one place are the same
  one_wait : (a : List (Event S)) (c d : ℕ) (x y : Event S) → newest (own (place_of x) a) ≡ Some x → waits_on c x ≡ true
      → Waits d a y → place_of y ≡ place_of x → (y ≡ x) × (d ≡ c)
  one_wait a c d x y last on waits same =
      let both : Some y ≡ Some x = sym waits.last ∙ ap (λ j. newest (own j a)) same ∙ last in
      let one : y ≡ x = cc in
      (one, sym (condition-waits_on d x (ap (waits_on d) (sym one) ∙ waits.on)) ∙ condition-waits_on c x on)

  -- an event that takes a waiter from a Mesa condition notifies it
  notified : (a : History S) (e : Event S) (c : ℕ) (us : List (Event S)) (x : Event S) (vs : List (Event S)) → IsLegal a
      → Allowed a e → IsMesa a.sizes.conditions a.sizes.mesa c → in_turn a.events c ≡ us ++ x ∷ vs
      → newest (own (place_of x) a.events) ≡ Some x → waits_on c x ≡ true → takes c (place_of x) e ≡ true
      → Notified a e us x
  unfolding with_event
  notified a e c us x vs legal may mesa is last on taken = by e may taken
    where
      handed : (d w : ℕ) → (w == place_of x) ≡ true → IsWaiting d a.events w
          → IsHoare a.sizes.conditions a.sizes.mesa d → ⊥
      handed d w named waits hoare =
          let r = waiting-wait_by d w a.events waits in
          let o = one_wait a.events c d x r.0 last on (wait_by-waits d w a.events r.0 r.1).0
          (r.2 ∙ eqb-true w (place_of x) named) in
          one_kind a.sizes.conditions a.sizes.mesa c (subst (IsHoare a.sizes.conditions a.sizes.mesa) o.1 hoare) mesa

      by : (y : Event S) → Allowed a y → takes c (place_of x) y ≡ true → Notified a y us x
      by (Notify j d w s) fits named =
          let r = called-notify a j d w s legal fits in
          let o = one_wait a.events c d x r.0 last on (chosen-waits d a.events r.0 r.1)
          (r.2 ∙ eqb-true w (place_of x) named) in
          let chose : chosen c a.events ≡ Some x =
          ap (λ i. chosen i a.events) (sym o.1) ∙ r.1 ∙ ap (λ z. Some z) o.0 in
          let first : us ≡ [] = no_elements us (chosen_alone c a.events x us vs chose is) in
          record {
            notifies = refl;
            alone = λ b one. first;
            behind = [];
            now = r.3 ∙ (λ i. called a.events ++ o.0 i ∷ [])
                ∙ ap (λ l. l ++ x ∷ [])
                (sym (append-nil (called a.events)) ∙ ap (λ l. called a.events ++ l) (sym first));
            signallers = same_signallers a.events (Notify j d w s) fits.fits.0 refl;
            kept = given_up-push a.events (Notify j d w s);
          }
      by (Broadcast j d s) fits named = record {
        notifies = refl;
        alone = λ b one. absurd (cc);
        behind = vs;
        now = called-broadcast a j d s legal fits
            ∙ ap (λ l. called a.events ++ l) (ap (in_turn a.events) (eqb-true d c named) ∙ is)
            ∙ sym (append_assoc (called a.events) us (x ∷ vs));
        signallers = same_signallers a.events (Broadcast j d s) fits.fits.0 refl;
        kept = given_up-push a.events (Broadcast j d s);
      }
      by (Signal j d w s) fits named =
          absurd (handed d w named (Chooses-waits d w a.events fits.fits.1) fits.fits.2)
      by (Pass j d w s) fits named = absurd (handed d w named (Chooses-waits d w a.events fits.fits.1) fits.fits.2)
      by (SignalTo j d w s) fits named = absurd (handed d w named fits.fits.1 fits.fits.2)
      by (Admit j s) fits named = absurd (cc)
      by (Wait j d p s) fits named = absurd (cc)
      by (Leave j s) fits named = absurd (cc)
      by (Resume j d s) fits named = absurd (cc)
      by (Back j s) fits named = absurd (cc)

  pub mesa_wait_ended : (f h : History S) (k c p : ℕ) (s t : S) → IsLegal h
      → IsMesa h.sizes.conditions h.sizes.mesa c → AddsTwo f (Wait k c p s) (Resume k c t) h
      → MesaWait f h k c p s t
  mesa_wait_ended f h k c p s t legal mesa adds = by (touch c k b.later)
    where
      x : Event S
      x = Wait k c p s

      b : Between f (Wait k c p s) (Resume k c t) h
      b = between_two f (Wait k c p s) (Resume k c t) h refl adds (λ same. cc)

      g : History S
      g = cut_to h (f.events ++ x ∷ b.later)

      at : h.events ≡ g.events ++ Resume k c t ∷ []
      at = b.is ∙ sym (append_assoc f.events (x ∷ b.later) (Resume k c t ∷ []))

      fits : IsLegal g
      fits = legal_upto h g.events (Resume k c t ∷ []) at legal

      owed : turn g.events ≡ Owed k c
      owed = (legal.each g.events [] (Resume k c t) at).fits.0

      r : EndsCalled k c g.events
      r = turn-called g k c fits mesa owed

      stood : (us ts : List (Event S)) × (in_turn (f.events ++ x ∷ []) c ≡ us ++ x ∷ ts)
          × (length us ≡ waiters_up_to c p f.events)
      stood = stands_at f.events k c p s (fits.each f.events b.later x refl).fits

      by : Touch c k b.later → MesaWait f h k c p s t
      by (untouched all) =
          let start : g.events ≡ (f.events ++ x ∷ []) ++ b.later = sym (append_assoc f.events (x ∷ []) b.later) in
          let stays = passed c g (f.events ++ x ∷ []) b.later stood.0 x stood.1 fits start stood.2 all in
          absurd (not_apart c g.events stays.before x stays.behind (ap (λ l. in_turn l c) start ∙ stays.now)
          (ap (λ i. list_all (λ y. not (i == place_of y)) (waiting c g.events)) (sym r.place)
          ∙ (first-called g k c fits r).apart c))
      by (touched earlier rest e ends all here) =
          let a : History S = cut_to g (f.events ++ x ∷ earlier) in
          let parts = own_parts k earlier rest e (ap (own k) (sym ends) ∙ b.alone) in
          let whole : g.events ≡ a.events ++ e ∷ rest =
          ap (λ l. f.events ++ x ∷ l) ends ∙ sym (append_assoc f.events (x ∷ earlier) (e ∷ rest)) in
          let short : IsLegal a = legal_upto g a.events (e ∷ rest) whole fits in
          let start : a.events ≡ (f.events ++ x ∷ []) ++ earlier = sym (append_assoc f.events (x ∷ []) earlier) in
          let stays = passed c a (f.events ++ x ∷ []) earlier stood.0 x stood.1 short start stood.2 all in
          let unnamed = none_named a (f.events ++ x ∷ []) earlier c short mesa start in
          let now : in_turn a.events c ≡ stays.before ++ x ∷ stays.behind =
          ap (λ l. in_turn l c) start ∙ stays.now in
          let taken : takes c k e ≡ true =
          sym (ap (λ q. q || takes c k e) (ne_eqb (place_of e) k parts.1)) ∙ here in
          let own_is : own k a.events ≡ own k f.events ++ x ∷ [] =
          filter-append (λ y. place_of y == k) f.events (x ∷ earlier)
          ∙ ap (λ q. own k f.events ++ cond q (x ∷ own k earlier) (own k earlier)) (eq-eqb k k refl)
          ∙ ap (λ l. own k f.events ++ x ∷ l) parts.0 in
          let n = notified a e c stays.before x stays.behind short (fits.each a.events rest e whole) mesa now
          (ap newest own_is ∙ newest-push (own k f.events) x) (eq-eqb c c refl) taken in
          let us : List (Event S) = called a.events ++ stays.before in
          let tail : g.events ≡ (a.events ++ e ∷ []) ++ rest = whole ∙ sym (append_assoc a.events (e ∷ []) rest) in
          let m = called_meanwhile g (a.events ++ e ∷ []) rest us x n.behind fits tail n.now parts.2 in
          let bound = called_bound g (a.events ++ e ∷ []) rest us x n.behind fits tail n.kept n.now parts.2 in
          let first : m.left ≡ [] =
          no_elements m.left (first_alone g x r.first r.others m.left (n.behind ++ m.more) fits r.are r.place
          (ap called tail ∙ m.now)) in
          let counted : length stays.before + taken_from c earlier + stays.gone
          ≡ length stood.0 + waits_below c p earlier = stays.counts in
          let few : stays.gone ≤ signals_to c earlier = stays.few in record {
            earlier = earlier;
            by = e;
            later = rest;
            is = at ∙ ap (λ l. l ++ Resume k c t ∷ []) whole ∙ append_assoc a.events (e ∷ rest) (Resume k c t ∷ [])
                ∙ append_assoc f.events (x ∷ earlier) (e ∷ (rest ++ Resume k c t ∷ []));
            others = ap (own k) (sym ends) ∙ b.alone;
            notifies = n.notifies;
            takes_it = taken;
            left = stays.before;
            behind = stays.behind;
            waited = now;
            alone = n.alone c;
            counts = omega (arith, counted, few, unnamed, stood.3);
            resumed = sym (m.came ∙ ap (λ l. resumed_called h.sizes rest ++ map place_of l) first ∙ append-nil _);
            often = bound.0 owed ∙ ap (λ (l : List ℕ). length us + length l + signals rest + 1) n.signallers;
            nobody = m.nobody;
          }
