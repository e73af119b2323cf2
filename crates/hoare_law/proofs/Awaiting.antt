-- What happened between a wait on one of Hoare's conditions and its end.
use Rattle.std.proofs.Common.{◌≡◌, ◌≢◌, ◌==◌, ◌&&◌, ◌+◌, not, ℕ, suc, List, [], ◌∷◌, ◌++◌, length, Bool, true}
use Rattle.std.proofs.Common.{false, cond, leb, Some, refl, ap, sym, ◌∙◌, arith, eq-eqb, ne_eqb}
use Rattle.std.proofs.Common.{true≢false, append_assoc, length-append}
use Rattle.std.specs.List.{filter, list_all}
use Rattle.std.proofs.lemmas.Bool.{not-true}
use Rattle.std.proofs.lemmas.Bool.Decides.{nat_tests}
use Rattle.std.proofs.lemmas.List.{append-nil, append_cancel_right}
use Rattle.std.proofs.lemmas.List.Elements.{filter-append}
use Rattle.std.proofs.lemmas.List.Folds.{list_all-append}
use Rattle.hoare_law.specs.declared.event.Event.{Event}
use Rattle.hoare_law.specs.declared.event.History.{History}
use Rattle.hoare_law.specs.declared.event.Event.TheVariants.{Wait, Resume}
use Rattle.hoare_law.specs.declared.turn.Turn.TheVariants.{Held}
use Rattle.hoare_law.specs.Events.{place_of, own, newest, cut_to}
use Rattle.hoare_law.specs.Sizes.{IsHoare}
use Rattle.hoare_law.specs.Waiting.{priority_of, waits_on, concerns, is_untouched, waiting, chosen}
use Rattle.hoare_law.specs.Priorities.{put_in}
use Rattle.hoare_law.specs.Turns.{turn}
use Rattle.hoare_law.specs.Legal.{IsLegal}
use Rattle.hoare_law.specs.Growth.{AddsTwo}
use Rattle.hoare_law.specs.Overtaking.{takes_from, taken_from, waits_below, waiters_up_to, signals_on, signals_to}
use Rattle.hoare_law.proofs.Tests.{list_all-filter}
use Rattle.hoare_law.proofs.Events.{newest-push}
use Rattle.hoare_law.proofs.Filters.{HasLast, nothing, pushed, has_last, filter-none, list_all-weaker}
use Rattle.hoare_law.proofs.Filters.{list_all-filter_own}
use Rattle.hoare_law.proofs.Waiting.{waiting-push}
use Rattle.hoare_law.proofs.Sorted.{Rising, Rising-in_order, in_order-filter, length-in_order}
use Rattle.hoare_law.proofs.Priorities.{in_turn, in_turn-wait}
use Rattle.hoare_law.proofs.Held.{Hand, by_pass, by_signal, by_signal_to, handing, EndsHanding, waits_on-handing}
use Rattle.hoare_law.proofs.Waiters.{chosen-waits}
use Rattle.hoare_law.proofs.Owed.{turn-handed}
use Rattle.hoare_law.proofs.Fronts.{ByRule, IsHanded, owed-handed}
use Rattle.hoare_law.proofs.Signallers.{own_other, legal_upto}
use Rattle.hoare_law.proofs.PassedOver.{one_if, comes_below, passed, passed_chosen}
use Rattle.hoare_law.proofs.Resuming.{no_elements, chosen_among}
use Rattle.hoare_law.proofs.Between.{Between, between_two}

module _ {X : Type 0} (key : X → ℕ) where
  -- in a rising list an element is put in after those with its own key or a smaller one
  put_at : (w : X) (vs : List X) → Rising key vs
      → (us ts : List X) × (put_in key w vs ≡ us ++ w ∷ ts)
      × (length us ≡ length (filter (λ v. leb (key v) (key w)) vs))
  put_at w [] rises = ([], [], refl, refl)
  put_at w (v ∷ vs) rises = by (leb (key v) (key w)) refl (put_at w vs rises.1)
    where
      high : leb (key v) (key w) ≡ false → filter (λ x. leb (key x) (key w)) vs ≡ []
      high above = filter-none (λ x. leb (key x) (key w)) vs
          (list_all-weaker (λ x. leb (key v) (key x)) (λ x. not (leb (key x) (key w))) vs
          (λ x le. let no_less : leb (key x) (key w) ≡ false = grind (arith, nat_tests) in ap not no_less) rises.0)

      by : (t : Bool) → leb (key v) (key w) ≡ t
          → ((us ts : List X) × (put_in key w vs ≡ us ++ w ∷ ts)
          × (length us ≡ length (filter (λ x. leb (key x) (key w)) vs)))
          → (us ts : List X) × (cond t (v ∷ put_in key w vs) (w ∷ v ∷ vs) ≡ us ++ w ∷ ts)
          × (length us
          ≡ length (cond t (v ∷ filter (λ x. leb (key x) (key w)) vs) (filter (λ x. leb (key x) (key w)) vs)))
      by true below r = (v ∷ r.0, r.1, ap (λ l. v ∷ l) r.2, ap suc r.3)
      by false above r = ([], v ∷ vs, refl, sym (ap length (high above)))

counted_push : {X : Type 0} (p : X → Bool) (xs : List X) (e : X)
    → length (filter p (xs ++ e ∷ [])) ≡ length (filter p xs) + one_if (p e)
counted_push p xs e =
    ap length (filter-append p xs (e ∷ [])) ∙ length-append (filter p xs) (filter p (e ∷ []))
    ∙ ap (λ n. length (filter p xs) + n) (by (p e))
  where
    by : (b : Bool) → length (cond b (e ∷ []) []) ≡ one_if b
    by true = refl
    by false = refl

module _ {S : Type 0} where
  taken-push : (c : ℕ) (later : List (Event S)) (e : Event S)
      → taken_from c (later ++ e ∷ []) ≡ taken_from c later + one_if (takes_from c e)
  unfolding taken_from
  taken-push c later e = counted_push (takes_from c) later e

  waits_below-push : (c p : ℕ) (later : List (Event S)) (e : Event S)
      → waits_below c p (later ++ e ∷ []) ≡ waits_below c p later + one_if (comes_below c p e)
  unfolding waits_below
  waits_below-push c p later e = counted_push (comes_below c p) later e

  -- a place that doesn't wait on c, and does nothing, doesn't come to wait there
  still_apart : (c k : ℕ) (g later : List (Event S)) → list_all (λ y. not (k == place_of y)) (waiting c g) ≡ true
      → own k later ≡ [] → list_all (λ y. not (k == place_of y)) (waiting c (g ++ later)) ≡ true
  still_apart c k g [] apart none =
      ap (λ l. list_all (λ y. not (k == place_of y)) (waiting c l)) (append-nil g) ∙ apart
  still_apart c k g (e ∷ later) apart none =
      let o = own_other k e later none in
      let whole : (g ++ e ∷ []) ++ later ≡ g ++ e ∷ later = append_assoc g (e ∷ []) later in
      let kept : list_all (λ y. not (k == place_of y)) (filter (λ x. not (concerns c (place_of x) e)) (waiting c g))
      ≡ true =
      list_all-filter (λ y. not (k == place_of y)) (λ x. not (concerns c (place_of x) e)) (waiting c g) apart in
      ap (λ l. list_all (λ y. not (k == place_of y)) (waiting c l)) (sym whole)
      ∙ still_apart c k (g ++ e ∷ []) later
      (ap (list_all (λ y. not (k == place_of y))) (waiting-push c g e)
      ∙ list_all-append (λ y. not (k == place_of y)) (filter (λ x. not (concerns c (place_of x) e)) (waiting c g))
      (cond (waits_on c e) (e ∷ []) [])
      ∙ (rw kept (added (waits_on c e) o.0))) o.1
    where
      added : (b : Bool) → place_of e ≢ k → list_all (λ y. not (k == place_of y)) (cond b (e ∷ []) []) ≡ true
      added true other =
          let apart_one : (k == place_of e) ≡ false = ne_eqb k (place_of e) (λ same. other (sym same)) in
          rw apart_one refl
      added false other = refl

  -- a waiter that an event of another place concerns no longer waits there
  concerned_leaves : (c k : ℕ) (g : List (Event S)) (e : Event S) → concerns c k e ≡ true → place_of e ≢ k
      → list_all (λ y. not (k == place_of y)) (waiting c (g ++ e ∷ [])) ≡ true
  concerned_leaves c k g e touched other =
      ap (list_all (λ y. not (k == place_of y))) (waiting-push c g e)
      ∙ list_all-append (λ y. not (k == place_of y)) (filter (λ x. not (concerns c (place_of x) e)) (waiting c g))
      (cond (waits_on c e) (e ∷ []) [])
      ∙ (rw gone (added (waits_on c e)))
    where
      apart : (y : Event S) → not (concerns c (place_of y) e) ≡ true → not (k == place_of y) ≡ true
      apart y n = ap not (ne_eqb k (place_of y) (λ same.
          true≢false (sym touched ∙ ap (λ j. concerns c j e) same ∙ not-true _ n)))

      gone : list_all (λ y. not (k == place_of y)) (filter (λ x. not (concerns c (place_of x) e)) (waiting c g)) ≡ true
      gone = list_all-weaker (λ x. not (concerns c (place_of x) e)) (λ y. not (k == place_of y)) _ apart
          (list_all-filter_own (λ x. not (concerns c (place_of x) e)) (waiting c g))

      added : (b : Bool) → list_all (λ y. not (k == place_of y)) (cond b (e ∷ []) []) ≡ true
      added true = let apart_one : (k == place_of e) ≡ false = ne_eqb k (place_of e) (λ same. other (sym same)) in
          rw apart_one refl
      added false = refl

  -- so no event concerned a waiter that is chosen in the end
  untouched_until : (c : ℕ) (x : Event S) (g later : List (Event S)) (y : Event S) → own (place_of x) later ≡ []
      → chosen c (g ++ later) ≡ Some y → place_of y ≡ place_of x → is_untouched c x later ≡ true
  untouched_until c x g [] y none is same = refl
  untouched_until c x g (e ∷ later) y none is same =
      let o = own_other (place_of x) e later none in
      let whole : (g ++ e ∷ []) ++ later ≡ g ++ e ∷ later = append_assoc g (e ∷ []) later in
      by (concerns c (place_of x) e) refl
      (untouched_until c x (g ++ e ∷ []) later y o.1 (ap (chosen c) whole ∙ is) same) whole o.0 o.1
    where
      by : (t : Bool) → concerns c (place_of x) e ≡ t → is_untouched c x later ≡ true
          → (g ++ e ∷ []) ++ later ≡ g ++ e ∷ later → place_of e ≢ place_of x → own (place_of x) later ≡ []
          → (not t && is_untouched c x later) ≡ true
      by false free rest whole other quiet = rest
      by true touched rest whole other quiet =
          let passes : not (place_of x == place_of y) ≡ true =
          chosen_among c (g ++ e ∷ later) y (λ z. not (place_of x == place_of z)) is
          (ap (λ l. list_all (λ z. not (place_of x == place_of z)) (waiting c l)) (sym whole)
          ∙ still_apart c (place_of x) (g ++ e ∷ []) later (concerned_leaves c (place_of x) g e touched other) quiet) in
          absurd (true≢false (sym (eq-eqb (place_of x) (place_of y) (sym same)) ∙ not-true _ passes))

  -- the position at which a wait is put in
  pub stands_at : (f : List (Event S)) (k c p : ℕ) (s : S) → turn f ≡ Held k
      → (us ts : List (Event S)) × (in_turn (f ++ Wait k c p s ∷ []) c ≡ us ++ Wait k c p s ∷ ts)
      × (length us ≡ waiters_up_to c p f)
  unfolding waiters_up_to
  stands_at f k c p s held =
      let r = put_at priority_of (Wait k c p s) (in_turn f c) (Rising-in_order priority_of (waiting c f)) in (
        r.0,
        r.1,
        in_turn-wait f k c p c s held
            ∙ ap (λ b. cond b (put_in priority_of (Wait k c p s) (in_turn f c)) (in_turn f c)) (eq-eqb c c refl)
            ∙ r.2,
        r.3 ∙ ap length (sym (in_order-filter priority_of (λ v. leb (priority_of v) p) (waiting c f)))
            ∙ length-in_order priority_of (filter (λ v. leb (priority_of v) p) (waiting c f)),
      )

  -- unless the monitor was handed off by a signal to a place, the chosen waiter was taken
  handing_takes : (out : Hand) (g : List (Event S)) (j c k : ℕ) (u : S) (x : Event S) → ByRule out c g x
      → signals_on c (handing out j c k u) ≡ false
      → (takes_from c (handing out j c k u) ≡ true) × (chosen c g ≡ Some x)
  handing_takes by_pass g j c k u x rule named = (eq-eqb c c refl, rule)
  handing_takes by_signal g j c k u x rule named = (eq-eqb c c refl, rule)
  handing_takes by_signal_to g j c k u x rule named = absurd (true≢false (sym (eq-eqb c c refl) ∙ named))

  none_named : (c : ℕ) (earlier : List (Event S)) (e : Event S) → signals_to c (earlier ++ e ∷ []) ≡ 0
      → (signals_to c earlier ≡ 0) × (signals_on c e ≡ false)
  unfolding signals_to
  none_named c earlier e none =
      let sum = counted_push (signals_on c) earlier e in
      (omega (arith, none, sum), by (signals_on c e) (omega (arith, none, sum)))
    where
      by : (b : Bool) → one_if b ≡ 0 → b ≡ false
      by false zero = refl
      by true zero = absurd (omega (arith, zero))

  -- between a wait and its end the waiters before it were taken, and those that began to wait later with a lesser
  -- priority, and then the waiter itself
  pub wait_ended : (f h : History S) (k c p : ℕ) (s t : S) → IsLegal h
      → IsHoare h.sizes.conditions h.sizes.mesa c → AddsTwo f (Wait k c p s) (Resume k c t) h
      → (later : List (Event S)) × (h.events ≡ f.events ++ Wait k c p s ∷ (later ++ Resume k c t ∷ []))
      × (own k later ≡ [])
      × (signals_to c later ≡ 0 → taken_from c later ≡ waiters_up_to c p f.events + waits_below c p later + 1)
  wait_ended f h k c p s t legal hoare adds = by (has_last b.later)
    where
      own_wait : Event S
      own_wait = Wait k c p s

      b : Between f (Wait k c p s) (Resume k c t) h
      b = between_two f (Wait k c p s) (Resume k c t) h refl adds (λ same. cc)

      g : History S
      g = cut_to h (f.events ++ own_wait ∷ b.later)

      at : h.events ≡ g.events ++ Resume k c t ∷ []
      at = b.is ∙ sym (append_assoc f.events (own_wait ∷ b.later) (Resume k c t ∷ []))

      fits : IsLegal g
      fits = legal_upto h g.events (Resume k c t ∷ []) at legal

      r : (x : Event S) × IsHanded g.events k c x
      r = owed-handed g k c fits (turn-handed g k c fits hoare (legal.each g.events [] (Resume k c t) at).fits.0)

      l : EndsHanding k c g.events
      l = r.1.hand

      hand : Event S
      hand = handing l.out l.by c k l.left

      held : turn f.events ≡ Held k
      held = (fits.each f.events b.later own_wait refl).fits

      ended : (earlier : List (Event S)) (e : Event S) → b.later ≡ earlier ++ e ∷ []
          → (f.events ++ own_wait ∷ earlier) ++ e ∷ [] ≡ l.before ++ hand ∷ []
          → signals_to c b.later ≡ 0
          → taken_from c b.later ≡ waiters_up_to c p f.events + waits_below c p b.later + 1
      ended earlier e ends both unnamed =
          let lasts : Some e ≡ Some hand =
          sym (newest-push (f.events ++ own_wait ∷ earlier) e) ∙ ap newest both ∙ newest-push l.before hand in
          let one : e ≡ hand = cc in
          let same : f.events ++ own_wait ∷ earlier ≡ l.before =
          append_cancel_right (f.events ++ own_wait ∷ earlier) l.before (hand ∷ [])
          (ap (λ x. (f.events ++ own_wait ∷ earlier) ++ x ∷ []) (sym one) ∙ both) in
          let whole : (f.events ++ own_wait ∷ []) ++ earlier ≡ l.before =
          append_assoc f.events (own_wait ∷ []) earlier ∙ same in
          let quiet : own k earlier ≡ [] =
          no_elements (own k earlier)
          (let sum = sym (length-append (own k earlier) (own k (e ∷ []))) ∙ ap length
          (sym (filter-append (λ x. place_of x == k) earlier (e ∷ [])) ∙ ap (own k) (sym ends) ∙ b.alone) in
          omega (arith, sum)) in
          let quiet_named = none_named c earlier e (ap (signals_to c) (sym ends) ∙ unnamed) in
          let rule = handing_takes l.out l.before l.by c k l.left r.0 r.1.by_rule
          (ap (signals_on c) (sym one) ∙ quiet_named.1) in
          let waits = chosen-waits c l.before r.0 rule.1 in
          let place : place_of r.0 ≡ k = ap place_of r.1.is in
          let own_is : own k l.before ≡ own k f.events ++ own_wait ∷ [] =
          ap (own k) (sym same) ∙ filter-append (λ x. place_of x == k) f.events (own_wait ∷ earlier)
          ∙ ap (λ b. own k f.events ++ cond b (own_wait ∷ own k earlier) (own k earlier)) (eq-eqb k k refl)
          ∙ ap (λ l. own k f.events ++ own_wait ∷ l) quiet in
          let two : Some r.0 ≡ Some own_wait =
          sym waits.last ∙ ap (λ j. newest (own j l.before)) place ∙ ap newest own_is
          ∙ newest-push (own k f.events) own_wait in
          let it : r.0 ≡ own_wait = cc in
          let chose : chosen c ((f.events ++ own_wait ∷ []) ++ earlier) ≡ Some own_wait =
          ap (chosen c) whole ∙ rule.1 ∙ ap (λ x. Some x) it in
          let stood = stands_at f.events k c p s held in
          let untouched : is_untouched c own_wait earlier ≡ true =
          untouched_until c own_wait (f.events ++ own_wait ∷ []) earlier own_wait quiet chose refl in
          let counted = passed c (cut_to g l.before) (f.events ++ own_wait ∷ []) earlier stood.0 own_wait stood.1
          (legal_upto g l.before (hand ∷ []) l.ends fits) (sym whole) stood.2 untouched in
          let all = (passed_chosen c ((f.events ++ own_wait ∷ []) ++ earlier) stood.0 own_wait (taken_from c earlier)
          (waits_below c p earlier) (signals_to c earlier) counted quiet_named.0).0 chose in
          let took : taken_from c b.later ≡ taken_from c earlier + 1 =
          ap (taken_from c) ends ∙ taken-push c earlier e
          ∙ ap (λ x. taken_from c earlier + one_if (takes_from c x)) one
          ∙ ap (λ q. taken_from c earlier + one_if q) rule.0 in
          let put : waits_below c p b.later ≡ waits_below c p earlier + 0 =
          ap (waits_below c p) ends ∙ waits_below-push c p earlier e
          ∙ ap (λ x. waits_below c p earlier + one_if (comes_below c p x)) one
          ∙ ap (λ q. waits_below c p earlier + one_if (q && leb (suc (priority_of hand)) p))
          (waits_on-handing l.out c l.by c k l.left) in
          omega (arith, took, put, all, stood.3)

      by : HasLast b.later
          → (later : List (Event S)) × (h.events ≡ f.events ++ Wait k c p s ∷ (later ++ Resume k c t ∷ []))
          × (own k later ≡ [])
          × (signals_to c later ≡ 0 → taken_from c later ≡ waiters_up_to c p f.events + waits_below c p later + 1)
      by (nothing none) =
          let ends : Some own_wait ≡ Some hand =
          sym (newest-push f.events own_wait) ∙ ap (λ m. newest (f.events ++ own_wait ∷ m)) (sym none)
          ∙ ap newest l.ends ∙ newest-push l.before hand in
          let one : own_wait ≡ hand = cc in
          let yes : true ≡ false =
          sym (eq-eqb c c refl) ∙ ap (waits_on c) one ∙ waits_on-handing l.out c l.by c k l.left in
          absurd (true≢false yes)
      by (pushed earlier e ends) = (
        b.later,
        b.is,
        b.alone,
        ended earlier e ends
            (append_assoc f.events (own_wait ∷ earlier) (e ∷ [])
            ∙ ap (λ m. f.events ++ own_wait ∷ m) (sym ends) ∙ l.ends),
      )
