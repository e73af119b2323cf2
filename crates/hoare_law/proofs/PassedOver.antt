-- A waiter is passed over only by the waiters before it, and by those that began to wait later with a lesser priority.
use Rattle.std.proofs.Common.{◌≡◌, ◌==◌, ◌&&◌, ◌||◌, ◌+◌, not, ℕ, suc, List, [], ◌∷◌, ◌++◌, length, Bool}
use Rattle.std.proofs.Common.{true, false, cond, leb, ltb, Some, refl, ap, sym, ◌∙◌, subst, arith, eq-eqb, eqb-true}
use Rattle.std.proofs.Common.{true≢false}
use Rattle.std.proofs.Common.{◌≤◌, append_assoc, length-append}
use Rattle.std.specs.Prelude.{◌↔◌}
use Rattle.std.specs.List.{filter, list_all}
use Rattle.std.proofs.lemmas.Bool.{not-true}
use Rattle.std.proofs.lemmas.Bool.Decides.{nat_tests}
use Rattle.std.proofs.lemmas.List.{append-nil}
use Rattle.std.proofs.lemmas.List.Elements.{filter-append}
use Rattle.hoare_law.specs.declared.event.Event.{Event}
use Rattle.hoare_law.specs.declared.event.History.{History}
use Rattle.hoare_law.specs.declared.event.Event.TheVariants.{Admit, Wait, Signal, Pass, Leave, Resume, Back, Notify}
use Rattle.hoare_law.specs.declared.event.Event.TheVariants.{Broadcast, SignalTo}
use Rattle.hoare_law.specs.declared.turn.Turn.TheVariants.{Held}
use Rattle.hoare_law.specs.Events.{place_of, cut_to}
use Rattle.hoare_law.specs.Waiting.{priority_of, waits_on, takes, concerns, is_untouched, waiting, chosen, Chooses}
use Rattle.hoare_law.specs.Waiting.{IsWaiting}
use Rattle.hoare_law.specs.Priorities.{put_in, in_order, behind_first}
use Rattle.hoare_law.specs.Turns.{turn}
use Rattle.hoare_law.specs.Legal.{Allowed, IsLegal}
use Rattle.hoare_law.specs.Overtaking.{takes_from, taken_from, waits_below, signals_on, signals_to}
use Rattle.hoare_law.proofs.Tests.{both_true, eq_swap}
use Rattle.hoare_law.proofs.Filters.{list_all-at}
use Rattle.hoare_law.proofs.Sorted.{Rising, Rising-in_order, first_of, in_order-filter, length-in_order}
use Rattle.hoare_law.proofs.Chosen.{chosen-first}
use Rattle.hoare_law.proofs.Held.{concerns-own}
use Rattle.hoare_law.proofs.Owed.{waiting-owed}
use Rattle.hoare_law.proofs.Priorities.{in_turn, in_turn-wait, in_turn-takes, in_turn-leaves, in_turn-elsewhere}
use Rattle.hoare_law.proofs.Priorities.{apart_behind, Chooses-chosen}
use Rattle.hoare_law.proofs.Priorities.{waiting-wait_by}
use Rattle.hoare_law.proofs.Waiters.{waiting-once}
use Rattle.hoare_law.proofs.Priorities.{waiting-own, waiting-outside, waiting-return, waiting-broadcast}
use Rattle.hoare_law.proofs.Held.{waiting-held}
use Rattle.hoare_law.proofs.Signallers.{legal_upto}

-- 1 if the test holds, else 0
abbrev pub one_if : Bool → ℕ
one_if b = cond b 1 0

module _ {X : Type 0} (key : X → ℕ) where
  -- an element with a smaller key is put in before x
  put_before : (w x : X) (us vs : List X) → ltb (key w) (key x) ≡ true
      → (ts : List X) × (put_in key w (us ++ x ∷ vs) ≡ ts ++ x ∷ vs) × (length ts ≡ suc (length us))
  put_before w x [] vs less =
      let high : leb (key x) (key w) ≡ false = grind (arith, nat_tests) in (w ∷ [], rw high refl, refl)
  put_before w x (u ∷ us) vs less = by (leb (key u) (key w)) (put_before w x us vs less)
    where
      by : (t : Bool) → (ts : List X) × (put_in key w (us ++ x ∷ vs) ≡ ts ++ x ∷ vs) × (length ts ≡ suc (length us))
          → (ts : List X) × (cond t (u ∷ put_in key w (us ++ x ∷ vs)) (w ∷ u ∷ (us ++ x ∷ vs)) ≡ ts ++ x ∷ vs)
          × (length ts ≡ suc (suc (length us)))
      by true r = (u ∷ r.0, ap (λ l. u ∷ l) r.1, ap suc r.2)
      by false r = (w ∷ u ∷ us, refl, refl)

  -- in a rising list any other element is put in after x
  put_behind : (w x : X) (us vs : List X) → ltb (key w) (key x) ≡ false → Rising key (us ++ x ∷ vs)
      → (ts : List X) × (put_in key w (us ++ x ∷ vs) ≡ us ++ x ∷ ts)
  put_behind w x [] vs kept rises =
      let low : leb (key x) (key w) ≡ true = grind (arith, nat_tests) in (put_in key w vs, rw low refl)
  put_behind w x (u ∷ us) vs kept rises =
      let first : leb (key u) (key x) ≡ true = list_all-at (λ v. leb (key u) (key v)) us x vs rises.0 in
      let low : leb (key u) (key w) ≡ true = grind (arith, nat_tests) in
      let r = put_behind w x us vs kept rises.1 in
      (r.0, rw low (ap (λ l. u ∷ l) r.1))

-- those that pass a test and those that fail it are all
length-parted : {X : Type 0} (p : X → Bool) (xs : List X)
    → length (filter p xs) + length (filter (λ x. not (p x)) xs) ≡ length xs
length-parted p [] = refl
length-parted p (x ∷ xs) = by (p x) (length-parted p xs)
  where
    by : (t : Bool) → length (filter p xs) + length (filter (λ y. not (p y)) xs) ≡ length xs
        → length (cond t (x ∷ filter p xs) (filter p xs))
        + length (cond (not t) (x ∷ filter (λ y. not (p y)) xs) (filter (λ y. not (p y)) xs)) ≡ suc (length xs)
    by true rest = omega (arith, rest)
    by false rest = omega (arith, rest)

module _ {S : Type 0} where
  -- what comes before x afterwards, and what was counted meanwhile: of the `named`, to which signals were given, `gone`
  -- came before x
  pub record Passed (c : ℕ) (h : List (Event S)) (us : List (Event S)) (x : Event S) (took put named : ℕ) : Type 0 where
    pub before : List (Event S)
    pub behind : List (Event S)
    pub now : in_turn h c ≡ before ++ x ∷ behind
    pub gone : ℕ
    pub few : gone ≤ named
    pub counts : length before + took + gone ≡ length us + put

  abbrev pub comes_below : ℕ → ℕ → Event S → Bool
  comes_below c p e = waits_on c e && ltb (priority_of e) p

  abbrev PassedBy : ℕ → List (Event S) → Event S → List (Event S) → Event S → Type 0
  PassedBy c f e us x = Passed c (f ++ e ∷ []) us x (one_if (takes_from c e)) (one_if (comes_below c (priority_of x) e))
      (one_if (signals_on c e))

  -- an event that leaves the order as it is
  passed_same : (c : ℕ) (f : List (Event S)) (e : Event S) (us : List (Event S)) (x : Event S) (vs : List (Event S))
      → in_turn f c ≡ us ++ x ∷ vs → in_turn (f ++ e ∷ []) c ≡ in_turn f c
      → takes_from c e ≡ false → waits_on c e ≡ false
      → PassedBy c f e us x
  passed_same c f e us x vs is same untaken unput =
      let none : one_if (takes_from c e) ≡ 0 = ap one_if untaken in
      let nothing_put : one_if (comes_below c (priority_of x) e) ≡ 0 =
      ap (λ b. one_if (b && ltb (priority_of e) (priority_of x))) unput in
      record {
        before = us;
        behind = vs;
        now = same ∙ is;
        gone = 0;
        few = omega arith;
        counts = omega (arith, none, nothing_put);
      }

  -- a wait on c is put in before x or after x
  passed_wait : (c : ℕ) (f : List (Event S)) (j d p : ℕ) (s : S) (us : List (Event S)) (x : Event S)
      (vs : List (Event S)) → turn f ≡ Held j → in_turn f c ≡ us ++ x ∷ vs → PassedBy c f (Wait j d p s) us x
  passed_wait c f j d p s us x vs held is = by (d == c) refl (ltb p (priority_of x)) refl
    where
      put : Event S
      put = Wait j d p s

      rises : Rising priority_of (us ++ x ∷ vs)
      rises = subst (Rising priority_of) is (Rising-in_order priority_of (waiting c f))

      joined_by : (t : Bool) → (d == c) ≡ t
          → in_turn (f ++ put ∷ []) c ≡ cond t (put_in priority_of put (us ++ x ∷ vs)) (us ++ x ∷ vs)
      joined_by t same =
          in_turn-wait f j d p c s held
          ∙ ap (λ b. cond b (put_in priority_of put (in_turn f c)) (in_turn f c)) (eq_swap c d ∙ same)
          ∙ ap (λ l. cond t (put_in priority_of put l) l) is

      by : (t : Bool) → (d == c) ≡ t → (u : Bool) → ltb p (priority_of x) ≡ u → PassedBy c f put us x
      by false other u less =
          let nothing_put : one_if (comes_below c (priority_of x) put) ≡ 0 =
          ap (λ b. one_if (b && ltb p (priority_of x))) other in
          record {
            before = us;
            behind = vs;
            now = joined_by false other;
            gone = 0;
            few = omega arith;
            counts = omega (arith, nothing_put);
          }
      by true same true less =
          let r = put_before priority_of put x us vs less in
          let one : one_if (comes_below c (priority_of x) put) ≡ 1 = rw (same, less) refl in
          record {
            before = r.0;
            behind = vs;
            now = joined_by true same ∙ r.1;
            gone = 0;
            few = omega arith;
            counts = omega (arith, one, r.2);
          }
      by true same false kept =
          let r = put_behind priority_of put x us vs kept rises in
          let none : one_if (comes_below c (priority_of x) put) ≡ 0 = rw (same, kept) refl in
          record {
            before = us;
            behind = r.0;
            now = joined_by true same ∙ r.1;
            gone = 0;
            few = omega arith;
            counts = omega (arith, none);
          }

  -- the first waiter in order is the chosen one
  chosen_first : (c : ℕ) (h : List (Event S)) (x : Event S) (xs : List (Event S)) → in_turn h c ≡ x ∷ xs
      → chosen c h ≡ Some x
  unfolding chosen
  chosen_first c h x xs is = chosen-first priority_of (waiting c h) ∙ ap first_of is

  -- a signal, a pass and a notify on c take the first waiter, which isn't x
  passed_taking : (c : ℕ) (f : List (Event S)) (e : Event S) (j d w : ℕ) (us : List (Event S)) (x : Event S)
      (vs : List (Event S)) → ((b : ℕ) → waits_on b e ≡ false) → ((b i : ℕ) → concerns b i e ≡ (j == i || w == i))
      → takes_from c e ≡ (d == c) → turn f ≡ Held j → Chooses d f w → not (concerns c (place_of x) e) ≡ true
      → in_turn f c ≡ us ++ x ∷ vs
      → PassedBy c f e us x
  passed_taking c f e j d w us x vs no_wait both one held chooses apart is = by (d == c) refl us is
    where
      taken_by : (t : Bool) → (d == c) ≡ t
          → in_turn (f ++ e ∷ []) c ≡ cond t (behind_first (in_turn f c)) (in_turn f c)
      taken_by t same =
          in_turn-takes f e j d w c (no_wait c) (both c) held chooses
          ∙ ap (λ b. cond b (behind_first (in_turn f c)) (in_turn f c)) (eq_swap c d ∙ same)

      unput : (ts : List (Event S)) → one_if (comes_below c (priority_of x) e) ≡ 0
      unput ts = ap (λ b. one_if (b && ltb (priority_of e) (priority_of x))) (no_wait c)

      either_true : (a : Bool) → (a || true) ≡ true
      either_true true = refl
      either_true false = refl

      by : (t : Bool) → (d == c) ≡ t → (ts : List (Event S)) → in_turn f c ≡ ts ++ x ∷ vs → PassedBy c f e ts x
      by false other ts at =
          passed_same c f e ts x vs at (taken_by false other) (one ∙ other) (no_wait c)
      by true same [] at =
          let there : d ≡ c = eqb-true d c same in
          let r = Chooses-chosen d w f chooses in
          let both_chosen : Some r.0 ≡ Some x =
          sym r.1 ∙ ap (λ b. chosen b f) there ∙ chosen_first c f x vs at in
          let named : w ≡ place_of x = sym r.2 ∙ ap place_of (let same_one : r.0 ≡ x = cc in same_one) in
          let touched : concerns c (place_of x) e ≡ true =
          both c (place_of x) ∙ ap (λ b. j == place_of x || b) (eq-eqb w (place_of x) named)
          ∙ either_true (j == place_of x) in
          absurd (true≢false (sym touched ∙ not-true _ apart))
      by true same (u ∷ ts) at =
          let took : one_if (takes_from c e) ≡ 1 = ap one_if (one ∙ same) in
          record {
            before = ts;
            behind = vs;
            now = taken_by true same ∙ ap behind_first at;
            gone = 0;
            few = omega arith;
            counts = omega (arith, took, unput ts);
          }

  passed_own : (c : ℕ) (f : List (Event S)) (e : Event S) (us : List (Event S)) (x : Event S) (vs : List (Event S))
      → ((i : ℕ) → takes c i e ≡ false) → waits_on c e ≡ false → takes_from c e ≡ false
      → list_all (λ y. not (place_of e == place_of y)) (waiting c f) ≡ true
      → in_turn f c ≡ us ++ x ∷ vs → PassedBy c f e us x
  passed_own c f e us x vs alone no_wait untaken apart is =
      passed_same c f e us x vs is
      (ap (in_order priority_of)
      (waiting-own f e c (λ i. concerns-own e c i (alone i)) apart
      ∙ ap (λ b. waiting c f ++ cond b (e ∷ []) []) no_wait ∙ append-nil _)) untaken no_wait

  -- a signal to w takes w, which isn't the place of x
  passed_naming : (c : ℕ) (f : List (Event S)) (k d w : ℕ) (s : S) (us : List (Event S)) (x : Event S)
      (vs : List (Event S)) → turn f ≡ Held k → IsWaiting d f w
      → not (concerns c (place_of x) (SignalTo k d w s)) ≡ true
      → in_turn f c ≡ us ++ x ∷ vs → PassedBy c f (SignalTo k d w s) us x
  passed_naming c f k d w s us x vs held waits apart is = by (d == c) refl
    where
      test : Event S → Bool
      test y = not (w == place_of y)

      left : in_turn (f ++ SignalTo k d w s ∷ []) c ≡ filter test (in_turn f c)
      left = in_turn-leaves f (SignalTo k d w s) k w c refl (λ j. refl) held

      kept : (t : Bool) → (w == place_of x) ≡ t → (k == place_of x || t) ≡ false → t ≡ false
      kept false at none = refl
      kept true at none = absurd (true≢false (sym (either_true (k == place_of x)) ∙ none))
        where
          either_true : (a : Bool) → (a || true) ≡ true
          either_true true = refl
          either_true false = refl

      passes : test x ≡ true
      passes = ap not (kept (w == place_of x) refl (not-true _ apart))

      parted : filter test (in_turn f c) ≡ filter test us ++ x ∷ filter test vs
      parted = ap (filter test) is ∙ filter-append test us (x ∷ vs)
          ∙ ap (λ b. filter test us ++ cond b (x ∷ filter test vs) (filter test vs)) passes

      few_gone : length us ≤ length (filter test us) + 1
      few_gone =
          let sum = length-parted (λ y. w == place_of y) us in
          let whole : length (filter (λ y. w == place_of y) (in_turn f c)) ≤ 1 =
          subst (λ (n : ℕ). n ≤ 1)
          (sym (length-in_order priority_of (filter (λ y. w == place_of y) (waiting c f)))
          ∙ ap length (in_order-filter priority_of (λ y. w == place_of y) (waiting c f)))
          (waiting-once c w f) in
          let parts : length (filter (λ y. w == place_of y) (in_turn f c))
          ≡ length (filter (λ y. w == place_of y) us) + length (filter (λ y. w == place_of y) (x ∷ vs)) =
          ap (λ l. length (filter (λ y. w == place_of y) l)) is
          ∙ ap length (filter-append (λ y. w == place_of y) us (x ∷ vs))
          ∙ length-append (filter (λ y. w == place_of y) us) (filter (λ y. w == place_of y) (x ∷ vs)) in
          omega (arith, sum, whole, parts)

      by : (t : Bool) → (d == c) ≡ t → PassedBy c f (SignalTo k d w s) us x
      by true same =
          let named : one_if (signals_on c (SignalTo k d w s)) ≡ 1 = ap one_if same in
          let sum = length-parted (λ y. w == place_of y) us in
          record {
            before = filter test us;
            behind = filter test vs;
            now = left ∙ parted;
            gone = length (filter (λ y. w == place_of y) us);
            few = omega (arith, named, few_gone, sum);
            counts = omega (arith, sum);
          }
      by false other =
          let r = waiting-wait_by d w f waits in
          let same = in_turn-elsewhere d c w f r.0 (λ e. true≢false (sym (eq-eqb d c (sym e)) ∙ other)) r.1 in
          passed_same c f (SignalTo k d w s) us x vs is (left ∙ same) refl refl

  passed_step : (c : ℕ) (f : History S) (e : Event S) (us : List (Event S)) (x : Event S) (vs : List (Event S))
      → IsLegal f → Allowed f e → not (concerns c (place_of x) e) ≡ true → in_turn f.events c ≡ us ++ x ∷ vs
      → PassedBy c f.events e us x
  passed_step c f (Admit k s) us x vs legal may apart is =
      passed_own c f.events (Admit k s) us x vs (λ i. refl) refl refl (waiting-outside f.events k c may.fits.1) is
  passed_step c f (Resume k d s) us x vs legal may apart is =
      passed_own c f.events (Resume k d s) us x vs (λ i. refl) refl refl (waiting-owed f k d c legal may.fits.0) is
  passed_step c f (Back k s) us x vs legal may apart is =
      passed_own c f.events (Back k s) us x vs (λ i. refl) refl refl (waiting-return f.events k c may.fits.0) is
  passed_step c f (Leave k s) us x vs legal may apart is =
      passed_own c f.events (Leave k s) us x vs (λ i. refl) refl refl (waiting-held f.events k c may.fits) is
  passed_step c f (Wait k d p s) us x vs legal may apart is = passed_wait c f.events k d p s us x vs may.fits is
  passed_step c f (Signal k d w s) us x vs legal may apart is =
      passed_taking c f.events (Signal k d w s) k d w us x vs (λ b. refl) (λ b i. refl) refl may.fits.0 may.fits.1
      apart is
  passed_step c f (SignalTo k d w s) us x vs legal may apart is =
      passed_naming c f.events k d w s us x vs may.fits.0 may.fits.1 apart is
  passed_step c f (Pass k d w s) us x vs legal may apart is =
      passed_taking c f.events (Pass k d w s) k d w us x vs (λ b. refl) (λ b i. refl) refl may.fits.0 may.fits.1
      apart is
  passed_step c f (Notify k d w s) us x vs legal may apart is =
      passed_taking c f.events (Notify k d w s) k d w us x vs (λ b. refl) (λ b i. refl) refl may.fits.0 may.fits.1
      apart is
  passed_step c f (Broadcast k d s) us x vs legal may apart is =
      passed_same c f.events (Broadcast k d s) us x vs is
      (ap (in_order priority_of)
      (waiting-broadcast f.events k d c s may.fits.0
      ∙ ap (λ b. cond b [] (waiting c f.events)) (eq_swap c d ∙ elsewhere (d == c) (k == place_of x) apart))) refl refl
    where
      elsewhere : (t a : Bool) → not (a || t) ≡ true → t ≡ false
      elsewhere false a n = refl
      elsewhere true true n = absurd (cc)
      elsewhere true false n = absurd (cc)

  passed_none : (c : ℕ) (f : List (Event S)) (us : List (Event S)) (x : Event S) (vs : List (Event S))
      → in_turn f c ≡ us ++ x ∷ vs
      → Passed c (f ++ []) us x (taken_from {S = S} c []) (waits_below {S = S} c (priority_of x) [])
      (signals_to {S = S} c [])
  unfolding taken_from waits_below signals_to
  passed_none c f us x vs is = record {
    before = us;
    behind = vs;
    now = ap (λ l. in_turn l c) (append-nil f) ∙ is;
    gone = 0;
    few = omega arith;
    counts = omega arith;
  }

  pub counted_more : (p : Event S → Bool) (e : Event S) (later : List (Event S))
      → length (filter p (e ∷ later)) ≡ one_if (p e) + length (filter p later)
  counted_more p e later = by (p e)
    where
      by : (b : Bool) → length (cond b (e ∷ filter p later) (filter p later)) ≡ one_if b + length (filter p later)
      by true = omega arith
      by false = omega arith

  taken_more : (c : ℕ) (e : Event S) (later : List (Event S))
      → taken_from c (e ∷ later) ≡ one_if (takes_from c e) + taken_from c later
  unfolding taken_from
  taken_more c e later = counted_more (takes_from c) e later

  waits_below_more : (c p : ℕ) (e : Event S) (later : List (Event S))
      → waits_below c p (e ∷ later) ≡ one_if (comes_below c p e) + waits_below c p later
  unfolding waits_below
  waits_below_more c p e later = counted_more (comes_below c p) e later

  pub signals_to_more : (c : ℕ) (e : Event S) (later : List (Event S))
      → signals_to c (e ∷ later) ≡ one_if (signals_on c e) + signals_to c later
  unfolding signals_to
  signals_to_more c e later = counted_more (signals_on c) e later

  -- as many waiters come before x afterwards as before, without those taken, and with those that began to wait later
  -- with a lesser priority
  pub passed : (c : ℕ) (h : History S) (f later : List (Event S)) (us : List (Event S)) (x : Event S)
      (vs : List (Event S)) → IsLegal h → h.events ≡ f ++ later → in_turn f c ≡ us ++ x ∷ vs
      → is_untouched c x later ≡ true
      → Passed c (f ++ later) us x (taken_from c later) (waits_below c (priority_of x) later) (signals_to c later)
  passed c h f [] us x vs legal at is apart = passed_none c f us x vs is
  passed c h f (e ∷ later) us x vs legal at is apart =
      let b : (not (concerns c (place_of x) e) ≡ true) × (is_untouched c x later ≡ true) = both_true _ _ apart in
      let r : PassedBy c f e us x =
      passed_step c (cut_to h f) e us x vs (legal_upto h f (e ∷ later) at legal) (legal.each f later e at) b.0 is in
      let t = passed c h (f ++ e ∷ []) later r.before x r.behind legal (at ∙ sym (append_assoc f (e ∷ []) later)) r.now
      b.1 in
      let took = taken_more c e later in
      let put = waits_below_more c (priority_of x) e later in
      record {
        before = t.before;
        behind = t.behind;
        now = ap (λ l. in_turn l c) (sym (append_assoc f (e ∷ []) later)) ∙ t.now;
        gone = r.gone + t.gone;
        few = omega (arith, signals_to_more c e later, r.few, t.few);
        counts = omega (arith, took, put, r.counts, t.counts);
      }

  first_empty : (ts : List (Event S)) (x : Event S) (vs xs : List (Event S)) → length ts ≡ 0 → xs ≡ ts ++ x ∷ vs
      → xs ≡ x ∷ vs
  first_empty [] x vs xs shut is = is
  first_empty (t ∷ ts) x vs xs shut is = absurd (omega arith)

  pub chosen_alone : (c : ℕ) (h : List (Event S)) (x : Event S) (ts vs : List (Event S)) → chosen c h ≡ Some x
      → in_turn h c ≡ ts ++ x ∷ vs → length ts ≡ 0
  chosen_alone c h x [] vs is at = refl
  chosen_alone c h x (t ∷ ts) vs is at =
      let others : list_all (λ y. not (place_of x == place_of y)) (ts ++ x ∷ vs) ≡ true =
      ap (list_all (λ y. not (place_of x == place_of y))) (sym (ap behind_first at)) ∙ apart_behind c h x is in
      absurd (true≢false (sym (eq-eqb (place_of x) (place_of x) refl)
      ∙ not-true _ (list_all-at (λ y. not (place_of x == place_of y)) ts x vs others)))

  -- a signal would resume x if all waiters before it were taken, and all that began to wait later with a lesser
  -- priority
  pub passed_next : (c : ℕ) (h : List (Event S)) (us : List (Event S)) (x : Event S) (took put named : ℕ)
      → Passed c h us x took put named → took ≡ length us + put → chosen c h ≡ Some x
  passed_next c h us x took put named r all =
      chosen_first c h x r.behind (first_empty r.before x r.behind (in_turn h c) (omega (arith, all, r.counts)) r.now)

  -- if none was named, a signal would resume x exactly when all waiters before it were taken, and all that began to
  -- wait later with a lesser priority
  pub passed_chosen : (c : ℕ) (h : List (Event S)) (us : List (Event S)) (x : Event S) (took put named : ℕ)
      → Passed c h us x took put named → named ≡ 0 → (chosen c h ≡ Some x) ↔ (took ≡ length us + put)
  passed_chosen c h us x took put named r none_named = (
    (λ is. let none = chosen_alone c h x r.before r.behind is r.now in
        omega (arith, none, none_named, r.few, r.counts)),
    passed_next c h us x took put named r,
  )

  -- no priority is less than 0
  pub waits_below-zero : (c : ℕ) (later : List (Event S)) → waits_below c 0 later ≡ 0
  unfolding waits_below
  waits_below-zero c [] = refl
  waits_below-zero c (e ∷ later) = by (waits_on c e) (waits_below-zero c later)
    where
      by : (b : Bool) → length (filter (comes_below c 0) later) ≡ 0
          → length (cond (b && ltb (priority_of e) 0) (e ∷ filter (comes_below c 0) later)
          (filter (comes_below c 0) later))
          ≡ 0
      by false rest = rest
      by true rest = let never : ltb (priority_of e) 0 ≡ false = grind (arith, nat_tests) in rw never rest
