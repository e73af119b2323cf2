-- Signallers return in turn: which of them return while one still waits, and how often the monitor is released.
use Rattle.std.proofs.Common.{◌≡◌, ◌≢◌, ◌==◌, ◌+◌, ◌≤◌, not, ℕ, suc, List, [], ◌∷◌, ◌++◌, length, Bool, true, false}
use Rattle.std.proofs.Common.{cond, Option, Some, None, refl, ap, sym, ◌∙◌, subst, arith, eq-eqb, ne_eqb}
use Rattle.std.proofs.Common.{true≢false, append_assoc, length-append, map}
use Rattle.std.specs.Prelude.{All, ◌↔◌}
use Rattle.std.specs.List.{filter, list_all}
use Rattle.std.proofs.lemmas.Bool.{not-true}
use Rattle.std.proofs.lemmas.List.{append-nil}
use Rattle.std.proofs.lemmas.List.Elements.{All-nil, All-cons, All-weaker}
use Rattle.hoare_law.specs.declared.event.Event.{Event}
use Rattle.hoare_law.specs.declared.event.History.{History}
use Rattle.hoare_law.specs.declared.event.Event.TheVariants.{Admit, Wait, Signal, Pass, Leave, Resume, Back, Notify}
use Rattle.hoare_law.specs.declared.event.Event.TheVariants.{Broadcast, SignalTo}
use Rattle.hoare_law.specs.declared.turn.Turn.TheVariants.{Held, Return}
use Rattle.hoare_law.specs.Events.{place_of, own, newest, cut_to}
use Rattle.hoare_law.specs.Turns.{After, stays, frees, hands, after, is_signal, urgent, turn, turn_of, turn_given_up}
use Rattle.hoare_law.specs.Called.{called}
use Rattle.hoare_law.specs.Admissions.{is_admit, admissions}
use Rattle.hoare_law.specs.Legal.{Allowed, IsLegal}
use Rattle.hoare_law.specs.Overtaking.{is_release, releases, is_back, returned}
use Rattle.hoare_law.proofs.Tests.{both_true, list_all-push, list_all-filter}
use Rattle.hoare_law.proofs.Filters.{HasLast, nothing, pushed, has_last, filter-all, list_all-filter_own}
use Rattle.hoare_law.proofs.Filters.{list_all-from_All}
use Rattle.hoare_law.proofs.Filters.{list_all-at}
use Rattle.hoare_law.proofs.Events.{newest-push}
use Rattle.hoare_law.proofs.Legal.{IsLegal-front}
use Rattle.hoare_law.proofs.Turns.{urgent-push, turn-push}
use Rattle.hoare_law.proofs.Held.{is_inside, gives_up, turn-held, turn-return, urgent-free, own-held, IsOwed}
use Rattle.hoare_law.proofs.Held.{handed, next_called, Hand, by_pass, by_signal, by_signal_to, handing, turn-owed}
use Rattle.hoare_law.proofs.Held.{is_free}
use Rattle.hoare_law.proofs.Waiters.{LastSignals, All-urgent}
use Rattle.hoare_law.proofs.Fronts.{own-owed}

-- the length of a list of two parts
pub length-parts : {X : Type 0} (whole front behind : List X) → whole ≡ front ++ behind
    → length whole ≡ length front + length behind
length-parts whole front behind is = ap length is ∙ length-append front behind

-- no place is twice in the list
abbrev pub Once : List ℕ → Type 0
Once [] = Unit {0}
Once (u ∷ us) = (list_all (λ v. not (u == v)) us ≡ true) × Once us

Once-filter : (p : ℕ → Bool) (us : List ℕ) → Once us → Once (filter p us)
Once-filter p [] o = tt
Once-filter p (u ∷ us) o = by (p u) (Once-filter p us o.1)
  where
    by : (t : Bool) → Once (filter p us) → Once (cond t (u ∷ filter p us) (filter p us))
    by true rest = (list_all-filter (λ v. not (u == v)) p us o.0, rest)
    by false rest = rest

pub Once-push : (us : List ℕ) (k : ℕ) → list_all (λ u. not (k == u)) us ≡ true → Once us → Once (us ++ k ∷ [])
Once-push [] k apart o = (refl, tt)
Once-push (u ∷ us) k apart o =
    let b : (not (k == u) ≡ true) × (list_all (λ v. not (k == v)) us ≡ true) = both_true _ _ apart in
    (list_all-push (λ v. not (u == v)) us k ∙ (rw (o.0, swapped b.0) refl), Once-push us k b.1 o.1)
  where
    swapped : not (k == u) ≡ true → not (u == k) ≡ true
    swapped n = ap not (ne_eqb u k (λ same. true≢false (sym (eq-eqb k u (sym same)) ∙ not-true _ n)))

once_by : (us : List ℕ) (k : ℕ) (b : Bool) → Once us → Once (filter (λ u. not (k == u)) us ++ cond b (k ∷ []) [])
once_by us k true o =
    Once-push (filter (λ u. not (k == u)) us) k (list_all-filter_own (λ u. not (k == u)) us)
    (Once-filter (λ u. not (k == u)) us o)
once_by us k false o = subst Once (sym (append-nil _)) (Once-filter (λ u. not (k == u)) us o)

pub some_of : (us : List ℕ) (k : ℕ) (vs xs : List ℕ) → xs ≡ us ++ k ∷ vs → xs ≢ []
some_of [] k vs xs is none = let no_one : [] ≡ k ∷ vs = sym none ∙ is in cc
some_of (u ∷ us) k vs xs is none = let no_one : [] ≡ u ∷ (us ++ k ∷ vs) = sym none ∙ is in cc

once_first : (left : List ℕ) (k : ℕ) (more us : List ℕ) → Once (left ++ k ∷ more) → left ++ k ∷ more ≡ k ∷ us
    → left ≡ []
once_first [] k more us once same = refl
once_first (j ∷ left) k more us once same =
    let head : j ≡ k = cc in
    let other : not (j == k) ≡ true = list_all-at (λ v. not (j == v)) left k more once.0 in
    absurd (true≢false (sym (eq-eqb j k head) ∙ not-true _ other))

-- the other places of such a list are other than k
others_by : (us : List ℕ) (k : ℕ) (vs : List ℕ) → Once (us ++ k ∷ vs) → All (λ j. j ≢ k) (us ++ vs)
others_by [] k vs o = apart vs o.0
  where
    apart : (ws : List ℕ) → list_all (λ v. not (k == v)) ws ≡ true → All (λ j. j ≢ k) ws
    apart [] a = All-nil (λ j. j ≢ k)
    apart (w ∷ ws) a =
        let b : (not (k == w) ≡ true) × (list_all (λ v. not (k == v)) ws ≡ true) = both_true _ _ a in
        All-cons (λ j. j ≢ k) w ws (λ same. true≢false (sym (eq-eqb k w (sym same)) ∙ not-true _ b.0)) (apart ws b.1)
others_by (u ∷ us) k vs o =
    All-cons (λ j. j ≢ k) u (us ++ vs)
    (λ same. true≢false (sym (eq-eqb u k same) ∙ not-true _ (list_all-at (λ v. not (u == v)) us k vs o.0)))
    (others_by us k vs o.1)

once_none : (S : Type 0) → Once (urgent {S = S} [])
unfolding urgent
once_none S = tt

module _ {S : Type 0} where
  -- no place is twice among the waiting signallers
  once_steps : (f later : List (Event S)) → Once (urgent f) → Once (urgent (f ++ later))
  once_steps f [] o = subst (λ (l : List (Event S)). Once (urgent l)) (sym (append-nil f)) o
  once_steps f (e ∷ later) o =
      subst (λ (l : List (Event S)). Once (urgent l)) (append_assoc f (e ∷ []) later)
      (once_steps (f ++ e ∷ []) later
      (subst Once (sym (urgent-push f e)) (once_by (urgent f) (place_of e) (is_signal e) o)))

  pub Once-urgent : (h : List (Event S)) → Once (urgent h)
  Once-urgent h = once_steps [] h (once_none S)

  -- 1 if the last event released the monitor, else 0
  abbrev pub ups : Option (Event S) → ℕ
  ups None = 0
  ups (Some e) = cond (is_release e) 1 0

  unfoldable pub given_up : List (Event S) → ℕ
  given_up h = ups (newest h)

  pub given_up-push : (h : List (Event S)) (e : Event S) → given_up (h ++ e ∷ []) ≡ cond (is_release e) 1 0
  unfolding given_up
  given_up-push h e = ap ups (newest-push h e)

  pub given_up-none : (h : List (Event S)) → h ≡ [] → given_up h ≡ 0
  unfolding given_up
  given_up-none h none = ap (λ l. ups (newest l)) none

  pub give_up_same : (e : Event S) → is_release e ≡ gives_up e
  give_up_same (Admit k s) = refl
  give_up_same (Wait k c p s) = refl
  give_up_same (Signal k c w s) = refl
  give_up_same (SignalTo k c w s) = refl
  give_up_same (Pass k c w s) = refl
  give_up_same (Leave k s) = refl
  give_up_same (Resume k c s) = refl
  give_up_same (Back k s) = refl
  give_up_same (Notify k c w s) = refl
  give_up_same (Broadcast k c s) = refl

  inside_keeps : (e : Event S) → is_inside e ≡ true → is_release e ≡ false
  inside_keeps (Admit k s) is = refl
  inside_keeps (Resume k c s) is = refl
  inside_keeps (Back k s) is = refl
  inside_keeps (Notify k c w s) is = refl
  inside_keeps (Broadcast k c s) is = refl
  inside_keeps (Wait k c p s) is = absurd (cc)
  inside_keeps (Leave k s) is = absurd (cc)
  inside_keeps (Signal k c w s) is = absurd (cc)
  inside_keeps (SignalTo k c w s) is = absurd (cc)
  inside_keeps (Pass k c w s) is = absurd (cc)

  -- while a place is inside, the last event wasn't a release
  pub given_up-held : (h : List (Event S)) (k : ℕ) → turn h ≡ Held k → given_up h ≡ 0
  given_up-held h k is =
      let r = turn-held h k is in
      ap given_up r.1.1 ∙ given_up-push r.1.0 r.0 ∙ ap (λ b. cond b 1 0) (inside_keeps r.0 r.2)

  pub given_up-return : (h : List (Event S)) (k : ℕ) → turn h ≡ Return k → given_up h ≡ 1
  given_up-return h k is =
      let r = turn-return h k is in
      ap given_up r.1.1 ∙ given_up-push r.1.0 r.0 ∙ ap (λ b. cond b 1 0) (give_up_same r.0 ∙ r.2)

  -- a place whose last event is no signal is no waiting signaller
  pub urgent-apart : (h : List (Event S)) (k : ℕ) (x : Event S) → newest (own k h) ≡ Some x → is_signal x ≡ false
      → list_all (λ u. not (k == u)) (urgent h) ≡ true
  urgent-apart h k x last quiet = list_all-from_All (λ u. not (k == u)) (urgent h)
      (All-weaker (LastSignals h) (λ u. not (k == u) ≡ true) other (urgent h) (All-urgent h))
    where
      other : (u : ℕ) → LastSignals h u → not (k == u) ≡ true
      other u was = ap not (ne_eqb k u (λ same.
          let both : Some was.0 ≡ Some x = sym was.1 ∙ ap (λ j. newest (own j h)) (sym same) ∙ last in
          let one : was.0 ≡ x = cc in
          true≢false (sym was.2 ∙ ap is_signal one ∙ quiet)))

  -- what one event does while signallers wait: the first returns, or all stay and one may join them
  pub data UrgentStep (h : List (Event S)) (e : Event S) : Type 0 where
    comes_back : is_back e ≡ true → is_release e ≡ false → is_admit e ≡ false → given_up h ≡ 1
        → urgent h ≡ place_of e ∷ urgent (h ++ e ∷ []) → UrgentStep h e
    all_stay : is_back e ≡ false → is_admit e ≡ false → given_up h ≡ 0
        → urgent (h ++ e ∷ []) ≡ urgent h ++ cond (is_signal e) (place_of e ∷ []) [] → UrgentStep h e

  pub stay_by : (h : List (Event S)) (e : Event S) → list_all (λ u. not (place_of e == u)) (urgent h) ≡ true
      → urgent (h ++ e ∷ []) ≡ urgent h ++ cond (is_signal e) (place_of e ∷ []) []
  stay_by h e apart =
      urgent-push h e
      ∙ ap (λ l. l ++ cond (is_signal e) (place_of e ∷ []) [])
      (filter-all (λ u. not (place_of e == u)) (urgent h) apart)

  pub handing_keeps : (out : Hand) (k c w : ℕ) (s : S) → is_release (handing out k c w s) ≡ false
  handing_keeps by_pass k c w s = refl
  handing_keeps by_signal k c w s = refl
  handing_keeps by_signal_to k c w s = refl

  pub in_no_signal : (e : Event S) → is_inside e ≡ true → is_signal e ≡ false
  in_no_signal (Admit k s) is = refl
  in_no_signal (Resume k c s) is = refl
  in_no_signal (Back k s) is = refl
  in_no_signal (Notify k c w s) is = refl
  in_no_signal (Broadcast k c s) is = refl
  in_no_signal (Wait k c p s) is = refl
  in_no_signal (Leave k s) is = refl
  in_no_signal (Pass k c w s) is = refl
  in_no_signal (Signal k c w s) is = absurd (cc)
  in_no_signal (SignalTo k c w s) is = absurd (cc)

  pub by_inside : (h : List (Event S)) (e : Event S) → turn h ≡ Held (place_of e) → is_back e ≡ false
      → is_admit e ≡ false → UrgentStep h e
  by_inside h e held back admit =
      let r = own-held h (place_of e) held in
      all_stay back admit (given_up-held h (place_of e) held)
      (stay_by h e (urgent-apart h (place_of e) r.0 r.1 (in_no_signal r.0 r.2)))

  pub back_step : (h : List (Event S)) (k : ℕ) (s : S) → turn h ≡ Return k → UrgentStep h (Back k s)
  back_step h k s is =
      let r = turn-return h k is in
      let once : Once (k ∷ r.3) = subst Once r.4 (Once-urgent h) in
      let now : urgent (h ++ Back k s ∷ []) ≡ r.3 =
      urgent-push h (Back k s) ∙ append-nil _ ∙ ap (filter (λ u. not (k == u))) r.4
      ∙ ap (λ b. cond (not b) (k ∷ filter (λ u. not (k == u)) r.3) (filter (λ u. not (k == u)) r.3)) (eq-eqb k k refl)
      ∙ filter-all (λ u. not (k == u)) r.3 once.0 in
      comes_back refl refl refl (given_up-return h k is) (r.4 ∙ ap (λ l. k ∷ l) (sym now))

  -- while signallers wait, no process may be admitted, and no notified process may resume
  pub urgent_step : (f : History S) (e : Event S) → IsLegal f → Allowed f e → urgent f.events ≢ []
      → UrgentStep f.events e
  urgent_step f (Back k s) legal may some = back_step f.events k s may.fits.0
  urgent_step f (Admit k s) legal may some = absurd (some (urgent-free f.events may.fits.0))
  urgent_step f (Resume k c s) legal may some = resumed (turn-owed f.events k c may.fits.0)
    where
      resumed : IsOwed k c f.events → UrgentStep f.events (Resume k c s)
      resumed (next_called r) = absurd (some r.nobody)
      resumed (handed r) =
          let w = own-owed f k c legal may.fits.0 in
          all_stay refl refl
          (ap given_up r.ends ∙ given_up-push r.before (handing r.out r.by c k r.left)
          ∙ ap (λ b. cond b 1 0) (handing_keeps r.out r.by c k r.left))
          (stay_by f.events (Resume k c s) (urgent-apart f.events k (Wait k c w.0 w.1) w.2 refl))
  urgent_step f (Wait k c p s) legal may some = by_inside f.events (Wait k c p s) may.fits refl refl
  urgent_step f (Leave k s) legal may some = by_inside f.events (Leave k s) may.fits refl refl
  urgent_step f (Signal k c w s) legal may some = by_inside f.events (Signal k c w s) may.fits.0 refl refl
  urgent_step f (SignalTo k c w s) legal may some = by_inside f.events (SignalTo k c w s) may.fits.0 refl refl
  urgent_step f (Pass k c w s) legal may some = by_inside f.events (Pass k c w s) may.fits.0 refl refl
  urgent_step f (Notify k c w s) legal may some = by_inside f.events (Notify k c w s) may.fits.0 refl refl
  urgent_step f (Broadcast k c s) legal may some = by_inside f.events (Broadcast k c s) may.fits.0 refl refl

  -- while signaller k, after us, doesn't return: the first of us return in turn, each after one release, and no process
  -- is admitted
  pub record Meanwhile (f later : List (Event S)) (us : List ℕ) (k : ℕ) (vs : List ℕ) : Type 0 where
    pub left : List ℕ
    pub more : List ℕ
    pub came : us ≡ returned later ++ left
    pub now : urgent (f ++ later) ≡ left ++ k ∷ (vs ++ more)
    pub times : releases later + given_up f ≡ length (returned later) + given_up (f ++ later)
    pub nobody : admissions later ≡ 0

  meanwhile_none : (f : List (Event S)) (us : List ℕ) (k : ℕ) (vs : List ℕ) → urgent f ≡ us ++ k ∷ vs
      → Meanwhile f [] us k vs
  unfolding releases returned admissions
  meanwhile_none f us k vs is = record {
    left = us;
    more = [];
    came = refl;
    now = ap urgent (append-nil f) ∙ is ∙ ap (λ l. us ++ k ∷ l) (sym (append-nil vs));
    times = let same : given_up (f ++ []) ≡ given_up f = ap given_up (append-nil f) in omega (arith, same);
    nobody = refl;
  }

  pub own_other : (k : ℕ) (e : Event S) (later : List (Event S)) → own k (e ∷ later) ≡ []
      → (place_of e ≢ k) × (own k later ≡ [])
  own_other k e later none = by (place_of e == k) refl none
    where
      by : (t : Bool) → (place_of e == k) ≡ t → cond t (e ∷ own k later) (own k later) ≡ []
          → (place_of e ≢ k) × (own k later ≡ [])
      by true is n = absurd (cc)
      by false is n = (λ same. true≢false (sym (eq-eqb (place_of e) k same) ∙ is), n)

  -- one event before the others
  meanwhile_more : (f : List (Event S)) (e : Event S) (later : List (Event S)) (us : List ℕ) (k : ℕ) (vs : List ℕ)
      → urgent f ≡ us ++ k ∷ vs → place_of e ≢ k → UrgentStep f e
      → ((ts ws : List ℕ) → urgent (f ++ e ∷ []) ≡ ts ++ k ∷ ws → Meanwhile (f ++ e ∷ []) later ts k ws)
      → Meanwhile f (e ∷ later) us k vs
  unfolding releases returned admissions
  meanwhile_more f e later [] k vs is other (comes_back back kept came_in up first) rest =
      absurd (let same : place_of e ∷ urgent (f ++ e ∷ []) ≡ k ∷ vs = sym first ∙ is in
      other (let one : place_of e ≡ k = cc in one))
  meanwhile_more f e later (u ∷ us) k vs is other (comes_back back kept came_in up first) rest =
      let same : place_of e ∷ urgent (f ++ e ∷ []) ≡ u ∷ (us ++ k ∷ vs) = sym first ∙ is in
      let head : place_of e ≡ u = cc in
      let tail : urgent (f ++ e ∷ []) ≡ us ++ k ∷ vs = cc in
      let r = rest us vs tail in
      let whole : (f ++ e ∷ []) ++ later ≡ f ++ e ∷ later = append_assoc f (e ∷ []) later in
      let back_now : map place_of (filter is_back (e ∷ later)) ≡ u ∷ returned later =
      ap (λ b. map place_of (cond b (e ∷ filter is_back later) (filter is_back later))) back
      ∙ ap (λ j. j ∷ returned later) head in
      let ups_now : length (filter is_release (e ∷ later)) ≡ releases later =
      ap (λ b. length (cond b (e ∷ filter is_release later) (filter is_release later))) kept in
      let zero : given_up (f ++ e ∷ []) ≡ 0 = given_up-push f e ∙ ap (λ b. cond b 1 0) kept in
      let counted : length (map place_of (filter is_back (e ∷ later))) ≡ suc (length (returned later)) =
      ap length back_now in
      let moved : given_up ((f ++ e ∷ []) ++ later) ≡ given_up (f ++ e ∷ later) = ap given_up whole in
      record {
        left = r.left;
        more = r.more;
        came = ap (λ l. u ∷ l) r.came ∙ ap (λ l. l ++ r.left) (sym back_now);
        now = ap urgent (sym whole) ∙ r.now;
        times = omega (arith, ups_now, zero, counted, moved, r.times, up);
        nobody = ap (λ b. length (cond b (e ∷ filter is_admit later) (filter is_admit later))) came_in ∙ r.nobody;
      }
  meanwhile_more f e later us k vs is other (all_stay back came_in up stay) rest =
      let added : List ℕ = cond (is_signal e) (place_of e ∷ []) [] in
      let tail : urgent (f ++ e ∷ []) ≡ us ++ k ∷ (vs ++ added) =
      stay ∙ ap (λ l. l ++ added) is ∙ append_assoc us (k ∷ vs) added in
      let r = rest us (vs ++ added) tail in
      let whole : (f ++ e ∷ []) ++ later ≡ f ++ e ∷ later = append_assoc f (e ∷ []) later in
      let back_now : map place_of (filter is_back (e ∷ later)) ≡ returned later =
      ap (λ b. map place_of (cond b (e ∷ filter is_back later) (filter is_back later))) back in
      let ups_now : length (filter is_release (e ∷ later)) ≡ cond (is_release e) 1 0 + releases later =
      counted_by (is_release e) in
      let pushed_now : given_up (f ++ e ∷ []) ≡ cond (is_release e) 1 0 = given_up-push f e in
      let counted : length (map place_of (filter is_back (e ∷ later))) ≡ length (returned later) = ap length back_now in
      let moved : given_up ((f ++ e ∷ []) ++ later) ≡ given_up (f ++ e ∷ later) = ap given_up whole in
      record {
        left = r.left;
        more = added ++ r.more;
        came = r.came ∙ ap (λ l. l ++ r.left) (sym back_now);
        now = ap urgent (sym whole) ∙ r.now ∙ ap (λ l. r.left ++ k ∷ l) (append_assoc vs added r.more);
        times = omega (arith, ups_now, pushed_now, counted, moved, r.times, up);
        nobody = ap (λ b. length (cond b (e ∷ filter is_admit later) (filter is_admit later))) came_in ∙ r.nobody;
      }
    where
      counted_by : (b : Bool)
          → length (cond b (e ∷ filter is_release later) (filter is_release later)) ≡ cond b 1 0 + releases later
      counted_by true = omega arith
      counted_by false = omega arith

  -- each beginning of a legal history is legal
  pub legal_upto : (h : History S) (f later : List (Event S)) → h.events ≡ f ++ later → IsLegal h → IsLegal (cut_to h f)
  legal_upto h f later is legal =
      IsLegal-front {f = cut_to h f} {h = h} (record { sizes = refl; opening = refl; later = later; is = sym is }) legal

  pub meanwhile : (h : History S) (f later : List (Event S)) (us : List ℕ) (k : ℕ) (vs : List ℕ) → IsLegal h
      → h.events ≡ f ++ later → urgent f ≡ us ++ k ∷ vs → own k later ≡ [] → Meanwhile f later us k vs
  meanwhile h f [] us k vs legal at is none = meanwhile_none f us k vs is
  meanwhile h f (e ∷ later) us k vs legal at is none =
      let apart = own_other k e later none in
      meanwhile_more f e later us k vs is apart.0
      (urgent_step (cut_to h f) e (legal_upto h f (e ∷ later) at legal) (legal.each f later e at)
      (some_of us k vs (urgent f) is))
      (λ ts ws now. meanwhile h (f ++ e ∷ []) later ts k ws legal (at ∙ sym (append_assoc f (e ∷ []) later)) now
      apart.1)

  given_by : (o : Option (Event S)) → ups o ≤ 1
  given_by None = omega arith
  given_by (Some e) = elim (is_release e) as (λ b. cond b 1 0 ≤ 1) [ true ↦ omega arith | false ↦ omega arith ]

  pub given_up-one : (h : List (Event S)) → given_up h ≤ 1
  unfolding given_up
  given_up-one h = given_by (newest h)

  -- after a release, it is the first signaller's turn to return
  return_of_first : (h : List (Event S)) (k : ℕ) (us : List ℕ) → given_up h ≡ 1 → urgent h ≡ k ∷ us → turn h ≡ Return k
  return_of_first h k us up first = by (has_last h)
    where
      turn_freed : (a : After) (j : ℕ) (ts : List ℕ) (ws : List (Event S)) → is_free a ≡ true → ts ≡ k ∷ us
          → turn_of a j ts ws ≡ Return k
      turn_freed frees j ts ws free is = ap (λ l. turn_given_up l ws) is
      turn_freed stays j ts ws free is = absurd (cc)
      turn_freed (hands w c) j ts ws free is = absurd (cc)

      by_end : (g : List (Event S)) (e : Event S) (b : Bool) → is_release e ≡ b → h ≡ g ++ e ∷ [] → turn h ≡ Return k
      by_end g e true gives ends =
          ap turn ends ∙ turn-push g e
          ∙ turn_freed (after e) (place_of e) (urgent (g ++ e ∷ [])) (called (g ++ e ∷ []))
          (sym (give_up_same e) ∙ gives) (ap urgent (sym ends) ∙ first)
      by_end g e false keeps ends =
          let zero : given_up h ≡ 0 = ap given_up ends ∙ given_up-push g e ∙ ap (λ b. cond b 1 0) keeps in
          absurd (omega (arith, zero, up))

      by : HasLast h → turn h ≡ Return k
      by (nothing none) = let zero : given_up h ≡ 0 = given_up-none h none in absurd (omega (arith, zero, up))
      by (pushed g e ends) = by_end g e (is_release e) refl ends

  -- it is k's turn to return exactly when there was one release more than signallers were before it
  pub signaller_bound : (h : History S) (f later : List (Event S)) (us : List ℕ) (k : ℕ) (vs : List ℕ) → IsLegal h
      → h.events ≡ f ++ later → given_up f ≡ 0 → urgent f ≡ us ++ k ∷ vs → own k later ≡ []
      → (releases later ≤ length us + 1) × (turn (f ++ later) ≡ Return k ↔ (releases later ≡ length us + 1))
  signaller_bound h f later us k vs legal at kept is none =
      let r = meanwhile h f later us k vs legal at is none in
      let many : length us ≡ length (returned later) + length r.left =
      length-parts _ (returned later) r.left r.came in
      let one = given_up-one (f ++ later) in
      (omega (arith, kept, many, one, r.times), (now r many, then r many))
    where
      now : (r : Meanwhile f later us k vs) → length us ≡ length (returned later) + length r.left
          → turn (f ++ later) ≡ Return k → releases later ≡ length us + 1
      now r many turned =
          let t = turn-return (f ++ later) k turned in
          let up = given_up-return (f ++ later) k turned in
          let empty : r.left ≡ [] =
          once_first r.left k (vs ++ r.more) t.3 (subst Once r.now (Once-urgent (f ++ later))) (sym r.now ∙ t.4) in
          let zero : length r.left ≡ 0 = ap length empty in
          omega (arith, kept, many, zero, up, r.times)

      first_now : (left : List ℕ) (more xs : List ℕ) → length left ≡ 0 → xs ≡ left ++ k ∷ more → xs ≡ k ∷ more
      first_now [] more xs shut same = same
      first_now (j ∷ left) more xs shut same = absurd (omega arith)

      then : (r : Meanwhile f later us k vs) → length us ≡ length (returned later) + length r.left
          → releases later ≡ length us + 1 → turn (f ++ later) ≡ Return k
      then r many often =
          let one = given_up-one (f ++ later) in
          let up : given_up (f ++ later) ≡ 1 = omega (arith, kept, many, one, often, r.times) in
          let zero : length r.left ≡ 0 = omega (arith, kept, many, up, often, r.times) in
          return_of_first (f ++ later) k (vs ++ r.more) up (first_now r.left (vs ++ r.more) _ zero r.now)

  -- the place that signals by the event e is inside, releases nothing, and is then the last of the waiting signallers
  pub record Signalled (f : List (Event S)) (e : Event S) : Type 0 where
    pub held : turn f ≡ Held (place_of e)
    pub now : urgent (f ++ e ∷ []) ≡ urgent f ++ place_of e ∷ []
    pub kept : given_up (f ++ e ∷ []) ≡ 0

  pub signalled : (f : History S) (e : Event S) → is_signal e ≡ true → Allowed f e → Signalled f.events e
  signalled f e is may = by e is may
    where
      at : (y : Event S) → is_signal y ≡ true → is_release y ≡ false → turn f.events ≡ Held (place_of y)
          → Signalled f.events y
      at y signals keeps held =
          let r = own-held f.events (place_of y) held in record {
            held = held;
            now =
                stay_by f.events y (urgent-apart f.events (place_of y) r.0 r.1 (in_no_signal r.0 r.2))
                ∙ ap (λ b. urgent f.events ++ cond b (place_of y ∷ []) []) signals;
            kept = given_up-push f.events y ∙ ap (λ b. cond b 1 0) keeps;
          }

      by : (y : Event S) → is_signal y ≡ true → Allowed f y → Signalled f.events y
      by (Signal k c w s) told fits = at (Signal k c w s) refl refl fits.fits.0
      by (SignalTo k c w s) told fits = at (SignalTo k c w s) refl refl fits.fits.0
      by (Admit k s) told fits = absurd (cc)
      by (Wait k c p s) told fits = absurd (cc)
      by (Pass k c w s) told fits = absurd (cc)
      by (Leave k s) told fits = absurd (cc)
      by (Resume k c s) told fits = absurd (cc)
      by (Back k s) told fits = absurd (cc)
      by (Notify k c w s) told fits = absurd (cc)
      by (Broadcast k c s) told fits = absurd (cc)

  -- the same, counted from its signal
  pub signal_bound : (h : History S) (f later : List (Event S)) (e : Event S) → is_signal e ≡ true → IsLegal h
      → h.events ≡ f ++ e ∷ later → own (place_of e) later ≡ []
      → (releases later ≤ length (urgent f) + 1)
      × (turn h.events ≡ Return (place_of e) ↔ (releases later ≡ length (urgent f) + 1))
  signal_bound h f later e is legal at none =
      let whole : h.events ≡ (f ++ e ∷ []) ++ later = at ∙ sym (append_assoc f (e ∷ []) later) in
      let now = signalled (cut_to h f) e is (legal.each f later e at) in
      let r = signaller_bound h (f ++ e ∷ []) later (urgent f) (place_of e) [] legal whole now.kept now.now none in
      (r.0, ((λ t. r.1.0 (ap turn (sym whole) ∙ t)), (λ g. ap turn whole ∙ r.1.1 g)))

  -- between a signal and its return there is one release more than signallers waited
  pub signal_between : (h : History S) (f later more : List (Event S)) (e : Event S) (t : S) → is_signal e ≡ true
      → IsLegal h → h.events ≡ f ++ e ∷ (later ++ Back (place_of e) t ∷ more) → own (place_of e) later ≡ []
      → releases later ≡ length (urgent f) + 1
  signal_between h f later more e t is legal at none =
      let back : Event S = Back (place_of e) t in
      let whole : h.events ≡ (f ++ e ∷ later) ++ back ∷ more = at ∙ sym (append_assoc f (e ∷ later) (back ∷ more)) in
      let g : History S = cut_to h (f ++ e ∷ later) in
      let r = signal_bound g f later e is (legal_upto h g.events (back ∷ more) whole legal) refl none in
      r.1.0 (legal.each g.events more back whole).fits.0

  -- at any time there are no more releases than that
  pub signaller_at_most : (h : History S) (f later : List (Event S)) (us : List ℕ) (k : ℕ) (vs : List ℕ) → IsLegal h
      → h.events ≡ f ++ later → urgent f ≡ us ++ k ∷ vs → own k later ≡ [] → releases later ≤ length us + 1
  signaller_at_most h f later us k vs legal at is none =
      let r = meanwhile h f later us k vs legal at is none in
      let many : length us ≡ length (returned later) + length r.left =
      length-parts _ (returned later) r.left r.came in
      let one = given_up-one (f ++ later) in
      omega (arith, many, one, r.times)

  -- the other waiting signallers are other places
  pub urgent-others : (h : List (Event S)) (us : List ℕ) (k : ℕ) (vs : List ℕ) → urgent h ≡ us ++ k ∷ vs
      → All (λ j. j ≢ k) (us ++ vs)
  urgent-others h us k vs is = others_by us k vs (subst Once is (Once-urgent h))
