-- What a fake monitor's place knows after each of its steps.
use Rattle.std.proofs.Common.{◌≡◌, ◌==◌, ◌<◌, not, ℕ, List, [], ◌∷◌, ◌++◌, Bool, true, false, cond, Some, refl, sym, ap}
use Rattle.std.proofs.Common.{◌∙◌, subst, arith, eq-eqb}
use Rattle.std.specs.List.{filter, find}
use Rattle.hoare_law.specs.declared.event.Event.{Event}
use Rattle.hoare_law.specs.declared.event.History.{History}
use Rattle.hoare_law.specs.declared.event.Event.TheVariants.{Admit, Wait, Pass, Leave, Resume, Notify}
use Rattle.hoare_law.specs.declared.turn.Turn.{Turn}
use Rattle.hoare_law.specs.declared.turn.Turn.TheVariants.{Free, Held, Owed}
use Rattle.hoare_law.specs.Called.{called, called_by}
use Rattle.hoare_law.specs.Sizes.{IsHoare, IsMesa}
use Rattle.hoare_law.specs.Events.{place_of, data_of, own, latest_data, with_event}
use Rattle.hoare_law.specs.Waiting.{waiting, waits_on, concerns, priority_of, chosen, Chooses, is_least}
use Rattle.hoare_law.specs.Turns.{is_signal, urgent, turn, turn_by, is_out, outside}
use Rattle.hoare_law.specs.Legal.{Allowed}
use Rattle.hoare_law.specs.Lawful.{Rest, Ready, Owes}
use Rattle.hoare_law.specs.Priorities.{nobody, joined, priorities}
use Rattle.hoare_law.specs.Growth.{Grows, AddsTwo}
use Rattle.hoare_law.proofs.Called.{called-push}
use Rattle.hoare_law.proofs.Calling.{called_by-notify}
use Rattle.hoare_law.proofs.Events.{newest-push, own-push, latest_data-push}
use Rattle.hoare_law.proofs.Waiting.{waiting-push}
use Rattle.hoare_law.proofs.Turns.{turn-push, urgent-push, outside-push}
use Rattle.hoare_law.proofs.Legal.{Stands-push, IsLegal-none}
use Rattle.hoare_law.proofs.Growth.{Grows-one, Grows-trans, Begins-push, Begins-trans}
use Rattle.hoare_law.proofs.Priorities.{priorities-leave, priorities-wait, priorities-nobody, wait_by-chosen}
use Rattle.hoare_law.proofs.Tests.{self_least}
use Rattle.test_support.specs.Stage.{opened, Stage, none_wait, IsOutside, IsInside}

-- the waits that remain after an event, and the event itself if it is a wait
abbrev pub still_wait : {S : Type 0} → (ℕ → List (Event S)) → Event S → ℕ → List (Event S)
still_wait waits e c = filter (λ x. not (concerns c (place_of x) e)) (waits c) ++ cond (waits_on c e) (e ∷ []) []

-- the notified that remain after an event, and those that the event notifies
abbrev pub still_called : {S : Type 0} → List (Event S) → Event S → List (Event S) → List (Event S)
still_called calls e more = filter (λ x. not (place_of e == place_of x)) calls ++ more

-- the waits before the answer comes: that of place 0 alone
abbrev pub before : {S : Type 0} → ℕ → ℕ → S → ℕ → List (Event S)
before c p s = still_wait (still_wait none_wait (Wait 0 c p s)) (Admit 1 s)

only_one : {S : Type 0} (c p : ℕ) (s : S) → before c p s c ≡ Wait 0 c p s ∷ []
only_one c p s = rw (eq-eqb c c refl) refl

-- the only waiter is the chosen
pub chosen-only : {S : Type 0} {x : Event S} (c : ℕ) (h : List (Event S)) → waiting c h ≡ x ∷ [] → chosen c h ≡ Some x
unfolding chosen
chosen-only {x = x} c h only = ap (λ ws. find (is_least ws) ws) only ∙ (rw (self_least (priority_of x)) refl)

-- the history after a wait, and an answer in the name of place 1
abbrev pub answered : {S : Type 0} → ℕ → ℕ → S → S → History S → History S
answered c p s s1 h =
    with_event (with_event (with_event (with_event h (Wait 0 c p s)) (Admit 1 s)) (Pass 1 c 0 s1)) (Resume 0 c s1)

-- the history after a wait, and a notify and an answer in the name of place 1
abbrev pub called_back : {S : Type 0} → ℕ → ℕ → S → S → History S → History S
called_back c p s s1 h =
    with_event
    (with_event (with_event (with_event (with_event h (Wait 0 c p s)) (Admit 1 s)) (Notify 1 c 0 s1)) (Leave 1 s1))
    (Resume 0 c s1)

module _ {S : Type 0} {rest : Rest S} {ready : Ready S} {n m : ℕ} where
  -- the stage at the opening
  pub IsOutside-opened : {s : S} → rest s nobody → IsOutside rest ready n m s (opened n m s)
  unfolding turn urgent called waiting outside latest_data
  IsOutside-opened {s = s} rests = record {
    stage = record {
      stands = record {
        legal = IsLegal-none (opened n m s) refl;
        lawful = record { opens = rests; each = λ f later e is. absurd (nothing f later e is) };
      };
      sized = refl;
      turn_is = refl;
      data_are = refl;
      waits_are = λ c. refl;
      called_are = refl;
      no_signaller = refl;
      first_is = refl;
      second_is = refl;
    };
    rests = rests;
  }
    where
      nothing : (f later : List (Event S)) (e : Event S) → [] ≡ f ++ e ∷ later → ⊥
      nothing [] later e is = cc
      nothing (x ∷ f) later e is = cc

  -- the stage after an event that is allowed next and is no signal
  pub Stage-push : {t : Turn} {s : S} {waits : ℕ → List (Event S)} {calls : List (Event S)} {a b : Bool} {h : History S}
      (e : Event S) (more : List (Event S))
      → Stage rest ready n m t s waits calls a b h → Allowed h e → Owes rest ready h.events e → is_signal e ≡ false
      → called_by h.events e ≡ more
      → Stage rest ready n m (turn_by e [] (still_called calls e more)) (data_of e) (still_wait waits e)
      (still_called calls e more)
      (cond (place_of e == 0) (is_out (Some e)) a) (cond (place_of e == 1) (is_out (Some e)) b) (with_event h e)
  unfolding with_event
  Stage-push {calls = calls} {h = h} e more stage allowed owes none calls_them =
      let quiet : urgent (h.events ++ e ∷ []) ≡ [] = urgent-push h.events e ∙ (rw (stage.no_signaller, none) refl) in
      let calling : called (h.events ++ e ∷ []) ≡ still_called calls e more =
      called-push h.events e
      ∙ (λ i. filter (λ x. not (place_of e == place_of x)) (stage.called_are i) ++ calls_them i) in
      record {
        stands = Stands-push e stage.stands allowed owes;
        sized = stage.sized;
        turn_is = turn-push h.events e ∙ (λ i. turn_by e (quiet i) (calling i));
        data_are = latest_data-push h e;
        waits_are = λ c. waiting-push c h.events e
            ∙ ap (λ l. filter (λ x. not (concerns c (place_of x) e)) l ++ cond (waits_on c e) (e ∷ []) [])
            (stage.waits_are c);
        called_are = calling;
        no_signaller = quiet;
        first_is = outside-push 0 h.events e ∙ ap (cond (place_of e == 0) (is_out (Some e))) stage.first_is;
        second_is = outside-push 1 h.events e ∙ ap (cond (place_of e == 1) (is_out (Some e))) stage.second_is;
      }

  -- the stage with an equal list of waits
  pub Stage-waits : {t : Turn} {s : S} {waits same : ℕ → List (Event S)} {calls : List (Event S)} {a b : Bool}
      {h : History S}
      → ((c : ℕ) → waits c ≡ same c)
      → Stage rest ready n m t s waits calls a b h → Stage rest ready n m t s same calls a b h
  Stage-waits {t = t} {s = s} {calls = calls} {a = a} {b = b} {h = h} is stage =
      subst (λ (w : ℕ → List (Event S)). Stage rest ready n m t s w calls a b h) (λ i c. is c i) stage

  -- no process waits by the front
  none_listed : {t : Turn} {s : S} {calls : List (Event S)} {a b : Bool} {h : History S}
      → Stage rest ready n m t s none_wait calls a b h → priorities h.events ≡ nobody
  none_listed {h = h} stage = λ i d. priorities-nobody d h.events (stage.waits_are d) i

  -- place 0 enters
  pub IsInside-admit : {s : S} {h : History S} → IsOutside rest ready n m s h
      → IsInside rest ready n m (with_event h (Admit 0 s))
  unfolding Owes
  IsInside-admit {s = s} {h = h} o = record {
    found = s;
    stage = Stage-push (Admit 0 s) [] o.stage
        (record {
          in_range = (rw o.stage.sized (omega arith), tt);
          fits = (o.stage.turn_is, o.stage.first_is, sym o.stage.data_are);
        }) tt refl refl;
  }

  -- place 0 leaves
  pub IsOutside-leave : {s : S} {h : History S} → IsInside rest ready n m h → rest s nobody
      → IsOutside rest ready n m s (with_event h (Leave 0 s))
  unfolding Owes
  IsOutside-leave {s = s} {h = h} i rests =
      let none : priorities (h.events ++ Leave 0 s ∷ []) ≡ nobody =
      priorities-leave h.events 0 s i.stage.turn_is ∙ none_listed i.stage in
      record {
        stage = Stage-push (Leave 0 s) [] i.stage
            (record { in_range = (rw i.stage.sized (omega arith), tt); fits = i.stage.turn_is })
            (rw none rests) refl refl;
        rests = rests;
      }

  -- place 0 waits, and no other place does
  pub Stage-wait : {c : ℕ} (p : ℕ) {s : S} {h : History S} → IsInside rest ready n m h → c < n
      → rest s (joined nobody c p)
      → Stage rest ready n m Free s (still_wait none_wait (Wait 0 c p s)) [] false true (with_event h (Wait 0 c p s))
  unfolding Owes
  Stage-wait {c = c} p {s = s} {h = h} i in_range rests =
      let lists : priorities (h.events ++ Wait 0 c p s ∷ []) ≡ joined nobody c p =
      priorities-wait h.events 0 c p s i.stage.turn_is ∙ ap (λ q. joined q c p) (none_listed i.stage) in
      Stage-push (Wait 0 c p s) [] i.stage
      (record { in_range = (rw i.stage.sized (omega arith), rw i.stage.sized in_range); fits = i.stage.turn_is })
      (rw lists rests) refl refl

  -- place 1 enters
  pub Stage-admit : {s : S} {waits : ℕ → List (Event S)} {a : Bool} {h : History S}
      → Stage rest ready n m Free s waits [] a true h
      → Stage rest ready n m (Held 1) s (still_wait waits (Admit 1 s)) [] a false (with_event h (Admit 1 s))
  unfolding Owes
  Stage-admit {s = s} stage = Stage-push (Admit 1 s) [] stage
      (record {
        in_range = (rw stage.sized (omega arith), tt);
        fits = (stage.turn_is, stage.second_is, sym stage.data_are);
      }) tt refl refl

  -- place 1 passes to the only waiter
  pub Stage-pass : {c p : ℕ} {s x s1 : S} {waits : ℕ → List (Event S)} {h : History S}
      → Stage rest ready n m (Held 1) s1 waits [] false false h → IsHoare n m c
      → waits c ≡ Wait 0 c p x ∷ [] → ((d : ℕ) → still_wait waits (Pass 1 c 0 s) d ≡ []) → ready c p s nobody
      → Stage rest ready n m (Owed 0 c) s none_wait [] false true (with_event h (Pass 1 c 0 s))
  unfolding Owes Chooses priorities
  Stage-pass {c = c} {p = p} {s = s} {x = x} {waits = waits} {h = h} stage hoare only none is_ready =
      let waits_after : (d : ℕ) → waiting d (h.events ++ Pass 1 c 0 s ∷ []) ≡ [] =
      λ d. waiting-push d h.events (Pass 1 c 0 s) ∙ ap
      (λ l. filter (λ e. not (concerns d (place_of e) (Pass 1 c 0 s))) l ++ []) (stage.waits_are d) ∙ none d in
      let lists : priorities (h.events ++ Pass 1 c 0 s ∷ []) ≡ nobody =
      λ i d. priorities-nobody d (h.events ++ Pass 1 c 0 s ∷ []) (waits_after d) i in
      let first : chosen c h.events ≡ Some (Wait 0 c p x) = chosen-only c h.events (stage.waits_are c ∙ only) in
      Stage-waits none (Stage-push (Pass 1 c 0 s) [] stage (record {
        in_range =
            (rw stage.sized (omega arith), (rw stage.sized (omega (arith, hoare)), rw stage.sized (omega arith)));
        fits = (stage.turn_is, rw first refl, rw stage.sized hoare);
      })
      (rw (wait_by-chosen c h.events (Wait 0 c p x) first, lists) is_ready) refl refl)

  -- place 1 notifies the only waiter
  pub Stage-call : {c p : ℕ} {s x s1 : S} {waits : ℕ → List (Event S)} {h : History S}
      → Stage rest ready n m (Held 1) s1 waits [] false false h → IsMesa n m c
      → waits c ≡ Wait 0 c p x ∷ [] → ((d : ℕ) → still_wait waits (Notify 1 c 0 s) d ≡ [])
      → Stage rest ready n m (Held 1) s none_wait (Wait 0 c p x ∷ []) false false (with_event h (Notify 1 c 0 s))
  unfolding Owes Chooses
  Stage-call {c = c} {p = p} {s = s} {x = x} {h = h} stage mesa only none =
      let first : chosen c h.events ≡ Some (Wait 0 c p x) = chosen-only c h.events (stage.waits_are c ∙ only) in
      Stage-waits none (Stage-push (Notify 1 c 0 s) (Wait 0 c p x ∷ []) stage (record {
        in_range =
            (rw stage.sized (omega arith), (rw stage.sized mesa.0, rw stage.sized (omega arith)));
        fits = (stage.turn_is, rw first refl, rw stage.sized mesa);
      })
      tt refl (called_by-notify h.events 1 c (Wait 0 c p x) s first))

  -- place 1 leaves, and the monitor is owed to the notified place 0
  pub Stage-leave : {c p : ℕ} {s x s1 : S} {h : History S}
      → Stage rest ready n m (Held 1) s1 none_wait (Wait 0 c p x ∷ []) false false h → rest s nobody
      → Stage rest ready n m (Owed 0 c) s none_wait (Wait 0 c p x ∷ []) false true (with_event h (Leave 1 s))
  unfolding Owes
  Stage-leave {s = s} {h = h} stage rests =
      let none : priorities (h.events ++ Leave 1 s ∷ []) ≡ nobody =
      priorities-leave h.events 1 s stage.turn_is ∙ none_listed stage in
      Stage-push (Leave 1 s) [] stage (record { in_range = (rw stage.sized (omega arith), tt); fits = stage.turn_is })
      (rw none rests) refl refl

  -- place 0 resumes
  pub IsInside-resume : {c : ℕ} {s : S} {calls : List (Event S)} {h : History S}
      → Stage rest ready n m (Owed 0 c) s none_wait calls false true h → c < n
      → still_called calls (Resume 0 c s) [] ≡ [] → IsInside rest ready n m (with_event h (Resume 0 c s))
  unfolding Owes
  IsInside-resume {c = c} {s = s} {h = h} stage in_range alone = record {
    found = s;
    stage =
        subst
        (λ (calls : List (Event S)). Stage rest ready n m (Held 0) s none_wait calls false true
        (with_event h (Resume 0 c s))) alone
        (Stage-push (Resume 0 c s) [] stage
        (record {
          in_range = (rw stage.sized (omega arith), rw stage.sized in_range);
          fits = (stage.turn_is, sym stage.data_are);
        }) tt refl refl);
  }

  -- place 0 is inside again after a wait and its answer
  pub IsInside-answered : {c p : ℕ} {s s1 : S} {h : History S} → IsInside rest ready n m h → IsHoare n m c
      → rest s (joined nobody c p) → ready c p s1 nobody
      → IsInside rest ready n m (answered c p s s1 h)
  IsInside-answered {c = c} {p = p} {s = s} {s1 = s1} i hoare rests is_ready =
      let in_range : c < n = omega (arith, hoare) in
      let none : (d : ℕ) → still_wait (before c p s) (Pass 1 c 0 s1) d ≡ [] = λ d. elim (c == d) as
      (λ b. filter (λ x. not (concerns d (place_of x) (Pass 1 c 0 s1)))
      (filter (λ x. not (concerns d (place_of x) (Admit 1 s))) (cond b (Wait 0 c p s ∷ []) []) ++ []) ++ [] ≡ [])
      [ true ↦ refl | false ↦ refl ] in
      IsInside-resume
      (Stage-pass (Stage-admit (Stage-wait p i in_range rests)) hoare (only_one c p s) none is_ready) in_range refl

  -- place 0 is inside again after a wait, a notify and its answer
  pub IsInside-called_back : {c : ℕ} (p : ℕ) {s s1 : S} {h : History S} → IsInside rest ready n m h → IsMesa n m c
      → rest s (joined nobody c p) → rest s1 nobody
      → IsInside rest ready n m (called_back c p s s1 h)
  IsInside-called_back {c = c} p {s = s} {s1 = s1} i mesa rests rests_too =
      let none : (d : ℕ) → still_wait (before c p s) (Notify 1 c 0 s1) d ≡ [] = λ d. elim (c == d) as
      (λ b. filter (λ x. not (concerns d (place_of x) (Notify 1 c 0 s1)))
      (filter (λ x. not (concerns d (place_of x) (Admit 1 s))) (cond b (Wait 0 c p s ∷ []) []) ++ []) ++ [] ≡ [])
      [ true ↦ refl | false ↦ refl ] in
      IsInside-resume
      (Stage-leave (Stage-call (Stage-admit (Stage-wait p i mesa.0 rests)) mesa (only_one c p s) none) rests_too) mesa.0
      refl

-- a front grows by an event of another place, without an event of its own place
Grows-other : {S : Type 0} (k : ℕ) (e : Event S) (h : History S) → (place_of e == k) ≡ false
    → Grows k [] h (with_event h e)
unfolding with_event
Grows-other k e h other =
    record {
      begins = Begins-push h e;
      adds = own-push k h.events e
          ∙ ap (λ b. own k h.events ++ cond b (e ∷ []) []) other;
    }

-- a wait and its answer add two events of place 0: the wait and the resumption
pub AddsTwo-answered : {S : Type 0} (c p : ℕ) (s s1 : S) (h : History S)
    → AddsTwo h (Wait 0 c p s) (Resume 0 c s1) (answered c p s s1 h)
unfolding with_event
AddsTwo-answered c p s s1 h =
    let h1 : History _ = with_event h (Wait 0 c p s) in
    let h2 : History _ = with_event h1 (Admit 1 s) in
    let h3 : History _ = with_event h2 (Pass 1 c 0 s1) in
    record {
      grows =
          Grows-trans
          (Grows-trans (Grows-trans (Grows-one (Wait 0 c p s) h h1 refl) (Grows-other 0 (Admit 1 s) h1 refl))
          (Grows-other 0 (Pass 1 c 0 s1) h2 refl))
          (Grows-one (Resume 0 c s1) h3 (with_event h3 (Resume 0 c s1)) refl);
      begins = Begins-trans (Begins-trans (Begins-push h1 (Admit 1 s)) (Begins-push h2 (Pass 1 c 0 s1)))
          (Begins-push h3 (Resume 0 c s1));
      ends = newest-push h3.events (Resume 0 c s1);
    }

-- a wait, a notify and its answer add the same two events of place 0
pub AddsTwo-called_back : {S : Type 0} (c p : ℕ) (s s1 : S) (h : History S)
    → AddsTwo h (Wait 0 c p s) (Resume 0 c s1) (called_back c p s s1 h)
unfolding with_event
AddsTwo-called_back c p s s1 h =
    let h1 : History _ = with_event h (Wait 0 c p s) in
    let h2 : History _ = with_event h1 (Admit 1 s) in
    let h3 : History _ = with_event h2 (Notify 1 c 0 s1) in
    let h4 : History _ = with_event h3 (Leave 1 s1) in
    let grows : Grows 0 (Wait 0 c p s ∷ []) h h4 =
    Grows-trans
    (Grows-trans (Grows-trans (Grows-one (Wait 0 c p s) h h1 refl) (Grows-other 0 (Admit 1 s) h1 refl))
    (Grows-other 0 (Notify 1 c 0 s1) h2 refl))
    (Grows-other 0 (Leave 1 s1) h3 refl) in
    record {
      grows = Grows-trans grows (Grows-one (Resume 0 c s1) h4 (with_event h4 (Resume 0 c s1)) refl);
      begins =
          Begins-trans
          (Begins-trans (Begins-trans (Begins-push h1 (Admit 1 s)) (Begins-push h2 (Notify 1 c 0 s1)))
          (Begins-push h3 (Leave 1 s1)))
          (Begins-push h4 (Resume 0 c s1));
      ends = newest-push h4.events (Resume 0 c s1);
    }
