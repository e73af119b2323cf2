-- The writers and readers that wait in a history of readers and writers, as the bounds name them.
use Rattle.std.proofs.Common.{◌≡◌, ◌≢◌, ◌==◌, not, ℕ, suc, ◌+◌, ◌<◌, List, [], ◌∷◌, ◌++◌, length, map, Bool, true}
use Rattle.std.proofs.Common.{cond, refl, ap, sym, ◌∙◌, subst, arith, eq-eqb, length-append, true≢false}
use Rattle.std.proofs.Common.{⊎_elim, inl, inr, append_assoc}
use Rattle.std.specs.Prelude.{All}
use Rattle.std.specs.List.{filter}
use Rattle.std.proofs.lemmas.Bool.{not-true}
use Rattle.std.proofs.lemmas.List.{length-map, map-append}
use Rattle.std.proofs.lemmas.List.Elements.{All-map, All-weaker, filter-append}
use Rattle.hoare_law.specs.declared.event.Event.{Event}
use Rattle.hoare_law.specs.declared.event.History.{History}
use Rattle.hoare_law.specs.declared.event.Event.TheVariants.{Admit, Wait, Signal, Pass, Leave, Resume, Back, Notify}
use Rattle.hoare_law.specs.declared.event.Event.TheVariants.{Broadcast, SignalTo}
use Rattle.hoare_law.specs.Events.{place_of, data_of, newest, latest_data, with_event, cut_to}
use Rattle.hoare_law.specs.Lawful.{Owes}
use Rattle.hoare_law.specs.Waiting.{priority_of, waiting}
use Rattle.hoare_law.specs.Priorities.{priorities, in_order}
use Rattle.hoare_law.specs.Overtaking.{is_release, with_events}
use Rattle.hoare_law.proofs.Events.{newest-push, latest_data-push}
use Rattle.hoare_law.proofs.Filters.{HasLast, nothing, pushed, has_last, list_all-filter_none}
use Rattle.hoare_law.proofs.Joined.{length-some}
use Rattle.hoare_law.proofs.Priorities.{in_turn, length-priorities}
use Rattle.hoare_law.proofs.Resuming.{no_elements, All-from_list_all}
use Rattle.hoare_law.proofs.Sorted.{in_order-filter, length-in_order}
use Rattle.hoare_law.proofs.Waiters.{waiting-once}
use Rattle.sweep_schedulers.specs.ReadersWriters.{Shared, ReadersRest}
use Rattle.sweep_schedulers.specs.Rounds.{Runs, WriterWaits, ReaderWaits, Rests, counted_from, plain}
use Rattle.sweep_schedulers.specs.SharedHistories.{IsSharedHistory, IsReleased, no_counts, counted_in, moment_of}
use Rattle.sweep_schedulers.proofs.Rounds.{some_wait}
use Rattle.sweep_schedulers.proofs.SharedBounds.{is_run}

module _ {T : Type 0} where
  plain_rests : (s : Shared T) (q0 q1 : List ℕ) (n m : ℕ) → length q0 ≡ n → length q1 ≡ m → ReadersRest s q0 q1
      → ReadersRest s (plain n) (plain m)
  plain_rests s q0 q1 n m reading writing r = record {
    inv = r.inv;
    writers = λ some. r.writers (λ empty. some (ap plain (sym writing ∙ ap length empty)));
    readers = λ some. ⊎_elim inl
        (λ wait. inr (some_wait m (subst (λ (i : ℕ). 0 < i) writing (length-some q1 wait))))
        (r.readers (λ empty. some (ap plain (sym reading ∙ ap length empty))));
  }

  last_data : (h : History (Shared T)) (f : List (Event (Shared T))) (x : Event (Shared T))
      → latest_data (cut_to h (f ++ x ∷ [])) ≡ data_of x
  unfolding with_event
  last_data h f x = latest_data-push (cut_to h f) x

  rests_of : (h : History (Shared T)) → IsSharedHistory h → (f later : List (Event (Shared T))) (x : Event (Shared T))
      → h.events ≡ f ++ x ∷ later → is_release x ≡ true
      → ReadersRest (data_of x) (priorities (f ++ x ∷ []) 0) (priorities (f ++ x ∷ []) 1)
  unfolding Owes
  rests_of h is f later (Wait k c p s) at done = is.stands.lawful.each f later (Wait k c p s) at
  rests_of h is f later (Leave k s) at done = is.stands.lawful.each f later (Leave k s) at
  rests_of h is f later (Admit k s) at done = absurd (cc)
  rests_of h is f later (Signal k c w s) at done = absurd (cc)
  rests_of h is f later (Pass k c w s) at done = absurd (cc)
  rests_of h is f later (SignalTo k c w s) at done = absurd (cc)
  rests_of h is f later (Resume k c s) at done = absurd (cc)
  rests_of h is f later (Back k s) at done = absurd (cc)
  rests_of h is f later (Notify k c w s) at done = absurd (cc)
  rests_of h is f later (Broadcast k c s) at done = absurd (cc)

  -- at a moment at which the last event released the monitor, rest holds
  at_rest : (h : History (Shared T)) (later : List (Event (Shared T))) → IsSharedHistory (with_events h later)
      → IsReleased h.events → ReadersRest (latest_data h) (priorities h.events 0) (priorities h.events 1)
  unfolding latest_data priorities waiting
  at_rest h later is done = by (has_last h.events)
    where
      by : HasLast h.events → ReadersRest (latest_data h) (priorities h.events 0) (priorities h.events 1)
      by (nothing empty) =
          subst
          (λ (l : List (Event (Shared T))). ReadersRest (latest_data (cut_to h l)) (priorities l 0) (priorities l 1))
          (sym empty) is.stands.lawful.opens
      by (pushed g e ends) =
          subst
          (λ (l : List (Event (Shared T))). ReadersRest (latest_data (cut_to h l)) (priorities l 0) (priorities l 1))
          (sym ends)
          (subst (λ (s : Shared T). ReadersRest s (priorities (g ++ e ∷ []) 0) (priorities (g ++ e ∷ []) 1))
          (sym (last_data h g e))
          (rests_of (with_events h later) is g later e
          (ap (λ l. l ++ later) ends ∙ append_assoc g (e ∷ []) later)
          (done e (ap newest ends ∙ newest-push g e))))

  -- no other waiter has its place
  none_before : (h : List (Event (Shared T))) (c : ℕ) (before behind : List (Event (Shared T))) (x : Event (Shared T))
      → in_turn h c ≡ before ++ x ∷ behind → All (λ k. k ≢ place_of x) (map place_of before)
  none_before h c before behind x is =
      let test : Event (Shared T) → Bool = λ y. place_of x == place_of y in
      let sorted : filter test (in_turn h c) ≡ in_order priority_of (filter test (waiting c h)) =
      sym (in_order-filter priority_of test (waiting c h)) in
      let as_many : length (filter test (in_turn h c)) ≡ length (filter test (waiting c h)) =
      ap length sorted ∙ length-in_order priority_of (filter test (waiting c h)) in
      let parts : length (filter test (in_turn h c)) ≡ length (filter test before) + suc (length (filter test behind)) =
      ap (λ l. length (filter test l)) is ∙ ap length (filter-append test before (x ∷ behind))
      ∙ ap (λ b. length (filter test before ++ cond b (x ∷ filter test behind) (filter test behind)))
      (eq-eqb (place_of x) (place_of x) refl)
      ∙ length-append (filter test before) (x ∷ filter test behind) in
      let none : filter test before ≡ [] =
      no_elements (filter test before) (omega (arith, as_many, parts, waiting-once c (place_of x) h)) in
      All-map (λ k. k ≢ place_of x) place_of before
      (All-weaker (λ y. not (test y) ≡ true) (λ y. place_of y ≢ place_of x)
      (λ y n same. true≢false (sym (eq-eqb (place_of x) (place_of y) (sym same)) ∙ not-true _ n)) before
      (All-from_list_all (λ y. not (test y)) before (list_all-filter_none test before none)))

  rests_now : (h : History (Shared T)) (later : List (Event (Shared T))) → IsSharedHistory (with_events h later)
      → IsReleased h.events
      → Rests (counted_from (latest_data h) (length (waiting 0 h.events)) (map place_of (in_turn h.events 1)))
  rests_now h later is done = plain_rests (latest_data h) (priorities h.events 0) (priorities h.events 1)
      (length (waiting 0 h.events)) (length (map place_of (in_turn h.events 1)))
      (length-priorities 0 h.events)
      (length-priorities 1 h.events ∙ sym (length-in_order priority_of (waiting 1 h.events))
      ∙ sym (length-map (in_turn h.events 1) place_of))
      (at_rest h later is done)

  pub writer_waits : (h : History (Shared T)) (later before behind : List (Event (Shared T))) (x : Event (Shared T))
      → IsSharedHistory (with_events h later) → IsReleased h.events → IsReleased (h.events ++ later)
      → in_order priority_of (waiting 1 h.events) ≡ before ++ x ∷ behind
      → All (λ k. k ≢ place_of x) (counted_in h.events (latest_data h) no_counts later).writes
      → WriterWaits (latest_data h) (length (waiting 0 h.events)) (map place_of before) (place_of x)
      (map place_of behind)
      (moment_of (with_events h later) (counted_in h.events (latest_data h) no_counts later))
  writer_waits h later before behind x is from to at not_yet =
      let places : map place_of (in_turn h.events 1) ≡ map place_of before ++ place_of x ∷ map place_of behind =
      ap (map place_of) at ∙ map-append place_of before (x ∷ behind) in record {
        rests = subst (λ (ws : List ℕ). Rests (counted_from (latest_data h) (length (waiting 0 h.events)) ws)) places
            (rests_now h later is from);
        once = none_before h.events 1 before behind x at;
        runs = subst (λ (ws : List ℕ). Runs (latest_data h) (length (waiting 0 h.events)) ws
            (moment_of (with_events h later) (counted_in h.events (latest_data h) no_counts later))) places
            (is_run h later is from to);
        not_yet = not_yet;
      }

  pub reader_waits : (h : History (Shared T)) (later : List (Event (Shared T))) → IsSharedHistory (with_events h later)
      → IsReleased h.events → IsReleased (h.events ++ later) → 0 < length (waiting 0 h.events)
      → (counted_in h.events (latest_data h) no_counts later).rounds ≡ []
      → ReaderWaits (latest_data h) (length (waiting 0 h.events)) (map place_of (in_turn h.events 1))
      (moment_of (with_events h later) (counted_in h.events (latest_data h) no_counts later))
  reader_waits h later is from to some none = record {
    rests = rests_now h later is from;
    waited = some;
    runs = is_run h later is from to;
    not_yet = none;
  }
