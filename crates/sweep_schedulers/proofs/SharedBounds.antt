-- Each history of readers and writers is a run of the model.
use Rattle.std.proofs.Common.{◌≡◌, List, [], ◌++◌, length, map, refl, ap, sym}
use Rattle.std.proofs.lemmas.List.{append-nil}
use Rattle.std.proofs.lemmas.List.Elements.{All-nil}
use Rattle.hoare_law.specs.declared.event.Event.{Event}
use Rattle.hoare_law.specs.declared.event.History.{History}
use Rattle.hoare_law.specs.Events.{place_of, latest_data}
use Rattle.hoare_law.specs.Waiting.{priority_of, waiting}
use Rattle.hoare_law.specs.Priorities.{in_order}
use Rattle.hoare_law.specs.Overtaking.{with_events}
use Rattle.sweep_schedulers.specs.ReadersWriters.{Shared}
use Rattle.sweep_schedulers.specs.Rounds.{Runs}
use Rattle.sweep_schedulers.specs.Rounds as rounds
use Rattle.sweep_schedulers.specs.SharedHistories.{IsSharedHistory, IsReleased, no_counts, counted_in, moment_of}
use Rattle.sweep_schedulers.proofs.Histories.{settled_released}
use Rattle.sweep_schedulers.proofs.SharedSteps.{Now, run, begins_at, reaches_at}

module _ {T : Type 0} where
  opens : (H : History (Shared T)) (used : IsSharedHistory H) → Now H used H.opening 0 [] [] no_counts
  unfolding latest_data waiting
  opens H used =
      begins_at H used H.opening 0 [] [] no_counts (settled_released H used [] H.events refl (λ e last. absurd (cc)))
      (All-nil (λ y. priority_of y ≡ 0)) rounds.none

  pub is_run : (h : History (Shared T)) (later : List (Event (Shared T))) → IsSharedHistory (with_events h later)
      → IsReleased h.events → IsReleased (h.events ++ later)
      → Runs (latest_data h) (length (waiting 0 h.events)) (map place_of (in_order priority_of (waiting 1 h.events)))
      (moment_of (with_events h later) (counted_in h.events (latest_data h) no_counts later))
  is_run h later used from to =
      let H : History (Shared T) = with_events h later in
      let s = latest_data h in
      let r = length (waiting 0 h.events) in
      let ws = map place_of (in_order priority_of (waiting 1 h.events)) in
      let calm = settled_released H used h.events later refl from in
      let first = run H used h.opening 0 [] [] h.events later no_counts refl (opens H used) in
      let start = begins_at H used s r ws h.events no_counts calm (first.settled calm).0 rounds.none in
      let next = run H used s r ws h.events later [] no_counts (ap (λ l. h.events ++ l) (sym (append-nil later)))
      start in
      reaches_at H used s r ws (h.events ++ later) _
      (settled_released H used (h.events ++ later) [] (sym (append-nil _)) to) next
