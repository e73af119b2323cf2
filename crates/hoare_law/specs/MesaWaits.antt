-- What came between a wait on a Mesa condition and its end, as the process that waited learns it.
use Rattle.std.specs.Prelude.{ℕ, List, [], ◌∷◌, ◌++◌, ◌≡◌, ◌+◌, true, length, map}
use Rattle.hoare_law.specs.declared.event.Event.{Event}
use Rattle.hoare_law.specs.declared.event.Event.TheVariants.{Wait, Resume}
use Rattle.hoare_law.specs.declared.event.History.{History}
use Rattle.hoare_law.specs.Events.{place_of, own}
use Rattle.hoare_law.specs.Waiting.{priority_of, takes, waiting}
use Rattle.hoare_law.specs.Priorities.{in_order}
use Rattle.hoare_law.specs.Called.{called}
use Rattle.hoare_law.specs.Turns.{urgent}
use Rattle.hoare_law.specs.Admissions.{admissions}
use Rattle.hoare_law.specs.Overtaking.{takes_from, taken_from, waits_below, waiters_up_to, is_notification, releases}
use Rattle.hoare_law.specs.Overtaking.{signals, resumed_called}

-- the history up to the notification: f, the wait of k, and the events `earlier`
abbrev pub until_notified : {S : Type 0} → List (Event S) → Event S → List (Event S) → List (Event S)
until_notified f wait earlier = f ++ wait ∷ earlier

-- the place k waited on c with priority p and left the data s, after the history f; it resumed, and h ends with that
pub record MesaWait {S : Type 0} (f h : History S) (k c p : ℕ) (s t : S) : Type 0 where
  -- the event `by` notified k, and none between is of k
  pub earlier : List (Event S)
  pub by : Event S
  pub later : List (Event S)
  pub is : h.events ≡ f.events ++ Wait k c p s ∷ (earlier ++ by ∷ (later ++ Resume k c t ∷ []))
  pub others : own k (earlier ++ by ∷ later) ≡ []
  pub notifies : is_notification by ≡ true
  pub takes_it : takes c k by ≡ true
  -- the waiters that were still before k then: none, if k was notified alone. Together with those taken one by one they
  -- are the waiters that were before k, and those that began to wait with a lesser priority
  pub left : List (Event S)
  pub behind : List (Event S)
  pub waited :
      in_order priority_of (waiting c (until_notified f.events (Wait k c p s) earlier)) ≡ left ++ Wait k c p s ∷ behind
  pub alone : takes_from c by ≡ true → left ≡ []
  pub counts : length left + taken_from c earlier ≡ waiters_up_to c p f.events + waits_below c p earlier
  -- then the places notified before it resumed, in turn, and no other notified place did. The monitor was released once
  -- for each of these, for each waiting signaller and each signal since, and once more; no process was admitted
  pub resumed :
      resumed_called h.sizes later
      ≡ map place_of (called (until_notified f.events (Wait k c p s) earlier) ++ left)
  pub often :
      releases later
      ≡ length (called (until_notified f.events (Wait k c p s) earlier) ++ left)
      + length (urgent (until_notified f.events (Wait k c p s) earlier)) + signals later + 1
  pub nobody : admissions later ≡ 0
