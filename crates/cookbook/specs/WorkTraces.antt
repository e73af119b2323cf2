-- What the procedures of a work queue add to the history.
use Rattle.std.specs.Prelude.{ℕ, List, [], ◌∷◌, length, Bool, true, false, ◌≡◌, ◌<◌, ◌≤◌, Option, Some, None}
use Rattle.std.specs.Prelude.{Result, Ok, Err}
use Rattle.hoare_law.specs.declared.event.History.{History}
use Rattle.hoare_law.specs.declared.event.Event.TheVariants.{Admit, Wait, Leave, Resume}
use Rattle.hoare_law.specs.Events.{with_event}
use Rattle.hoare_law.specs.Waiting.{waiting}
use Rattle.hoare_law.specs.Growth.{AddsLast, AddsTwo, Notifies, Broadcasts, Finishes}
use Rattle.cookbook.specs.declared.work_queue.PutRefused.{PutRefused}
use Rattle.cookbook.specs.declared.work_queue.PutRefused.TheVariants as refused
use Rattle.cookbook.specs.WorkQueues.{Workload, with_job, with_jobs, shut, one_gone, IsIdle, IsOver}

-- k entered, and waited on condition 1 as often as it found no job and the queue open; its front is then g, and it
-- finds the data found
pub data ComesToWork (k : ℕ) (f : History Workload) : History Workload → Workload → Type 0 where
  entered : (g : History Workload) (found : Workload) → AddsLast f (Admit k found) g → ComesToWork k f g found
  again : (g h : History Workload) (found now : Workload) → ComesToWork k f g found → IsIdle found
      → AddsTwo g (Wait k 1 0 found) (Resume k 1 now) h → ComesToWork k f h now

-- k put the job in as the latest, and notified a waiting worker if there was one; or k was refused and nothing changed,
-- since the queue was shut down, or was open and full
pub data Puts (k : ℕ) (job : ℕ) (f h : History Workload) : Result (Unit {0}) PutRefused → Type 0 where
  put : (a : Workload) (g e : History Workload) (called : Bool) → AddsLast f (Admit k a) g → a.closed ≡ false
      → length a.jobs < 8 → Notifies k 1 (with_job job a) g e called → h ≡ with_event e (Leave k (with_job job a))
      → Puts k job f h (Ok tt)
  was_shut : (a : Workload) (g : History Workload) → AddsLast f (Admit k a) g → a.closed ≡ true
      → h ≡ with_event g (Leave k a) → Puts k job f h (Err (refused.Closed job))
  was_full : (a : Workload) (g : History Workload) → AddsLast f (Admit k a) g → a.closed ≡ false
      → length a.jobs ≡ 8 → h ≡ with_event g (Leave k a) → Puts k job f h (Err (refused.Full job))

-- k took the oldest job; or k found the queue shut down and no job left, and went: the last worker to go resumed a
-- closer if there was one
pub data Takes (k : ℕ) (f h : History Workload) : Option ℕ → Type 0 where
  took : (a : Workload) (g : History Workload) (job : ℕ) (others : List ℕ) → ComesToWork k f g a
      → a.jobs ≡ job ∷ others → h ≡ with_event g (Leave k (with_jobs others a)) → Takes k f h (Some job)
  went : (a : Workload) (g : History Workload) → ComesToWork k f g a → length a.jobs ≡ 0 → a.closed ≡ true
      → 1 < a.workers → h ≡ with_event g (Leave k (one_gone a)) → Takes k f h None
  went_last : (a : Workload) (g : History Workload) → ComesToWork k f g a → length a.jobs ≡ 0 → a.closed ≡ true
      → a.workers ≤ 1 → Finishes k 0 (one_gone a) g h → Takes k f h None

-- k shut the queue, notified all waiting workers, waited if a worker had not gone, found all work over and no worker
-- waiting for a job, and resumed the next closer if there was one
pub data ShutsDown (k : ℕ) (f h : History Workload) : Type 0 where
  at_once : (a : Workload) (g e : History Workload) → AddsLast f (Admit k a) g → Broadcasts k 1 (shut a) g e
      → IsOver (shut a) → waiting 1 e.events ≡ [] → Finishes k 0 (shut a) e h → ShutsDown k f h
  waited : (a b : Workload) (g e i : History Workload) → AddsLast f (Admit k a) g → Broadcasts k 1 (shut a) g e
      → 0 < a.workers → AddsTwo e (Wait k 0 0 (shut a)) (Resume k 0 b) i → IsOver b → waiting 1 i.events ≡ []
      → Finishes k 0 b i h → ShutsDown k f h
