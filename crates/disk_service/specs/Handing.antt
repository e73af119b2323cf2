-- What the caller's thread hands out to the workers.
use Rattle.std.specs.Prelude.{ℕ, zero, suc, ◌+◌, ◌-◌, ◌≡◌, List, [], ◌∷◌, ◌++◌, length, Result, Ok, Err}
use Rattle.hoare_law.specs.declared.event.History.{History}
use Rattle.plain_schedulers.specs.Buffers.{Buffered}
use Rattle.plain_schedulers.specs.BufferTraces.{Appends}
use Rattle.disk_jobs.specs.declared.fault.ServiceFault.{ServiceFault}
use Rattle.disk_jobs.specs.declared.fault.ServiceFault.TheVariants as faults
use Rattle.disk_jobs.specs.JobLists.{JobList}
use Rattle.disk_service.specs.declared.data.Item.{Item}
use Rattle.disk_service.specs.declared.data.Item.TheVariants.{Job, Stop}

-- the numbers of n jobs, in order from 0
abbrev pub first_jobs : ℕ → List Item
first_jobs zero = []
first_jobs (suc n) = first_jobs n ++ Job n ∷ []

-- n stop items
abbrev pub stops : ℕ → List Item
stops zero = []
stops (suc n) = stops n ++ Stop ∷ []

-- the numbers of all jobs, in order, and then a stop item for each worker
abbrev pub whole : JobList → List Item
whole j = first_jobs (length j.cylinders) ++ stops j.workers

-- place k, whose front was f, has appended these items in their order, by one append each, and nothing else
pub data HandsOut (k : ℕ) (f : History (Buffered Item)) : List Item → History (Buffered Item) → Type 0 where
  nothing : HandsOut k f [] f
  one_more : (before after : List Item) (item : Item) (g h : History (Buffered Item)) → HandsOut k f before g
      → Appends k item g h → after ≡ before ++ item ∷ [] → HandsOut k f after h

-- what was handed out, if starting the workers ended with this result, and the caller has this number of rooms left.
-- The room of each worker that was started is taken out, and so is that of the worker that couldn't be started
abbrev pub HandsBy : JobList → ℕ → ℕ → History (Buffered Item) → History (Buffered Item) → Result (Unit {0})
    ServiceFault → Type 0
-- each worker was started, and all items are handed out
HandsBy j rooms k f h (Ok u) = (rooms ≡ 0) × HandsOut k f (whole j) h
-- out of memory after that: each worker was started, and all items are handed out
HandsBy j rooms k f h (Err faults.Memory) = (rooms ≡ 0) × HandsOut k f (whole j) h
-- a worker couldn't be started: no job is handed out, and a stop item for each worker that was started is
HandsBy j rooms k f h (Err faults.Spawn) = HandsOut k f (stops (j.workers - (rooms + 1))) h
-- no other fault is returned
HandsBy j rooms k f h (Err e) = ⊥

-- how many rooms are left, if starting the clock and the workers ended with this result; with `Ok` or `Memory` none is,
-- and each of them was started
abbrev pub StartsBy : ℕ → Result (Unit {0}) ServiceFault → Type 0
StartsBy rooms (Ok u) = rooms ≡ 0
StartsBy rooms (Err faults.Memory) = rooms ≡ 0
StartsBy rooms (Err faults.Spawn) = Unit {0}
StartsBy rooms (Err e) = ⊥
