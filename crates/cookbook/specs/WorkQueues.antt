-- What holds of a work queue and of its waiters. Condition 0, one of Hoare's, is "all are gone": processes that shut
-- the queue down wait there. Condition 1, a Mesa condition, is "a job, or closed": workers wait there. A queue has room
-- for 8 jobs.
use Rattle.std.specs.Prelude.{ℕ, List, [], ◌∷◌, ◌++◌, length, Bool, true, false, ◌≡◌, ◌≢◌, ◌<◌, ◌≤◌, ◌-◌}

-- the jobs that no worker has taken, the oldest first; true if the queue was shut down; how many workers have not gone
pub record Workload : Type 0 where
  pub jobs : List ℕ
  pub closed : Bool
  pub workers : ℕ

-- the queue is open and has no job, and no worker has gone
abbrev pub begun : ℕ → Workload
begun workers = record { jobs = []; closed = false; workers = workers }

-- one more job, as the latest
abbrev pub with_job : ℕ → Workload → Workload
with_job job s = record s { jobs = s.jobs ++ job ∷ [] }

-- the same with these jobs
abbrev pub with_jobs : List ℕ → Workload → Workload
with_jobs jobs s = record s { jobs = jobs }

-- the queue is shut: no job can be put in
abbrev pub shut : Workload → Workload
shut s = record s { closed = true }

-- one more worker has gone
abbrev pub one_gone : Workload → Workload
one_gone s = record s { workers = s.workers - 1 }

-- a worker has to wait: there is no job, and the queue is open
pub record IsIdle (s : Workload) : Type 0 where
  pub none : length s.jobs ≡ 0
  pub may_come : s.closed ≡ false

-- all work is over: the queue was shut down, no job is left, and every worker has gone
pub record IsOver (s : Workload) : Type 0 where
  pub closed : s.closed ≡ true
  pub none_left : length s.jobs ≡ 0
  pub all_gone : s.workers ≡ 0

-- the invariant: there are no more jobs than there is room for; and every worker has gone only if the queue was
-- shut down and no job was left, so that each job that was put in was taken
pub record WorkHolds (s : Workload) : Type 0 where
  pub within : length s.jobs ≤ 8
  pub done : s.workers ≡ 0 → IsOver s

-- at each wait and each leave: if a process waits in a shut-down (a closer), the queue is shut and some worker has not
-- gone; and if the queue is shut, no worker waits for a job (idle). So a shut-down has to notify all waiting workers.
-- That a worker waits while there is a job is allowed: the job may be for a notified worker that has not resumed yet
pub record WorkRests (s : Workload) (closers idle : List ℕ) : Type 0 where
  pub inv : WorkHolds s
  pub closing : closers ≢ [] → s.closed ≡ true
  pub still_in : closers ≢ [] → 0 < s.workers
  pub sent_home : s.closed ≡ true → length idle ≡ 0

-- a closer that is resumed finds that all work is over and that no worker waits. A worker that resumes after a wait for
-- a job is promised only what holds at each wait and each leave, so it tests again
pub record WorkReady (s : Workload) (idle : List ℕ) : Type 0 where
  pub inv : WorkHolds s
  pub over : IsOver s
  pub sent_home : length idle ≡ 0
