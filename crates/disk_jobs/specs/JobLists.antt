-- The jobs of a service, and which lists are refused.
use Rattle.std.specs.Prelude.{ℕ, suc, ◌<◌, ◌≤◌, nat_lt, nat_le, ◌&&◌, not, if◌then◌else◌, List, [], ◌∷◌, ◌++◌, length}
use Rattle.std.specs.Prelude.{Option, Some, None}
use Rattle.disk_jobs.specs.declared.jobs.BadJobs.{BadJobs}
use Rattle.disk_jobs.specs.declared.jobs.BadJobs.TheVariants.{BadWorkers, TooMany, OffDisk}

-- the last cylinder of the disk, the number of workers, and the cylinder of each job
pub record JobList : Type 0 where
  pub cylmax : ℕ
  pub workers : ℕ
  pub cylinders : List ℕ

-- the list with these three
abbrev pub job_list : ℕ → ℕ → List ℕ → JobList
job_list m w cs = record { cylmax = m; workers = w; cylinders = cs }

-- the list with one more job at the end, on cylinder c
abbrev pub with_job : JobList → ℕ → JobList
with_job j c = job_list j.cylmax j.workers (j.cylinders ++ c ∷ [])

-- a list has 1 to 16 workers and at most 4,096 jobs
pub record IsInLimits (j : JobList) : Type 0 where
  pub some : 0 < j.workers
  pub few : j.workers ≤ 16
  pub room : length j.cylinders ≤ 4096

-- the number of the first job whose cylinder is past the last one, if the jobs are numbered from i
abbrev pub off_disk : ℕ → ℕ → List ℕ → Option ℕ
off_disk cylmax i [] = None
off_disk cylmax i (c ∷ cs) = if nat_lt cylmax c then Some i else off_disk cylmax (suc i) cs

-- the refusal of a list with this job off the disk, if there is one
abbrev pub refused_at : Option ℕ → Option BadJobs
refused_at None = None
refused_at (Some i) = Some (OffDisk i)

-- why the list is refused, the first reason that applies
unfoldable pub refusal_of : JobList → Option BadJobs
refusal_of j =
    if not (nat_lt 0 j.workers && nat_le j.workers 16) then Some BadWorkers
    else (if nat_lt 4096 (length j.cylinders) then Some TooMany
    else refused_at (off_disk j.cylmax 0 j.cylinders))
