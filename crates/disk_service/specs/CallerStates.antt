-- What the caller's thread keeps for the others.
use Rattle.std.specs.Prelude.{ℕ, ◌+◌, ◌≡◌, length, [], All, true}
use Rattle.disk_service.specs.declared.doors.Doors.{Doors}
use Rattle.disk_service.specs.declared.threads.CallerState.{CallerState}
use Rattle.disk_service.specs.Doors.{AreThere}
use Rattle.disk_service.specs.ServedJobs.{AreFresh, AreAmong, AreDoneBy}

-- no thread has started: no place knows of anything that has happened, and there are no results
pub record IsUnused (s : CallerState) : Type 0 where
  pub fresh : AreFresh s.places
  pub empty : All (λ room. room.items ≡ []) s.rooms.items
  pub none : s.results.items ≡ []

-- the caller has what n workers start with: the places of n threads, and n rooms
pub record HasForWorkers (d : Doors) (n : ℕ) (s : CallerState) : Type 0 where
  pub places : AreThere d n s.places
  pub rooms : length s.rooms.items ≡ n
  pub unused : IsUnused s

-- the caller can start all threads: it has the places of n + 2 threads, and the rooms of n workers
pub record IsReady (d : Doors) (n : ℕ) (s : CallerState) : Type 0 where
  pub places : AreThere d (n + 2) s.places
  pub rooms : length s.rooms.items ≡ n
  pub unused : IsUnused s

-- unless a worker couldn't do a job that it got, the results are of the jobs that the threads 0, .., n - 1 did, and
-- these did nothing else
abbrev pub HaveDone : ℕ → CallerState → Type 0
HaveDone n s = s.did_all ≡ true → AreDoneBy (AreAmong s.places) n s.results.items
