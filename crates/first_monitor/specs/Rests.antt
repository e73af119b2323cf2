-- What holds of the permits and of the processes that wait for one.
use Rattle.std.specs.Prelude.{ℕ, List, [], ◌≡◌, ◌≢◌, ◌<◌, ◌≤◌}

-- at each wait and each leave: if a process waits, no permit is free
pub record PermitsRest (total free : ℕ) (waiting : List ℕ) : Type 0 where
  pub within : free ≤ total
  pub cause : waiting ≢ [] → free ≡ 0

-- a waiter that is resumed finds a free permit; if others still wait it is the only one
pub record PermitsReady (total free : ℕ) (waiting : List ℕ) : Type 0 where
  pub within : free ≤ total
  pub some : 0 < free
  pub others : waiting ≢ [] → free ≡ 1
