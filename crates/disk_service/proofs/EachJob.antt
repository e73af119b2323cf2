-- What is done for each job: for no job, for jobs after others, and for fewer jobs.
use Rattle.std.proofs.Common.{ℕ, ◌≡◌, ◌+◌, ◌≤◌, Option, Some, None, arith}
use Rattle.hoare_law.specs.declared.event.History.{History}
use Rattle.disk_service.specs.EachJob.{ForEach, jobs_in}

module _ {D : Type 0} (DoneBy : History D → ℕ → History D → Type 0) where
  -- nothing was done, for no job
  pub for-none : (f : History D) (n m : ℕ) → DoneBy f 0 f → m ≤ n → ForEach DoneBy f f n m
  for-none f n m nothing l = record { times = 0; done = nothing; enough = omega (arith, l) }

  -- what was done for the first jobs, and then for the later ones, was done for all of them
  pub for-both : ((f g h : History D) (a b : ℕ) → DoneBy f a g → DoneBy g b h → DoneBy f (a + b) h)
      → (f g h : History D) (a b c d : ℕ) → ForEach DoneBy f g a b → ForEach DoneBy g h c d → (m : ℕ) → m + c ≤ b + d
      → ForEach DoneBy f h a m
  for-both join f g h a b c d s t m l = record {
    times = s.times + t.times;
    done = join f g h s.times t.times s.done t.done;
    enough = omega (arith, s.enough, t.enough, l);
  }

  -- what was done for some jobs was done for fewer of them, if the front is the same
  pub for-fewer : (f g h : History D) (a b c m : ℕ) → ForEach DoneBy f g a b → h ≡ g → m + a ≤ b + c
      → ForEach DoneBy f h c m
  for-fewer f g h a b c m s same l = record {
    times = s.times;
    done = rw same s.done;
    enough = omega (arith, s.enough, l);
  }

-- a result that may be missing counts for at most one job
pub one-at-most : {T : Type 0} (done : Option T) → jobs_in done ≤ 1
one-at-most (Some done) = omega arith
one-at-most None = omega arith
