-- What it means that results and counts are those of the jobs.
use Rattle.std.specs.Prelude.{ℕ, ◌≡◌, List, length}
use Rattle.std.specs.List.Sorted.{IsPermutation}
use Rattle.disk_jobs.specs.Services.{Served, served_from, sum_of}

-- the results are, in any order, each job once with its cylinder; and the counts are right
pub record Agrees (cylinders : List ℕ) (results : List Served) (jobs sum done : ℕ) : Type 0 where
  pub each_once : IsPermutation results (served_from 0 cylinders)
  pub jobs_are : jobs ≡ length cylinders
  pub sum_is : sum ≡ sum_of (served_from 0 cylinders)
  pub done_are : done ≡ length cylinders

-- the results are each job once with its cylinder, in the order of the jobs; and the counts are right
pub record AgreesInOrder (cylinders : List ℕ) (lines : List Served) (jobs sum done : ℕ) : Type 0 where
  pub in_order : lines ≡ served_from 0 cylinders
  pub jobs_are : jobs ≡ length cylinders
  pub sum_is : sum ≡ sum_of (served_from 0 cylinders)
  pub done_are : done ≡ length cylinders
