-- What the service reports of a list of jobs, for any number of workers.
use Rattle.std.specs.Prelude.{ℕ, suc, ◌+◌, ◌*◌, ◌%◌, List, [], ◌∷◌, length}
use Rattle.std.specs.List.{sum_by}

-- the block on a cylinder
abbrev pub block_of : ℕ → ℕ
block_of c = (c * c + 17) % 65536

-- a job that is done: its number, and its cylinder, which determines its block
pub record Served : Type 0 where
  pub job : ℕ
  pub cylinder : ℕ

-- the result of job i, done on cylinder c
abbrev pub served : ℕ → ℕ → Served
served i c = record { job = i; cylinder = c }

-- the results of jobs on these cylinders, in order and numbered from i
abbrev pub served_from : ℕ → List ℕ → List Served
served_from i [] = []
served_from i (c ∷ cs) = served i c ∷ served_from (suc i) cs

-- the sum of the blocks of these jobs
abbrev pub sum_of : List Served → ℕ
sum_of ds = sum_by (λ (d : Served). block_of d.cylinder) ds

-- what is reported: each job that was done, how many there are, and the sum of their blocks
pub record Account : Type 0 where
  pub lines : List Served
  pub jobs : ℕ
  pub sum : ℕ

-- what the service reports of jobs on these cylinders
abbrev pub service : List ℕ → Account
service cs = record { lines = served_from 0 cs; jobs = length cs; sum = sum_of (served_from 0 cs) }
