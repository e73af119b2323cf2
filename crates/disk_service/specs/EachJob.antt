-- What a worker does again and again, as the front of its place shows it, compared with how many jobs it has done.
use Rattle.std.specs.Prelude.{ℕ, ◌+◌, ◌≤◌, Option, Some, None}
use Rattle.hoare_law.specs.declared.event.History.{History}

-- the front was f and is h; between them something was done at least once for each job by which `after` exceeds
-- `before`; DoneBy says how often it was done
pub record ForEach {D : Type 0} (DoneBy : History D → ℕ → History D → Type 0) (f h : History D)
    (before after : ℕ) : Type 0 where
  pub times : ℕ
  pub done : DoneBy f times h
  pub enough : after ≤ before + times

-- how many jobs a result that may be missing counts for
abbrev pub jobs_in : {T : Type 0} → Option T → ℕ
jobs_in (Some done) = 1
jobs_in None = 0
