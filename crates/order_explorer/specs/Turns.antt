-- How the choices of a run give those of the next run: as an odometer turns.
use Rattle.std.specs.Prelude.{ℕ, List, Option, None, ◌≡◌, ◌<◌, ◌≤◌, ◌+◌, count_ones, length, slice_index_or, slice_set}
use Rattle.std.specs.Prelude.{take}
use Rattle.order_explorer.specs.declared.choices.Choice.{Choice}

-- the choices from the i-th on have no place left to admit
abbrev pub AreLast : ℕ → List Choice → Type 0
AreLast i all = (k : ℕ) (d : Choice) → i ≤ k → k < length all
    → (slice_index_or all k d).count ≤ (slice_index_or all k d).taken + 1

-- the same choice, but of the next place
abbrev pub turned : Choice → Choice
turned c = record { asking = c.asking; behind = c.behind; count = c.count; taken = c.taken + 1 }

-- the last of the old choices that has a place left is turned; the choices before it stay, those after it are removed
pub record IsTurned (old new : List Choice) : Type 0 where
  pub n : ℕ
  pub last : Choice
  pub within : n < length old
  pub at : last ≡ slice_index_or old n last
  pub has_left : last.taken + 1 < last.count
  pub others_last : AreLast (n + 1) old
  pub now : new ≡ take (n + 1) (slice_set old n (turned last))

-- a new choice counts all places that are to enter, and admits the first of them if orders aren't drawn
pub record IsNew (asking : ℕ) (drawn : Option ℕ) (c : Choice) : Type 0 where
  pub counts_all : c.count ≡ count_ones asking
  pub from_first : drawn ≡ None → c.taken ≡ 0
