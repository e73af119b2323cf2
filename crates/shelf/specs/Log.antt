-- The log of a shelf: its changes, the oldest first.
use Rattle.std.specs.Prelude.{◌≡◌, ◌==◌, ℕ, List, [], ◌∷◌, ◌++◌, Option, Some, None, if◌then◌else◌}
use Rattle.shelf.specs.declared.view.Change.{Change}
use Rattle.shelf.specs.declared.view.Change.TheVariants.{Put, Take}

abbrev pub Log : Type 0 → Type 0
Log T = List (Change T)

module _ {T : Type 0} where
  -- what is on the shelf under the number k after a change, if it was x before
  abbrev pub after : ℕ → Option T → Change T → Option T
  after k x (Put j y) = if j == k then Some y else x
  after k x (Take j) = if j == k then None else x

  -- the same after some changes
  abbrev pub after_all : ℕ → Option T → Log T → Option T
  after_all k x [] = x
  after_all k x (c ∷ cs) = after_all k (after k x c) cs

  -- what is on the shelf under the number k: what was put there last, unless it was taken since
  abbrev pub shelved : ℕ → Log T → Option T
  shelved k log = after_all k None log

  -- the numbers of all things that were taken, in order
  abbrev pub taken : Log T → List ℕ
  taken [] = []
  taken (Put k x ∷ cs) = taken cs
  taken (Take k ∷ cs) = k ∷ taken cs

  -- the second log begins with the first
  pub record Begins (old new : Log T) : Type 0 where
    pub more : Log T
    pub is : new ≡ old ++ more
