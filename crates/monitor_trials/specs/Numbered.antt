-- The places of a test, in the order of their numbers.
use Rattle.std.specs.Prelude.{ℕ, List, length, slice_index_or, ◌≡◌, ◌<◌}

-- the first place of the list has number 0, the next 1, ..
abbrev pub IsNumbered : {O : Type 0} → (O → ℕ) → List O → Type 0
IsNumbered place outs = (k : ℕ) (d : _) → k < length outs → place (slice_index_or outs k d) ≡ k
