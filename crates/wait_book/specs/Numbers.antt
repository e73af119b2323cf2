-- The numbers of the called.
use Rattle.std.specs.Prelude.{ℕ, ◌+◌, ◌==◌, if◌then◌else◌, List, [], ◌∷◌, map}
use Rattle.hoare_law.specs.declared.event.Event.{Event}
use Rattle.hoare_law.specs.Called.{called}
use Rattle.hoare_law.specs.Events.{place_of}

-- the number of place k in a list, counted from n + 1; 0 if the place isn't in it
abbrev pub position_from : ℕ → ℕ → List ℕ → ℕ
position_from n k [] = 0
position_from n k (j ∷ js) = if j == k then n + 1 else position_from (n + 1) k js

-- the number of place k among the called, that is the processes that were notified and haven't resumed yet, in the
-- order of the notifications: 1 for the first of them, and 0 for a place that isn't among them
abbrev pub notified_position : {S : Type 0} → List (Event S) → ℕ → ℕ
notified_position h k = position_from 0 k (map place_of (called h))
