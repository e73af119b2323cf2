-- The sizes of a monitor, and the two kinds of conditions: of a monitor's n conditions the last m are Mesa conditions,
-- the others Hoare's. A signal resumes a waiter on one of Hoare's conditions, and the waiter continues at once. A
-- notify or a broadcast notifies a waiter on a Mesa condition, and the waiter resumes later.
-- Source of Mesa conditions: B. W. Lampson and D. D. Redell, "Experience with Processes and Monitors in Mesa", CACM
-- 23(2), 1980.
use Rattle.std.specs.Prelude.{ℕ, ◌<◌, ◌≤◌, ◌+◌}
use Rattle.hoare_law.specs.declared.event.Sizes.{Sizes}

-- the sizes of a monitor with this number of conditions and of Mesa conditions among them, and this number of places
abbrev pub sizes_of : ℕ → ℕ → ℕ → Sizes
sizes_of conditions mesa places = record { places = places; conditions = conditions; mesa = mesa }

-- of n conditions, m of them Mesa conditions, c is one of Hoare's
abbrev pub IsHoare : ℕ → ℕ → ℕ → Type 0
IsHoare n m c = c + m < n

-- of n conditions, m of them Mesa conditions, c is a Mesa condition
abbrev pub IsMesa : ℕ → ℕ → ℕ → Type 0
IsMesa n m c = (c < n) × (n ≤ c + m)

-- how many conditions data have, and how many of them are Mesa conditions
pub record Kinds : Type 0 where
  pub conditions : ℕ
  pub mesa : ℕ

-- data with this number of conditions, and this number of Mesa conditions among them
abbrev pub kinds_of : ℕ → ℕ → Kinds
kinds_of conditions mesa = record { conditions = conditions; mesa = mesa }

-- the sizes of a monitor with conditions of these kinds and this number of places
abbrev pub sizes_at : Kinds → ℕ → Sizes
sizes_at kinds places = sizes_of kinds.conditions kinds.mesa places
