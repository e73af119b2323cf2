-- The cells of a buffer, in a ring.
use Rattle.std.specs.Prelude.{ℕ, ◌-◌, ◌<◌, ◌≤◌, List, [], ◌∷◌, ◌++◌, length, take, drop, map, replicate, ◌≡◌, Option}
use Rattle.std.specs.Prelude.{Some, None}
use Rattle.plain_schedulers.specs.Buffers.{Buffered}

-- the items in the cells, in the order of the cells
abbrev pub items_in : {T : Type 0} → List (Option T) → List T
items_in [] = []
items_in (None ∷ cells) = items_in cells
items_in (Some x ∷ cells) = x ∷ items_in cells

-- all cells, beginning with the given one, around the end
abbrev pub turned : {T : Type 0} → ℕ → List (Option T) → List (Option T)
turned last cells = drop last cells ++ take last cells

-- the cells as a buffer: the oldest item is the first, counted from the given cell on
abbrev pub ring_view : {T : Type 0} → List (Option T) → ℕ → Buffered T
ring_view cells last = record { size = length cells; items = items_in (turned last cells) }

-- there are 1 to 4096 cells; counted from the cell `last` on, around the end, the final `count` cells have items, and
-- no others have
pub record IsRing {T : Type 0} (cells : List (Option T)) (last count : ℕ) : Type 0 where
  pub least : 1 ≤ length cells
  pub most : length cells ≤ 4096
  pub last_within : last < length cells
  pub count_within : count ≤ length cells
  pub filled : turned last cells ≡ replicate (length cells - count) None ++ map Some (items_in (turned last cells))
