-- What holds of the philosophers' table and of its waiters. The data are five truth values: for each seat, true if its
-- philosopher eats. Condition k is "the philosopher at seat k can eat".
use Rattle.std.specs.Prelude.{ℕ, List, [], length, replicate, slice_index_or, slice_set, Bool, true, false, ◌≡◌, ◌≢◌}
use Rattle.std.specs.Prelude.{◌<◌, ◌+◌, ◌%◌}

-- the two seats beside a seat
abbrev pub right_of : ℕ → ℕ
right_of k = (k + 1) % 5

abbrev pub left_of : ℕ → ℕ
left_of k = (k + 4) % 5

abbrev pub IsEating : List Bool → ℕ → Type 0
IsEating t k = slice_index_or t k false ≡ true

-- no philosopher eats at the seat or beside it: so both forks are free
pub record CanEat (t : List Bool) (k : ℕ) : Type 0 where
  pub here : slice_index_or t k false ≡ false
  pub right : slice_index_or t (right_of k) false ≡ false
  pub left : slice_index_or t (left_of k) false ≡ false

-- no philosopher eats
abbrev pub all_up : List Bool
all_up = replicate 5 false

-- the same table with the philosopher at seat k eating
abbrev pub seated : List Bool → ℕ → List Bool
seated t k = slice_set t k true

-- the same table with the philosopher at seat k not eating
abbrev pub risen : List Bool → ℕ → List Bool
risen t k = slice_set t k false

-- the invariant: no two neighbours eat
pub record TableHolds (t : List Bool) : Type 0 where
  pub seats : length t ≡ 5
  pub apart : (k : ℕ) → k < 5 → IsEating t k → slice_index_or t (right_of k) false ≡ false

-- at each wait and each leave: no waiter can eat
pub record TableRests (t : List Bool) (q : ℕ → List ℕ) : Type 0 where
  pub inv : TableHolds t
  pub cause : (c : ℕ) → c < 5 → q c ≢ [] → CanEat t c → ⊥

-- a waiter that is resumed can eat; other waiters may be able to eat too
pub record TableReady (c : ℕ) (t : List Bool) : Type 0 where
  pub inv : TableHolds t
  pub can : CanEat t c
