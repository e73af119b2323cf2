-- What holds of a buffer and its waiting processes. Condition 0 is nonempty, condition 1 is nonfull.
use Rattle.std.specs.Prelude.{ℕ, zero, suc, ◌-◌, ◌<◌, ◌≤◌, List, [], ◌∷◌, ◌++◌, length, ◌≡◌, ◌≢◌, Result, Ok, Err}
use Rattle.plain_schedulers.specs.declared.buffer.BufferRefused.{BufferRefused}
use Rattle.plain_schedulers.specs.declared.buffer.BufferRefused.TheVariants as refused

-- the number of cells, and the items in them, the oldest first
pub record Buffered (T : Type 0) : Type 0 where
  pub size : ℕ
  pub items : List T

-- n cells with no item
abbrev pub empty : {T : Type 0} → ℕ → Buffered T
empty n = record { size = n; items = [] }

-- the same cells with other items
abbrev pub with_items : {T : Type 0} → Buffered T → List T → Buffered T
with_items b items = record { size = b.size; items = items }

-- the same cells, and x after all items
abbrev pub added : {T : Type 0} → Buffered T → T → Buffered T
added b x = with_items b (b.items ++ x ∷ [])

-- a process has to wait on the condition: on nonempty if there is no item, on nonfull if there is no room
abbrev pub HoldsUp : {T : Type 0} → ℕ → Buffered T → Type 0
HoldsUp zero b = length b.items ≡ 0
HoldsUp (suc c) b = length b.items ≡ b.size

-- what always holds: there are 1 to 4096 cells, and no more items than cells
pub record BufferHolds {T : Type 0} (b : Buffered T) : Type 0 where
  pub least : 1 ≤ b.size
  pub most : b.size ≤ 4096
  pub fits : length b.items ≤ b.size

-- if a process waits for an item (a taker), there is none; if a process waits for room (a putter), there is none
pub record BufferRests {T : Type 0} (b : Buffered T) (takers putters : List ℕ) : Type 0 where
  pub inv : BufferHolds b
  pub nonempty : takers ≢ [] → length b.items ≡ 0
  pub nonfull : putters ≢ [] → length b.items ≡ b.size

-- the process that waited for an item finds one, and rest will hold again after it takes that item out
pub record ReadyNonempty {T : Type 0} (b : Buffered T) (takers putters : List ℕ) : Type 0 where
  pub inv : BufferHolds b
  pub some : 0 < length b.items
  pub others : takers ≢ [] → length b.items ≡ 1
  pub nonfull : putters ≢ [] → length b.items ≡ b.size

-- the process that waited for room finds some, and rest will hold again after it puts an item in
pub record ReadyNonfull {T : Type 0} (b : Buffered T) (takers putters : List ℕ) : Type 0 where
  pub inv : BufferHolds b
  pub room : length b.items < b.size
  pub others : putters ≢ [] → length b.items ≡ b.size - 1
  pub nonempty : takers ≢ [] → length b.items ≡ 0

-- what a process that waited on the condition finds
abbrev pub BufferReady : {T : Type 0} → ℕ → Buffered T → List ℕ → List ℕ → Type 0
BufferReady zero b takers putters = ReadyNonempty b takers putters
BufferReady (suc c) b takers putters = ReadyNonfull b takers putters

-- the results of a request for a buffer of n cells
pub data Makes {T : Type 0} (n : ℕ) : Result (Buffered T) BufferRefused → Type 0 where
  too_small : n ≡ 0 → Makes n (Err refused.BadSize)
  too_large : 4096 < n → Makes n (Err refused.BadSize)
  no_memory : 1 ≤ n → n ≤ 4096 → Makes n (Err refused.Memory)
  made : 1 ≤ n → n ≤ 4096 → Makes n (Ok (empty n))

-- if ready holds, what always holds does too
pub inv_of_ready : {T : Type 0} (c : ℕ) (b : Buffered T) (takers putters : List ℕ) → BufferReady c b takers putters
    → BufferHolds b
inv_of_ready zero b takers putters h = h.inv
inv_of_ready (suc c) b takers putters h = h.inv
