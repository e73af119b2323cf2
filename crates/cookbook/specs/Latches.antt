-- What holds of a latch and of its waiters. The data is the number of counts left until it opens; condition 0 is "the
-- latch is open".
use Rattle.std.specs.Prelude.{ℕ, List, [], ◌≡◌, ◌≢◌, ◌<◌}

-- if a process waits, the latch is shut
abbrev pub LatchRests : ℕ → List ℕ → Type 0
LatchRests left waiting = waiting ≢ [] → 0 < left

-- a waiter that is resumed finds the latch open
abbrev pub LatchReady : ℕ → Type 0
LatchReady left = left ≡ 0
