-- What holds of a drain and of its waiters. The data is the number of pieces of work under way; condition 0 is "all is
-- done".
use Rattle.std.specs.Prelude.{ℕ, List, [], ◌≡◌, ◌≢◌, ◌<◌}

-- if a process waits, work is under way
abbrev pub DrainRests : ℕ → List ℕ → Type 0
DrainRests under_way waiting = waiting ≢ [] → 0 < under_way

-- a waiter that is resumed finds no work under way
abbrev pub DrainReady : ℕ → Type 0
DrainReady under_way = under_way ≡ 0
