-- What holds of a cyclic barrier and of its waiters. Condition 0 is "all have come".
use Rattle.std.specs.Prelude.{ℕ, List, length, All, ◌≡◌, ◌<◌, ◌+◌, ◌-◌, ◌%◌, ◌^◌}

-- the number of parties; how many of them have arrived and not continued; how often the parties have met, modulo 2^64
pub record Gathering : Type 0 where
  pub parties : ℕ
  pub arrived : ℕ
  pub generation : ℕ

-- no party has arrived, and the parties have met 0 times
abbrev pub fresh : ℕ → Gathering
fresh parties = record { parties = parties; arrived = 0; generation = 0 }

-- the generation after this one, modulo 2^64
abbrev pub next : ℕ → ℕ
next generation = (generation + 1) % 2 ^ 64

-- one more party has arrived
abbrev pub one_more : Gathering → Gathering
one_more b = record b { arrived = b.arrived + 1 }

-- one of the parties that had arrived has continued
abbrev pub one_less : Gathering → Gathering
one_less b = record b { arrived = b.arrived - 1 }

-- all parties have arrived: the next generation begins, in which the waiters resume
abbrev pub opened : Gathering → Gathering
opened b = record b { generation = next b.generation }

-- at each wait and each leave: not all parties have arrived; each party that has arrived waits, and arrived in this
-- generation
pub record BarrierRests (b : Gathering) (waiting : List ℕ) : Type 0 where
  pub within : b.arrived < b.parties
  pub all_wait : length waiting ≡ b.arrived
  pub of_this : All (λ p. p ≡ b.generation) waiting

-- a waiter of generation p that is resumed finds that the next generation has begun; it alone of the parties that have
-- arrived doesn't wait, and all waiters are of generation p
pub record BarrierReady (p : ℕ) (b : Gathering) (waiting : List ℕ) : Type 0 where
  pub within : b.arrived < b.parties
  pub but_one : b.arrived ≡ length waiting + 1
  pub begun : b.generation ≡ next p
  pub of_last : All (λ r. r ≡ p) waiting
