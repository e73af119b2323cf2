-- What holds of a rendezvous and of its waiters. Condition 0 is "my partner has come".
use Rattle.std.specs.Prelude.{ℕ, List, length, ◌≡◌, ⊤}
use Rattle.cookbook.specs.declared.rendezvous.Rendezvous.{Rendezvous}
use Rattle.cookbook.specs.declared.rendezvous.Rendezvous.TheVariants.{Empty, Offered, Answered}

-- a process waits for its partner, and this is its offer
abbrev pub IsOffered : {T : Type 0} → Rendezvous T → Type 0
IsOffered (Offered x) = ⊤
IsOffered _ = ⊥

-- the partner has come, and has left its value
abbrev pub IsAnswered : {T : Type 0} → Rendezvous T → Type 0
IsAnswered (Answered x) = ⊤
IsAnswered _ = ⊥

-- at each wait and each leave: exactly the process that made an offer waits, and no value of a partner is left
abbrev pub MeetingRests : {T : Type 0} → Rendezvous T → List ℕ → Type 0
MeetingRests Empty waiting = length waiting ≡ 0
MeetingRests (Offered x) waiting = length waiting ≡ 1
MeetingRests (Answered x) waiting = ⊥

-- a waiter that is resumed finds the value of its partner, and no other process waits
abbrev pub MeetingReady : {T : Type 0} → Rendezvous T → List ℕ → Type 0
MeetingReady (Answered x) waiting = length waiting ≡ 0
MeetingReady _ waiting = ⊥
