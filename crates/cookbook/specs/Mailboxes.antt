-- What holds of a mailbox and of its waiters. Condition 0 is "there is room", condition 1 is "there is mail". A mailbox
-- has room for 8 letters.
use Rattle.std.specs.Prelude.{ℕ, zero, suc, List, [], ◌∷◌, ◌++◌, All, ◌≡◌, ◌≢◌, ◌<◌, ◌≤◌, ◌+◌}
use Rattle.cookbook.specs.declared.mailbox.Letter.{Letter}

-- at each wait and each leave: if processes wait for room (the senders), there is none; if processes wait for mail (the
-- readers), there is none
pub record MailRests (count : ℕ) (senders readers : List ℕ) : Type 0 where
  pub within : count ≤ 8
  pub full : senders ≢ [] → count ≡ 8
  pub empty : readers ≢ [] → count ≡ 0

-- a sender that waited and is resumed finds room; if other senders wait, there is room for exactly one letter; if
-- readers wait, there is no letter
pub record RoomReady (count : ℕ) (senders readers : List ℕ) : Type 0 where
  pub within : count ≤ 8
  pub some : count < 8
  pub others : senders ≢ [] → count + 1 ≡ 8
  pub empty : readers ≢ [] → count ≡ 0

-- a reader that waited and is resumed finds a letter; if other readers wait, there is exactly one; if senders wait,
-- there is no room
pub record LetterReady (count : ℕ) (senders readers : List ℕ) : Type 0 where
  pub within : count ≤ 8
  pub some : 0 < count
  pub others : readers ≢ [] → count ≡ 1
  pub full : senders ≢ [] → count ≡ 8

-- what a process that waited on the condition finds
abbrev pub MailReady : ℕ → ℕ → List ℕ → List ℕ → Type 0
MailReady zero count senders readers = RoomReady count senders readers
MailReady (suc c) count senders readers = LetterReady count senders readers

-- x is the most urgent of the letters; of equally urgent ones, that which was sent first. The others stay in order
pub record TakesMostUrgent (letters : List Letter) (x : Letter) (others : List Letter) : Type 0 where
  pub before : List Letter
  pub after : List Letter
  pub found : letters ≡ before ++ x ∷ after
  pub left : others ≡ before ++ after
  pub less_before : All (λ y. x.priority < y.priority) before
  pub none_more_after : All (λ y. x.priority ≤ y.priority) after

-- ready implies the invariant
pub within_of_ready : (c count : ℕ) (senders readers : List ℕ) → MailReady c count senders readers → count ≤ 8
within_of_ready zero count senders readers h = h.within
within_of_ready (suc c) count senders readers h = h.within
