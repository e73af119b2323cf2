-- What the procedures of a mailbox add to the history. The data are the letters, in the order in which they were sent.
use Rattle.std.specs.Prelude.{ℕ, List, [], ◌∷◌, ◌++◌, length, ◌≡◌, ◌<◌}
use Rattle.hoare_law.specs.declared.event.History.{History}
use Rattle.hoare_law.specs.Growth.{GetsInside, Finishes}
use Rattle.cookbook.specs.declared.mailbox.Letter.{Letter}
use Rattle.cookbook.specs.Mailboxes.{TakesMostUrgent}

-- k put the letter in as the latest, after a wait with the priority of the letter if there was no room first, and
-- resumed a process that waits for mail if there was one
pub record Sends (k : ℕ) (letter : Letter) (f h : History (List Letter)) : Type 0 where
  pub found : List Letter
  pub front : History (List Letter)
  pub enters : GetsInside k (λ _ a. length a ≡ 8) (λ _. 0) (λ _. letter.priority) f front found
  pub room : length found < 8
  pub finishes : Finishes k 1 (found ++ letter ∷ []) front h

-- k took out the most urgent letter, after a wait if there was none first, and resumed a process that waits for room if
-- there was one
pub record Receives (k : ℕ) (letter : Letter) (f h : History (List Letter)) : Type 0 where
  pub found : List Letter
  pub others : List Letter
  pub front : History (List Letter)
  pub enters : GetsInside k (λ _ a. length a ≡ 0) (λ _. 1) (λ _. 0) f front found
  pub takes : TakesMostUrgent found letter others
  pub finishes : Finishes k 0 others front h
