-- What the seats of a shelf know.
use Rattle.std.specs.Prelude.{◌≢◌, ◌<◌, ℕ, zero, suc, List, [], ◌∷◌}
use Rattle.shelf.specs.declared.view.Role.{Role}
use Rattle.shelf.specs.declared.view.Role.TheVariants.{Keeps, Fetches, Lent, Puts, Done}
use Rattle.shelf.specs.declared.view.View.{View}
use Rattle.shelf.specs.Log.{Log}

-- P holds of each number of the list
abbrev pub Each : (ℕ → Type 0) → List ℕ → Type 0
Each P [] = Unit {0}
Each P (k ∷ ks) = P k × Each P ks

-- no number is in the list twice
abbrev pub Apart : List ℕ → Type 0
Apart [] = Unit {0}
Apart (k ∷ ks) = Each (λ j. j ≢ k) ks × Apart ks

-- different numbers below n
abbrev pub AreNumbers : ℕ → List ℕ → Type 0
AreNumbers n ks = Each (λ k. k < n) ks × Apart ks

-- the numbers below n, the greatest first
abbrev pub numbers_below : ℕ → List ℕ
numbers_below zero = []
numbers_below (suc n) = n ∷ numbers_below n

module _ {T : Type 0} where
  -- the log as the collector knows it
  abbrev pub log_of : Role T → Log T
  log_of (Keeps log ks) = log
  log_of (Fetches log ks k) = log
  log_of _ = []

  -- the numbers of the things that the collector has in hand, the last first
  abbrev pub in_hand : Role T → List ℕ
  in_hand (Keeps log ks) = ks
  in_hand (Fetches log ks k) = ks
  in_hand _ = []

  -- the number of the thing that the seat may put on the shelf
  abbrev pub number_of : Role T → ℕ
  number_of (Lent k) = k
  number_of (Puts k) = k
  number_of _ = 0

  -- the collector without the first thing in hand
  abbrev pub left_of : Role T → Role T
  left_of (Keeps log (k ∷ ks)) = Keeps log ks
  left_of v = v

  -- the right to put that thing on the shelf
  abbrev pub right_of : Role T → Role T
  right_of (Keeps log (k ∷ ks)) = Lent k
  right_of v = Done

  module _ {G : Type 0} where
    abbrev pub seen : G → Role T → View T G
    seen tag role = record { tag = tag; role = role }

    abbrev pub behind_first : View T G → View T G
    behind_first v = seen v.tag (left_of v.role)

    abbrev pub first_lent : View T G → View T G
    first_lent v = seen v.tag (right_of v.role)
