-- The contracts of `Admit` and `Claim`, the steps that other doors don't have. Each contract is a statement about four
-- things: the step with the value that it expects, the seat before it, the value that it found in the state word, and
-- the seat after it.
use Rattle.std.specs.Prelude.{◌≡◌, ℕ, [], None}
use Rattle.hoare_law.specs.declared.event.Event.{Event}
use Rattle.hoare_law.specs.declared.event.History.{History}
use Rattle.hoare_law.specs.declared.event.Event.TheVariants.{Admit}
use Rattle.hoare_law.specs.Lawful.{Rest, Ready}
use Rattle.door_frame.specs.Refusals.{NotFree, NotOwed}
use Rattle.door_frame.specs.Steps.{SeatState, StepContract, EntryStepOr, Refused, due}
use Rattle.door_frame.specs.Views.{alone}

module _ {D : Type 0} where
  -- if the step found the expected value, the place k enters, which adds the event to the history, and its seat then
  -- has access to the slot; else k learned the log, of which Cause holds
  abbrev pub ComesAt : ℕ → Rest D → Ready D → (ℕ → History D → D → Event D) → (ℕ → History D → Type 0) → ℕ
      → History D → ℕ → SeatState D → Type 0
  ComesAt expected rest ready event Cause k f =
      EntryStepOr rest ready None (λ r. r ≡ expected) (Refused rest ready (Cause k) k f) (λ log. Unit {0}) k f (event k f)

  abbrev pub comes : Rest D → Ready D → (ℕ → History D → D → Event D) → (ℕ → History D → Type 0) → StepContract D
  comes rest ready event Cause st m r m' =
      (k : ℕ) (f : History D) → m ≡ (alone k f, []) → ComesAt st.first rest ready event Cause k f r m'

  abbrev pub admits : Rest D → Ready D → StepContract D
  admits rest ready = comes rest ready (λ k f. Admit k) (λ k. NotFree)

  abbrev pub claims : Rest D → Ready D → StepContract D
  claims rest ready = comes rest ready due NotOwed
