-- What the controller of a run reports: the place inside, and how a run at rest ends.
use Rattle.std.specs.Prelude.{ℕ, List, ◌≡◌, All, Option, Some, None}
use Rattle.wait_book.specs.declared.steps.Next.{Next}
use Rattle.wait_book.specs.declared.steps.Next.TheVariants.{Held}
use Rattle.order_explorer.specs.declared.schedule.Ending.{Ending}
use Rattle.order_explorer.specs.declared.schedule.Ending.TheVariants.{AllEnded, Stuck}
use Rattle.order_explorer.specs.declared.schedule.ThreadState.{ThreadState}
use Rattle.order_explorer.specs.declared.schedule.ThreadState.TheVariants.{Ended}

-- the place that is inside, if there is one
abbrev pub held_by : Next → Option ℕ
held_by (Held k) = Some k
held_by _ = None

-- how a run ends if no place is inside and none is to enter: all threads ended, or it is stuck
pub data EndsAtRest (standings : List ThreadState) : Ending → Type 0 where
  all_ended : All (λ s. s ≡ Ended) standings → EndsAtRest standings AllEnded
  is_stuck : (All (λ s. s ≡ Ended) standings → ⊥) → EndsAtRest standings Stuck
