-- What the laws of a fake monitor cite.
use Rattle.std.proofs.Common.{ℕ, ◌≡◌, true, map, sym, arith}
use Rattle.std.specs.List.Sorted.{IsNonDecreasing}
use Rattle.hoare_law.specs.declared.event.History.{History}
use Rattle.hoare_law.specs.declared.turn.Turn.TheVariants.{Held}
use Rattle.hoare_law.specs.Waiting.{priority_of}
use Rattle.hoare_law.specs.Turns.{turn, outside}
use Rattle.hoare_law.specs.Priorities.{nobody, priorities, in_order}
use Rattle.hoare_law.specs.Lawful.{Rest, Ready, Stands}
use Rattle.test_support.specs.Stage.{IsOutside, IsInside}

module _ {S : Type 0} {rest : Rest S} {ready : Ready S} {n m : ℕ} where
  -- what place 0 knows outside
  pub outside_stands : {s : S} {h : History S} → IsOutside rest ready n m s h
      → Stands rest ready h × (h.sizes.conditions ≡ n) × (h.sizes.mesa ≡ m) × (outside 0 h.events ≡ true)
  outside_stands o = (o.stage.stands, λ j. (o.stage.sized j).conditions, λ j. (o.stage.sized j).mesa, o.stage.first_is)

  -- what place 0 knows inside
  pub inside_stands : {h : History S} → IsInside rest ready n m h
      → Stands rest ready h × (h.sizes.conditions ≡ n) × (h.sizes.mesa ≡ m) × (turn h.events ≡ Held 0)
  inside_stands i = (i.stage.stands, λ j. (i.stage.sized j).conditions, λ j. (i.stage.sized j).mesa, i.stage.turn_is)

  -- no process waits by the front of place 0
  pub lists_are : {h : History S} → IsInside rest ready n m h → nobody ≡ priorities h.events
  unfolding priorities
  lists_are i = sym (λ k c. map priority_of (in_order priority_of (i.stage.waits_are c k)))

-- if no process waits on c, the priorities on c are in rising order
pub rise : (c : ℕ) → IsNonDecreasing (nobody c)
rise c i j d le b = absurd (omega arith)
