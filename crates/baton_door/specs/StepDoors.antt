-- What a contract sees of a door whose calls are steps.
use Rattle.std.specs.Prelude.{◌≤◌}
use Rattle.hoare_law.specs.Sizes.{Kinds}
use Rattle.hoare_law.specs.declared.event.Sizes.{Sizes}
use Rattle.door_frame.specs.Places.{DoorId}

-- the id of a door (its table and places), and how many conditions and Mesa conditions it has
pub record StepId : Type 0 where
  pub door : DoorId
  pub kinds : Kinds

abbrev pub step_id : DoorId → Kinds → StepId
step_id door kinds = record { door = door; kinds = kinds }

-- there are at most 8 conditions, and the Mesa conditions are not more than the conditions
pub record AreSizes (sizes : Sizes) : Type 0 where
  pub conditions : sizes.conditions ≤ 8
  pub mesa : sizes.mesa ≤ sizes.conditions
