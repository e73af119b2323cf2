use Rattle.hoare_law.specs.Sizes.{kinds_of}
use Rattle.baton_door.proofs.step_door.StepDoor.make.Given as goal

abbrev pub ghosts-open : goal.ghosts-open
ghosts-open g a = record { kinds = kinds_of a.table.now.shared.key.conditions a.table.now.shared.key.mesa }
