use Rattle.std.proofs.Common.{[]}
use Rattle.baton_door.proofs.step_door.StepDoor.close.Given as goal

abbrev pub ghosts-closed_as : goal.ghosts-closed_as
ghosts-closed_as g a = record { sleepers = [] }
