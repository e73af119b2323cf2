use Rattle.door_frame.proofs.making.closed.Given as goal

abbrev pub ghosts-closed_as : goal.ghosts-closed_as
ghosts-closed_as g a = record { sleepers = a._wakers.items }
