use Rattle.disk_service.proofs.board.write.Goals as goal

pub returns-clause-notes : goal.returns-clause-notes
returns-clause-notes g c = rw c.requires.board.number at c.write_on-place.ensures.notes
