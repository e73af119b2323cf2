use Rattle.ticket_door.proofs.door.RawTicketDoor.ask.Given as goal

abbrev pub ghosts-draw : goal.ghosts-draw
ghosts-draw g a = record { first = a.self.now.first; places = a.self.now.door.places }
