use Rattle.ticket_door.proofs.door.RawTicketDoor.come_in.Given as goal

abbrev pub ghosts-served : goal.ghosts-served
ghosts-served g a = record { first = a.self.now.first; places = a.self.now.door.places }
