use Rattle.ticket_door.proofs.raw_monitor.RawTicketDoorRawMonitor.try_admit.Given as goal

abbrev pub ghosts-attempt : goal.ghosts-attempt
ghosts-attempt g a = record { first = a.self.now.first; places = a.self.now.door.places }
