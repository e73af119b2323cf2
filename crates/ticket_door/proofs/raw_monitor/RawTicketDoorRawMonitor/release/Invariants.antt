use Rattle.door_frame.specs.Releases.{event_of}
use Rattle.ticket_door.proofs.raw_monitor.RawTicketDoorRawMonitor.release.Given as goal

abbrev pub ghosts-give : goal.ghosts-give
ghosts-give g a = record { event = event_of a.place a.how a.next }
