use Rattle.door_frame.specs.Notifications.{event_of_notification}
use Rattle.ticket_door.proofs.raw_monitor.RawTicketDoorRawMonitor.note.Given as goal

abbrev pub ghosts-tell : goal.ghosts-tell
ghosts-tell g a = record { event = event_of_notification a.place a.notification a.guarded.now.state }
