use Rattle.door_frame.specs.Notifications.{event_of_notification}
use Rattle.baton_door.proofs.step_door.StepDoorRawMonitor.note.Given as goal

abbrev pub ghosts-tell : goal.ghosts-tell
ghosts-tell g a = record { event = event_of_notification a.place a.notification a.guarded.now.state }
