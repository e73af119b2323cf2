use Rattle.hoare_law.specs.Events.{with_event}
use Rattle.test_support.specs.Stage.{event_of}
use Rattle.test_support.proofs.fake.Fake.tell.Given as goal

abbrev pub ghosts-step : goal.ghosts-step
ghosts-step g a = record { after = λ h. with_event h (event_of a.place a.deed a.state.now) }
