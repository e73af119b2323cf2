use Rattle.hoare_law.specs.Growth.{just_left}
use Rattle.test_support.proofs.fake.FakeMonitor.signal_leave.Goals as goal

pub returns-clause-front : goal.returns-clause-front
returns-clause-front g c = just_left (c.requires.of.1.stage.waits_are c.args._condition) c.leave.ensures.front
