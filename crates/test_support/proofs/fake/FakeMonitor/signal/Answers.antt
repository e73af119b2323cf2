use Rattle.std.proofs.Common.{refl}
use Rattle.hoare_law.specs.Growth.{nobody_waited}
use Rattle.test_support.proofs.fake.FakeMonitor.signal.Goals as goal

pub returns-clause-front : goal.returns-clause-front
returns-clause-front g c = nobody_waited (c.requires.of.1.stage.waits_are c.args._condition) refl refl
