use Rattle.std.proofs.Common.{refl}
use Rattle.hoare_law.specs.Growth.{nobody_called}
use Rattle.test_support.proofs.fake.FakeMonitor.notify.Goals as goal

pub returns-clause-front : goal.returns-clause-front
returns-clause-front g c = nobody_called (c.requires.of.1.stage.waits_are c.args._condition) refl
