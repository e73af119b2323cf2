use Rattle.std.proofs.Common.{ap, sym}
use Rattle.std.specs.Option.{option_map}
use Rattle.hoare_law.specs.Waiting.{priority_of}
use Rattle.hoare_law.proofs.Priorities.{chosen-nobody}
use Rattle.test_support.proofs.fake.FakeMonitor.first.Goals as goal

pub returns-clause-front : goal.returns-clause-front
returns-clause-front g c =
    sym
    (ap (option_map priority_of)
    (chosen-nobody c.args._condition _ (c.requires.of.1.stage.waits_are c.args._condition)))
