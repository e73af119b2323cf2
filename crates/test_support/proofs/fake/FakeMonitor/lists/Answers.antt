use Rattle.test_support.specs.Facts.{lists_are}
use Rattle.test_support.proofs.fake.FakeMonitor.lists.Goals as goal

pub returns-clause-front : goal.returns-clause-front
returns-clause-front g c = lists_are c.requires.1
