use Rattle.std.proofs.Common.{rules, refl}
use Rattle.hoare_law.specs.declared.event.Event.TheVariants.{Leave}
use Rattle.test_support.proofs.Answers.{IsLeft-untouched}
use Rattle.test_support.proofs.Stages.{IsOutside-leave}
use Rattle.test_support.proofs.fake.FakeMonitor.leave.Goals as goal

pub returns-clause-of : goal.returns-clause-of
returns-clause-of g c = (
  search rules,
  rw c.tell.ensures.front (IsOutside-leave c.requires.of.1 c.requires.rest),
  rw c.tell.ensures.front (IsLeft-untouched _ (Leave 0 _) refl c.requires.of.2),
)
