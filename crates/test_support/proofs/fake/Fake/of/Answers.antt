use Rattle.std.proofs.Common.{rules, ap}
use Rattle.test_support.specs.Answers.{at_first}
use Rattle.test_support.proofs.Stages.{IsOutside-opened}
use Rattle.test_support.proofs.fake.Fake.of.Goals as goal

pub returns-clause-of : goal.returns-clause-of
returns-clause-of g c = (
  search rules,
  rw (ap (λ m. m.0) c.in_ok-table.ensures.4) (IsOutside-opened c.requires.rest),
  rw (ap (λ m. m.0) c.in_ok-table.ensures.4) (rw c.of-given.ensures at_first),
)
