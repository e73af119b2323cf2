use Rattle.std.proofs.Common.{rules, refl}
use Rattle.hoare_law.specs.declared.event.Event.TheVariants.{Admit}
use Rattle.hoare_law.proofs.Entering.{AddsLast-one}
use Rattle.hoare_law.proofs.Growth.{Begins-refl}
use Rattle.test_support.proofs.Answers.{IsLeft-untouched}
use Rattle.test_support.proofs.Stages.{IsInside-admit}
use Rattle.test_support.proofs.fake.FakeMonitor.try_enter.Goals as goal

pub returns-clause-of : goal.returns-clause-of
returns-clause-of g c = (
  search rules,
  rw c.tell.ensures.front (IsInside-admit c.requires.1),
  rw c.tell.ensures.front (IsLeft-untouched _ (Admit 0 _) refl c.requires.2),
)

pub returns-clause-front : goal.returns-clause-front
returns-clause-front g c =
    let front = c.args.out.seat.me.0 in
    rw c.tell.ensures.front (AddsLast-one 0 front front (Admit 0 c.args.out.state) refl (Begins-refl front) refl)
