use Rattle.std.proofs.Common.{rules, arith}
use Rattle.hoare_law.specs.Sizes.{IsHoare, IsMesa}
use Rattle.test_support.proofs.Answers.{IsLeft-answered, IsLeft-called_back}
use Rattle.test_support.proofs.Stages.{IsInside-answered, IsInside-called_back, AddsTwo-answered, AddsTwo-called_back}
use Rattle.test_support.proofs.fake.FakeMonitor.wait.Goals as goal

-- a wait on a Mesa condition

pub returns-then-CONDITIONS-condition-clause-of : goal.returns-then-CONDITIONS-condition-clause-of
returns-then-CONDITIONS-condition-clause-of g c =
    let D = g.D.MonitorData in
    let mesa : IsMesa D.CONDITIONS D.MESA c.args.condition = (
      c.requires.in_range,
      omega (arith, c.if-CONDITIONS-condition.true, c.CONDITIONS.ensures, c.MESA.ensures, c.requires.in_range),
    ) in (
      search rules,
      rw (
        c.tell-then-CONDITIONS-condition-4.ensures.front,
        c.tell-then-CONDITIONS-condition-3.ensures.front,
        c.tell-then-CONDITIONS-condition-2.ensures.front,
        c.tell-then-CONDITIONS-condition.ensures.front,
        c.tell.ensures.front,
      )
          (IsInside-called_back _ c.requires.of.1 mesa c.requires.rest c.in-Some.ensures.fits),
      rw (
        c.tell-then-CONDITIONS-condition-4.ensures.front,
        c.tell-then-CONDITIONS-condition-3.ensures.front,
        c.tell-then-CONDITIONS-condition-2.ensures.front,
        c.tell-then-CONDITIONS-condition.ensures.front,
        c.tell.ensures.front,
      )
          (IsLeft-called_back _ _ _ _ _ c.in-Some.ensures c.requires.of.2),
    )

pub returns-then-CONDITIONS-condition-clause-front : goal.returns-then-CONDITIONS-condition-clause-front
returns-then-CONDITIONS-condition-clause-front g c =
    rw (
      c.tell-then-CONDITIONS-condition-4.ensures.front,
      c.tell-then-CONDITIONS-condition-3.ensures.front,
      c.tell-then-CONDITIONS-condition-2.ensures.front,
      c.tell-then-CONDITIONS-condition.ensures.front,
      c.tell.ensures.front,
    )
    (AddsTwo-called_back _ _ _ _ _)

-- a wait on one of Hoare's conditions

pub returns-clause-of : goal.returns-clause-of
returns-clause-of g c =
    let D = g.D.MonitorData in
    let hoare : IsHoare D.CONDITIONS D.MESA c.args.condition =
    omega (arith, c.if-CONDITIONS-condition.false, c.CONDITIONS.ensures, c.MESA.ensures, c.requires.in_range) in (
      search rules,
      rw (c.tell-4.ensures.front, c.tell-3.ensures.front, c.tell-2.ensures.front, c.tell.ensures.front)
          (IsInside-answered c.requires.of.1 hoare c.requires.rest c.in-Some-next_ready.ensures.fits),
      rw
          (c.tell-4.ensures.front, c.tell-3.ensures.front, c.tell-2.ensures.front, c.tell.ensures.front)
          (IsLeft-answered _ _ _ _ _ c.in-Some-next_ready.ensures c.requires.of.2),
    )

pub returns-clause-front : goal.returns-clause-front
returns-clause-front g c =
    rw (c.tell-4.ensures.front, c.tell-3.ensures.front, c.tell-2.ensures.front, c.tell.ensures.front)
    (AddsTwo-answered _ _ _ _ _)
