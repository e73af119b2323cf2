use Rattle.std.proofs.Common.{rules}
use Rattle.test_support.proofs.Answers.{FirstReady-here, FirstReady-behind}
use Rattle.test_support.proofs.fake.next_ready.Goals as goal

pub returns-then-ready_holds : goal.returns-then-ready_holds
returns-then-ready_holds g c = c.loop-answer.invariant _ _ (rw c.in-Some.ensures.items (FirstReady-here (search rules)))

pub loop-answer-preserved : goal.loop-answer-preserved
loop-answer-preserved g c =
    λ a left t. c.loop-answer.invariant a left (rw c.in-Some.ensures.items (FirstReady-behind (search rules) t))
