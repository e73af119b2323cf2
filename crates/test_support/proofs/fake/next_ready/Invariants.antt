use Rattle.std.proofs.Common.{length}
use Rattle.hoare_law.specs.Priorities.{nobody}
use Rattle.test_support.specs.Answers.{FirstReady}
use Rattle.test_support.proofs.fake.next_ready.Given as goal

-- the first ready answer of those that are left is the first ready one of all
abbrev pub invariant-loop-answer : goal.invariant-loop-answer
invariant-loop-answer g l =
    (a : _) (left : _) → FirstReady (λ d. g.D.MonitorData.ready l.condition l.priority d nobody) l.answers.items a left
    → FirstReady (λ d. g.D.MonitorData.ready l.condition l.priority d nobody) l.fn.answers.items a left

abbrev pub decreases-loop-answer : goal.decreases-loop-answer
decreases-loop-answer g l = length l.answers.items
