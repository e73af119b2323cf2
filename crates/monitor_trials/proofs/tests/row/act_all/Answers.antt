use Rattle.std.proofs.Common.{arith}
use Rattle.monitor_trials.proofs.Numbered.{acted}
use Rattle.monitor_trials.proofs.tests.row.act_all.Goals as goal

pub returns-clause-of : goal.returns-clause-of
returns-clause-of g c =
    let count = c.act_each.ensures.count in
    λ k d l. (acted _ _ c.act_each.ensures.each c.requires.of c.requires.numbered c.requires.keeps k d (omega arith)).0

pub returns-clause-numbered : goal.returns-clause-numbered
returns-clause-numbered g c =
    let count = c.act_each.ensures.count in
    λ k d l. (acted _ _ c.act_each.ensures.each c.requires.of c.requires.numbered c.requires.keeps k d (omega arith)).1
