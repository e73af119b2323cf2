use Rattle.std.proofs.Common.{rules}
use Rattle.monitor_trials.proofs.Numbered.{HasPlace-numbered}
use Rattle.monitor_trials.proofs.tests.row.closed.Goals as goal

pub close-requires-clause-places : goal.close-requires-clause-places
close-requires-clause-places g c = λ _ _ k l. HasPlace-numbered c.args.outs.items c.requires.numbered k (search rules)
