use Rattle.sweep_schedulers.specs.HeadHistories.{ContinuesHead}
use Rattle.sweep_schedulers.proofs.Calls.{nothing_yet, by_others}
use Rattle.sweep_schedulers.proofs.HeadCalls.{by_request, by_release}
use Rattle.sweep_schedulers.proofs.laws.head_calls_follow.Goals as goal

pub returns-clause-nothing_yet : goal.returns-clause-nothing_yet
returns-clause-nothing_yet g c = nothing_yet ContinuesHead

pub returns-clause-by_request : goal.returns-clause-by_request
returns-clause-by_request g c = by_request

pub returns-clause-by_release : goal.returns-clause-by_release
returns-clause-by_release g c = by_release

pub returns-clause-by_others : goal.returns-clause-by_others
returns-clause-by_others g c = by_others ContinuesHead
