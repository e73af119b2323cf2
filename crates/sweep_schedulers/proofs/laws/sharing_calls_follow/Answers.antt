use Rattle.sweep_schedulers.specs.SharedHistories.{ContinuesSharing}
use Rattle.sweep_schedulers.proofs.Calls.{nothing_yet, by_others}
use Rattle.sweep_schedulers.proofs.SharedCalls.{by_start_read, by_end_read, by_start_write, by_end_write}
use Rattle.sweep_schedulers.proofs.laws.sharing_calls_follow.Goals as goal

pub returns-clause-nothing_yet : goal.returns-clause-nothing_yet
returns-clause-nothing_yet g c = nothing_yet ContinuesSharing

pub returns-clause-by_start_read : goal.returns-clause-by_start_read
returns-clause-by_start_read g c = by_start_read

pub returns-clause-by_end_read : goal.returns-clause-by_end_read
returns-clause-by_end_read g c = by_end_read

pub returns-clause-by_start_write : goal.returns-clause-by_start_write
returns-clause-by_start_write g c = by_start_write

pub returns-clause-by_end_write : goal.returns-clause-by_end_write
returns-clause-by_end_write g c = by_end_write

pub returns-clause-by_others : goal.returns-clause-by_others
returns-clause-by_others g c = by_others ContinuesSharing
