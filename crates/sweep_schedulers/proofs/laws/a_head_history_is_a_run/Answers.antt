use Rattle.sweep_schedulers.proofs.HeadBounds.{is_run, in_time, at_most, from_its_wait}
use Rattle.sweep_schedulers.proofs.laws.a_head_history_is_a_run.Goals as goal

pub returns-clause-is_run : goal.returns-clause-is_run
returns-clause-is_run g c = is_run

pub returns-clause-in_time : goal.returns-clause-in_time
returns-clause-in_time g c = λ h later x own p k is w. in_time h x own p k later is w

pub returns-clause-at_most : goal.returns-clause-at_most
returns-clause-at_most g c = λ h later x own p k is w. at_most h x own p k later is w

pub returns-clause-from_its_wait : goal.returns-clause-from_its_wait
returns-clause-from_its_wait g c = from_its_wait
