use Rattle.std.proofs.Common.{refl}
use Rattle.hoare_law.specs.Waiting.{waiting}
use Rattle.hoare_law.specs.Overtaking.{releases, returned, signals, resumed_called, taken_from, waits_below}
use Rattle.hoare_law.specs.Overtaking.{waiters_up_to, visits}
use Rattle.hoare_law.specs.Overtaking.{notifications, waiting_anywhere}
use Rattle.program_trials.proofs.tests.law.counts_by_hand.Goals as goal

pub returns-clause-after_a_signal : goal.returns-clause-after_a_signal
unfolding releases returned signals resumed_called taken_from waits_below visits notifications
returns-clause-after_a_signal c = (refl, refl, refl, refl, refl, refl, refl, refl, refl, refl, refl)

pub returns-clause-after_a_notify : goal.returns-clause-after_a_notify
unfolding releases returned signals resumed_called visits
returns-clause-after_a_notify c = (refl, refl, refl, refl, refl, refl)

pub returns-clause-waiters : goal.returns-clause-waiters
unfolding waiting notifications waiting_anywhere waiters_up_to
returns-clause-waiters c = (refl, refl, refl, refl, refl, refl)
