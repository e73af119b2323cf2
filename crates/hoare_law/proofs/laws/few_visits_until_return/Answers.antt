use Rattle.std.proofs.Common.{refl, ◌∷◌}
use Rattle.hoare_law.specs.Overtaking.{with_events}
use Rattle.hoare_law.proofs.Visits.{few_visits, signal_room, few_in_all, few_events_behind}
use Rattle.hoare_law.proofs.laws.few_visits_until_return.Goals as goal

pub returns-clause-visits : goal.returns-clause-visits
returns-clause-visits g c = λ h later e is legal none.
    few_visits (with_events h (e ∷ later)) h.events later e is legal refl none

pub returns-clause-signallers : goal.returns-clause-signallers
returns-clause-signallers g c = signal_room

pub returns-clause-in_all : goal.returns-clause-in_all
returns-clause-in_all g c = λ h later e is legal none.
    few_in_all (with_events h (e ∷ later)) h.events later e is legal refl none

pub returns-clause-events : goal.returns-clause-events
returns-clause-events g c = λ h later e is legal.
    few_events_behind (with_events h (e ∷ later)) h.events later e is legal refl
