use Rattle.std.proofs.Common.{refl, ◌∷◌, ◌++◌, []}
use Rattle.hoare_law.specs.declared.event.Event.TheVariants.{Back}
use Rattle.hoare_law.specs.Events.{place_of}
use Rattle.hoare_law.specs.Overtaking.{with_events}
use Rattle.hoare_law.proofs.Rules.{only_back}
use Rattle.hoare_law.proofs.Signallers.{given_up-held, signaller_at_most, signaller_bound, signal_bound, signal_between}
use Rattle.hoare_law.proofs.Visits.{few_releases}
use Rattle.hoare_law.proofs.laws.releases_until_return.Goals as goal

pub returns-clause-at_most : goal.returns-clause-at_most
returns-clause-at_most g c = λ h later before behind k legal is none.
    signaller_at_most (with_events h later) h.events later before k behind legal refl is none

pub returns-clause-its_turn : goal.returns-clause-its_turn
returns-clause-its_turn g c = λ h later before behind j k legal is none held.
    (signaller_bound (with_events h later) h.events later before k behind legal refl (given_up-held h.events j held) is
    none).1

pub returns-clause-since_its_signal : goal.returns-clause-since_its_signal
returns-clause-since_its_signal g c = λ h later e is legal none.
    (signal_bound (with_events h (e ∷ later)) h.events later e is legal refl none).1

pub returns-clause-in_between : goal.returns-clause-in_between
returns-clause-in_between g c = λ h later e t is legal none.
    signal_between (with_events h (e ∷ (later ++ Back (place_of e) t ∷ []))) h.events later [] e t is legal refl none

pub returns-clause-in_all : goal.returns-clause-in_all
returns-clause-in_all g c = λ h later e is legal none.
    few_releases (with_events h (e ∷ later)) h.events later e is legal refl none

pub returns-clause-right_after : goal.returns-clause-right_after
returns-clause-right_after g c = λ h k e. only_back h e k
