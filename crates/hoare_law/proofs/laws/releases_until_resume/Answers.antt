use Rattle.std.proofs.Common.{refl}
use Rattle.hoare_law.specs.Overtaking.{with_events}
use Rattle.hoare_law.proofs.Rules.{only_resume}
use Rattle.hoare_law.proofs.Signallers.{given_up-held}
use Rattle.hoare_law.proofs.Resuming.{called_at_most, called_bound}
use Rattle.hoare_law.proofs.Visits.{few_releases_called}
use Rattle.hoare_law.proofs.laws.releases_until_resume.Goals as goal

pub returns-clause-at_most : goal.returns-clause-at_most
returns-clause-at_most g c = λ h later before behind x legal is none.
    called_at_most (with_events h later) h.events later before x behind legal refl is none

pub returns-clause-its_turn : goal.returns-clause-its_turn
returns-clause-its_turn g c = λ h later before behind x j legal is none held.
    called_bound (with_events h later) h.events later before x behind legal refl (given_up-held h.events j held) is none

pub returns-clause-in_all : goal.returns-clause-in_all
returns-clause-in_all g c = λ h later before behind x j legal is none held.
    few_releases_called (with_events h later) h.events later before x behind j legal refl is none held

pub returns-clause-right_after : goal.returns-clause-right_after
returns-clause-right_after g c = λ h k d e. only_resume h e k d
