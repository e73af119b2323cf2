use Rattle.std.proofs.Common.{refl}
use Rattle.hoare_law.specs.Overtaking.{with_events}
use Rattle.hoare_law.proofs.Signallers.{meanwhile}
use Rattle.hoare_law.proofs.Resuming.{called_meanwhile}
use Rattle.hoare_law.proofs.laws.no_admission_meanwhile.Goals as goal

pub returns-clause-signaller : goal.returns-clause-signaller
returns-clause-signaller g c = λ h later before behind k legal is none.
    (meanwhile (with_events h later) h.events later before k behind legal refl is none).nobody

pub returns-clause-called : goal.returns-clause-called
returns-clause-called g c = λ h later before behind x legal is none.
    (called_meanwhile (with_events h later) h.events later before x behind legal refl is none).nobody
