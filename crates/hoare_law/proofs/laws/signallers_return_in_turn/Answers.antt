use Rattle.std.proofs.Common.{refl}
use Rattle.hoare_law.specs.Overtaking.{with_events}
use Rattle.hoare_law.proofs.Signallers.{meanwhile, urgent-others}
use Rattle.hoare_law.proofs.laws.signallers_return_in_turn.Goals as goal

pub returns-clause-order : goal.returns-clause-order
returns-clause-order g c = λ h later before behind k legal is none.
    let r = meanwhile (with_events h later) h.events later before k behind legal refl is none in
    (r.left, r.more, r.came, r.now)

pub returns-clause-others : goal.returns-clause-others
returns-clause-others g c = λ h before behind k is. urgent-others h before k behind is
