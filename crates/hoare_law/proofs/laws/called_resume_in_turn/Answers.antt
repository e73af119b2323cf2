use Rattle.std.proofs.Common.{refl}
use Rattle.hoare_law.specs.Overtaking.{with_events}
use Rattle.hoare_law.proofs.Resuming.{called_meanwhile, called-others}
use Rattle.hoare_law.proofs.laws.called_resume_in_turn.Goals as goal

pub returns-clause-order : goal.returns-clause-order
returns-clause-order g c = λ h later before behind x legal is none.
    let r = called_meanwhile (with_events h later) h.events later before x behind legal refl is none in
    (r.left, r.more, r.came, r.now)

pub returns-clause-others : goal.returns-clause-others
returns-clause-others g c = λ h before behind x legal is. called-others h before x behind legal is
