use Rattle.hoare_law.proofs.Owed.{turn-called}
use Rattle.hoare_law.proofs.laws.signallers_before_called.Goals as goal

pub returns-clause-signallers : goal.returns-clause-signallers
returns-clause-signallers g c = λ h k d s legal mesa allowed. (turn-called h k d legal mesa allowed.fits.0).nobody

pub returns-clause-first : goal.returns-clause-first
returns-clause-first g c =
    λ h k d s legal mesa allowed. let r = turn-called h k d legal mesa allowed.fits.0 in
    (r.first, r.others, r.are, r.place, r.on)
