use Rattle.hoare_law.proofs.Held.{urgent-free, called-free}
use Rattle.hoare_law.proofs.laws.entering_last.Goals as goal

pub returns-clause-signallers : goal.returns-clause-signallers
returns-clause-signallers g c = λ h k s allowed. urgent-free h.events allowed.fits.0

pub returns-clause-called : goal.returns-clause-called
returns-clause-called g c = λ h k s allowed. called-free h.events allowed.fits.0
