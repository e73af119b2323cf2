use Rattle.hoare_law.proofs.Between.{signal_returned}
use Rattle.hoare_law.proofs.laws.between_signal_and_return.Goals as goal

pub returns : goal.returns
returns g c = signal_returned
