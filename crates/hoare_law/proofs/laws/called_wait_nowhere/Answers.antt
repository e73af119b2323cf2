use Rattle.hoare_law.proofs.Calling.{All-called_wait_nowhere}
use Rattle.hoare_law.proofs.laws.called_wait_nowhere.Goals as goal

pub returns : goal.returns
returns g c = All-called_wait_nowhere
