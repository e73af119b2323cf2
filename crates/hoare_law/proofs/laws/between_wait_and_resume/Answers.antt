use Rattle.hoare_law.proofs.Awaiting.{wait_ended}
use Rattle.hoare_law.proofs.laws.between_wait_and_resume.Goals as goal

pub returns : goal.returns
returns g c = wait_ended
