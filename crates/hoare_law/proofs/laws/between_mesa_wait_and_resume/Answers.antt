use Rattle.hoare_law.proofs.MesaAwaiting.{mesa_wait_ended}
use Rattle.hoare_law.proofs.laws.between_mesa_wait_and_resume.Goals as goal

pub returns : goal.returns
returns g c = mesa_wait_ended
