use Rattle.hoare_law.proofs.Admissions.{admissions-append}
use Rattle.hoare_law.proofs.laws.admissions_add_up.Goals as goal

pub returns : goal.returns
returns g c = λ h later. admissions-append h later
