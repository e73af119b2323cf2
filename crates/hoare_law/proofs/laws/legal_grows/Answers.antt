use Rattle.hoare_law.proofs.Legal.{IsLegal-push}
use Rattle.hoare_law.proofs.laws.legal_grows.Goals as goal

pub returns-clause-goes_on : goal.returns-clause-goes_on
returns-clause-goes_on g c = λ h e. IsLegal-push e
