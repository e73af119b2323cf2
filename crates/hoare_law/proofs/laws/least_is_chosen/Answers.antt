use Rattle.hoare_law.proofs.Rules.{chosen-no_less, chosen-longest}
use Rattle.hoare_law.proofs.Priorities.{waiting-unchosen}
use Rattle.hoare_law.proofs.laws.least_is_chosen.Goals as goal

pub returns-clause-least : goal.returns-clause-least
returns-clause-least g c = chosen-no_less

pub returns-clause-longest : goal.returns-clause-longest
returns-clause-longest g c = chosen-longest

pub returns-clause-nobody : goal.returns-clause-nobody
returns-clause-nobody g c = waiting-unchosen
