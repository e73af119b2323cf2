use Rattle.sweep_schedulers.proofs.Stays.{Stays-counted, nobody_joins}
use Rattle.sweep_schedulers.proofs.laws.a_head_moves_on.Goals as goal

pub returns-clause-nobody_joins : goal.returns-clause-nobody_joins
returns-clause-nobody_joins g c = λ d q rests out joined. nobody_joins d q rests out joined

pub returns-clause-one_less : goal.returns-clause-one_less
returns-clause-one_less g c = λ d e q r n rests out stays. Stays-counted rests out stays
