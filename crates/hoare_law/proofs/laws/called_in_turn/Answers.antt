use Rattle.hoare_law.proofs.Calling.{called-notify, called-broadcast}
use Rattle.hoare_law.proofs.laws.called_in_turn.Goals as goal

pub returns-clause-notify : goal.returns-clause-notify
returns-clause-notify g c = λ h k d w s legal allowed. called-notify h k d w s legal allowed

pub returns-clause-broadcast : goal.returns-clause-broadcast
returns-clause-broadcast g c = λ h k d s legal allowed. called-broadcast h k d s legal allowed
