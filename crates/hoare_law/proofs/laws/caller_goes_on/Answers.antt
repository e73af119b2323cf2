use Rattle.hoare_law.specs.declared.event.Event.TheVariants.{Notify, Broadcast}
use Rattle.hoare_law.specs.Events.{with_event}
use Rattle.hoare_law.proofs.Fronts.{place_of-held}
use Rattle.hoare_law.proofs.Calling.{turn-notify, turn-broadcast}
use Rattle.hoare_law.proofs.laws.caller_goes_on.Goals as goal

pub returns-clause-notify : goal.returns-clause-notify
returns-clause-notify g c =
    λ h k d w s e allowed. place_of-held (with_event h (Notify k d w s)) k e (turn-notify h k d w s) allowed

pub returns-clause-broadcast : goal.returns-clause-broadcast
returns-clause-broadcast g c =
    λ h k d s e allowed. place_of-held (with_event h (Broadcast k d s)) k e (turn-broadcast h k d s) allowed
