use Rattle.disk_service.proofs.FirstPlaces.{has-first}
use Rattle.disk_service.proofs.door.closed.Goals as goal

pub close-requires-clause-places : goal.close-requires-clause-places
close-requires-clause-places g c = λ _ _ k l. has-first _ _ _ _ c.requires k l
