use Rattle.any_door.specs.Doors.{id_of}
use Rattle.disk_service.proofs.Making.{all-new}
use Rattle.disk_service.proofs.FirstPlaces.{all-first}
use Rattle.disk_service.proofs.door.opened.Goals as goal

pub returns-in-Ok-clause-places : goal.returns-in-Ok-clause-places
returns-in-Ok-clause-places g c = all-first _ _ _ _ _ c.in-Ok.ensures.of c.in-Ok.ensures.places

pub returns-in-Ok-clause-opening : goal.returns-in-Ok-clause-opening
returns-in-Ok-clause-opening g c = all-new (id_of c.in-Ok.made.0) _ _ _ _ c.in-Ok.ensures.places
