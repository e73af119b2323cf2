use Rattle.hoare_law.proofs.Room.{room_always, room_for_all}
use Rattle.hoare_law.proofs.laws.all_have_places.Goals as goal

pub returns-clause-always : goal.returns-clause-always
returns-clause-always g c = room_always

pub returns-clause-while_inside : goal.returns-clause-while_inside
returns-clause-while_inside g c = room_for_all
