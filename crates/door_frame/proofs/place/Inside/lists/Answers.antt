use Rattle.door_frame.proofs.Inside.{listed_in_hand}
use Rattle.door_frame.proofs.place.Inside.lists.Goals as goal

pub returns : goal.returns
returns g c = listed_in_hand c.book.ensures c.self.invariant c.self.view_is
