use Rattle.hoare_law.specs.Internal.WithoutData.{dataless}
use Rattle.door_frame.specs.Views.{front_of}
use Rattle.door_frame.proofs.Inside.{book_in_hand, waits_in_hand}
use Rattle.door_frame.proofs.place.Inside.has_waiter.Goals as goal

pub returns : goal.returns
returns g c =
    let f = front_of c.self.inside.seat.me.0 c.self.inside.alone in
    waits_in_hand c.has_waiter.result c.args.condition c.args.place c.self.view_is
    (c.has_waiter.ensures.of (dataless f) (book_in_hand c.book.ensures c.self.invariant))
