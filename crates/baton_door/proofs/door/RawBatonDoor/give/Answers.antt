use Rattle.std.proofs.Common.{subst}
use Rattle.wait_book.specs.Contents.{IsPlaceBelow}
use Rattle.door_frame.specs.Steps.{MayGive}
use Rattle.baton_door.proofs.door.RawBatonDoor.give.Goals as goal

pub give_to-requires-clause-below : goal.give_to-requires-clause-below
give_to-requires-clause-below g c = subst (IsPlaceBelow c.args.self.now.places) c.in-For.is c.requires.next

pub give_to-requires-clause-event : goal.give_to-requires-clause-event
give_to-requires-clause-event g c =
    let D = g.D.MonitorData in
    subst (MayGive D.rest D.ready g.J.PickedEvent.event c.args.place c.args.seat.now.me c.args.guarded)
    c.in-For.is c.requires.event
