use Rattle.std.proofs.Common.{subst}
use Rattle.wait_book.specs.Contents.{IsPlaceBelow}
use Rattle.door_frame.specs.Steps.{MayGive}
use Rattle.door_frame.proofs.Releases.{gives_gone}
use Rattle.ticket_door.proofs.door.RawTicketDoor.give.Goals as goal

pub open-requires-clause-event : goal.open-requires-clause-event
open-requires-clause-event g c =
    let D = g.D.MonitorData in
    subst (MayGive D.rest D.ready g.J.PickedEvent.event c.args.place c.args.seat.now.me c.args.guarded)
    c.in-Free.is c.requires.event

pub ring-requires-clause-below : goal.ring-requires-clause-below
ring-requires-clause-below g c = subst (IsPlaceBelow c.args.self.now.door.places) c.in-For.is c.requires.next

pub ring-requires-clause-event : goal.ring-requires-clause-event
ring-requires-clause-event g c =
    let D = g.D.MonitorData in
    subst (MayGive D.rest D.ready g.J.PickedEvent.event c.args.place c.args.seat.now.me c.args.guarded)
    c.in-For.is c.requires.event

pub unreachable-requires : goal.unreachable-requires
unreachable-requires g c =
    let e = c.requires.event in
    let D = g.D.MonitorData in
    gives_gone D.rest D.ready g.J.PickedEvent.event c.args.place e.0 c.args.guarded c.args.next _ e.2 c.in-Held.is
