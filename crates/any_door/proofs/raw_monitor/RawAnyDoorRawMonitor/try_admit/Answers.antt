use Rattle.std.proofs.Common.{sym, subst}
use Rattle.std.specs.Option.{IfNone}
use Rattle.door_frame.specs.Seats.{IsRefused}
use Rattle.any_door.specs.Doors.{refuses_at}
use Rattle.any_door.specs.declared.door.RawAnyDoor.{RawAnyDoor}
use Rattle.any_door.proofs.raw_monitor.RawAnyDoorRawMonitor.try_admit.Goals as goal

pub returns-in-Baton-clause-refused : goal.returns-in-Baton-clause-refused
returns-in-Baton-clause-refused g c =
    let D = g.D.MonitorData in
    subst
    (λ (d : RawAnyDoor g.row.D.Denot). IfNone c.try_admit.result (IsRefused D.rest D.ready (refuses_at d c.args.place)
    c.args.place c.args.seat.now.me c.try_admit.new.seat.me)) (sym c.in-Baton.is) c.try_admit.ensures.refused

pub returns-in-Ticket-clause-refused : goal.returns-in-Ticket-clause-refused
returns-in-Ticket-clause-refused g c =
    let D = g.D.MonitorData in
    subst
    (λ (d : RawAnyDoor g.row.D.Denot). IfNone c.try_admit-in-Ticket.result (IsRefused D.rest D.ready
    (refuses_at d c.args.place) c.args.place c.args.seat.now.me c.try_admit-in-Ticket.new.seat.me)) (sym c.in-Ticket.is) c.try_admit-in-Ticket.ensures.refused
