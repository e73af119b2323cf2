use Rattle.hoare_law.specs.Sizes.{kinds_of}
use Rattle.ticket_door.proofs.Asking.{entered_by}
use Rattle.ticket_door.proofs.raw_monitor.RawTicketDoorRuns.enter.Goals as goal

pub returns : goal.returns
returns g c =
    let D = g.D.MonitorData in
    let a = c.ask-asked.ensures in
    let i = c.come_in.ensures in
    entered_by D.rest D.ready (kinds_of D.CONDITIONS D.MESA) c.args.self.now c.ask-asked.result a.place a.front i.of
    i.place i.rest i.front
