use Rattle.std.proofs.Common.{arith}
use Rattle.baton_door.proofs.Steps.{notes_at}
use Rattle.baton_door.proofs.table_steps.tell.Goals as goal

pub load-requires : goal.load-requires
load-requires g c =
    let e = c.requires.event in
    let D = g.D.MonitorData in
    let wide = c.requires.wide in
    let event = g.J.PickedNotification.event in (
      c.requires.table,
      omega (arith, wide),
      notes_at D.rest D.ready (g.K.DoorKey.kinds c.args.table.now.shared.key) _ _ _ c.args.place e.0 event _ e.1 e.2,
    )

pub returns-clause-stays : goal.returns-clause-stays
returns-clause-stays g c = λ f is. c.load.ensures.2 c.args.place f is
