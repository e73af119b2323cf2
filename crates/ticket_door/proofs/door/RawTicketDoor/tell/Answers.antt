use Rattle.std.proofs.Common.{arith, sym, ap, ◌∙◌}
use mathlib.Core.Option.{none}
use Rattle.atomic_table.specs.Table.{step}
use Rattle.ticket_door.specs.Asked.{TicketDoorId}
use Rattle.ticket_door.proofs.Serving.{notes_at}
use Rattle.ticket_door.proofs.door.RawTicketDoor.tell.Goals as goal
use Rattle.hoare_law.specs.Sizes.{kinds_of}

pub load-requires : goal.load-requires
load-requires g c =
    let e = c.requires.event in
    let t = c.self.inside.table.shared in
    let D = g.D.MonitorData in
    let wide = c.self.invariant.words_are in (
      c.requires.table ∙ ap (λ (d : TicketDoorId). d.door.table) (sym c.self.view_is),
      omega (arith, wide),
      notes_at t.key.first t.key.places D.rest D.ready
          (kinds_of D.CONDITIONS D.MESA) _ _ c.args.place e.0 g.J.PickedNotification.event
          (step t.table_id.slots 0 0 0 none) _ e.1 e.2,
    )

pub returns-clause-stays : goal.returns-clause-stays
returns-clause-stays g c = λ f is. c.load.ensures.2 c.args.place f is
