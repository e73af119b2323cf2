use Rattle.std.proofs.Common.{sym, ap, ◌∙◌, arith}
use mathlib.Core.Option.{none}
use Rattle.atomic_table.specs.Table.{step}
use Rattle.hoare_law.specs.Sizes.{kinds_of}
use Rattle.ticket_door.specs.Asked.{TicketDoorId}
use Rattle.ticket_door.proofs.Trying.{reads_next_at}
use Rattle.ticket_door.proofs.door.RawTicketDoor.read_next.Goals as goal

pub load-requires : goal.load-requires
load-requires g c =
    let t = c.self.inside.table.shared in
    let D = g.D.MonitorData in
    let away = c.requires.away in
    let wide = c.self.invariant.words_are in
    let first = ap (λ (d : TicketDoorId). d.first) c.self.view_is ∙ c.requires.first in (
      c.requires.table ∙ ap (λ (d : TicketDoorId). d.door.table) (sym c.self.view_is),
      omega (arith, wide),
      reads_next_at t.key.first t.key.places D.rest D.ready (kinds_of D.CONDITIONS D.MESA) _ _ c.args.place _ away.0
          (step t.table_id.slots 8 0 0 none) _ away.1 first,
    )

pub returns-clause-read : goal.returns-clause-read
returns-clause-read g c = λ f away. c.load.ensures.2 c.args.place f away
