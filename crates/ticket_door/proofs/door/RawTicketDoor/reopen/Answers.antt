use Rattle.std.proofs.Common.{sym, ap, ◌∙◌, arith}
use mathlib.Core.Option.{none}
use Rattle.atomic_table.specs.Table.{step}
use Rattle.hoare_law.specs.Sizes.{kinds_of}
use Rattle.ticket_door.specs.Asked.{TicketDoorId}
use Rattle.ticket_door.proofs.Trying.{opens_gate_at}
use Rattle.ticket_door.proofs.door.RawTicketDoor.reopen.Goals as goal

pub fetch_sub-requires : goal.fetch_sub-requires
fetch_sub-requires g c =
    let t = c.self.inside.table.shared in
    let D = g.D.MonitorData in
    let has = c.requires.shut in
    let wide = c.self.invariant.words_are in (
      c.requires.table ∙ ap (λ (d : TicketDoorId). d.door.table) (sym c.self.view_is),
      omega (arith, wide),
      opens_gate_at t.key.first t.key.places D.rest D.ready (kinds_of D.CONDITIONS D.MESA) _ _ has.0 has.2 has.1 has.3
          (step t.table_id.slots 0 1 0 none) _ has.4,
    )
