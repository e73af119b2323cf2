use Rattle.std.proofs.Common.{ℕ, ◌+◌, ◌%◌, ◌^◌, length, sym, ap, ◌∙◌, arith, subst}
use mathlib.Core.Option.{none}
use Rattle.atomic_table.specs.Table.{step}
use Rattle.ticket_door.specs.Asked.{TicketDoorId}
use Rattle.ticket_door.specs.Steps.{TakesTicket}
use Rattle.ticket_door.proofs.Serving.{takes_ticket_at}
use Rattle.ticket_door.proofs.door.RawTicketDoor.draw.Goals as goal
use Rattle.hoare_law.specs.Sizes.{kinds_of}

pub fetch_add-requires : goal.fetch_add-requires
fetch_add-requires g c =
    let t = c.self.inside.table.shared in
    let D = g.D.MonitorData in
    let entering = c.requires.entering in
    let wide = c.self.invariant.words_are in
    let first = ap (λ (d : TicketDoorId). d.first) c.self.view_is ∙ c.requires.first in
    let places = ap (λ (d : TicketDoorId). d.door.places) c.self.view_is ∙ c.requires.places in (
      c.requires.table ∙ ap (λ (d : TicketDoorId). d.door.table) (sym c.self.view_is),
      omega (arith, wide),
      takes_ticket_at t.key.first t.key.places D.rest D.ready (kinds_of D.CONDITIONS D.MESA) _ _ c.args.place entering.0
          (step t.table_id.slots 8 1 0 none) _ _ _ entering.1 first places entering.2,
    )

pub returns-clause-drawn : goal.returns-clause-drawn
returns-clause-drawn g c = λ f is.
    let D = g.D.MonitorData in
    let d = c.fetch_add.ensures.2 c.args.place f is in (
      d.0,
      d.1,
      subst (λ (n : ℕ). TakesTicket D.rest D.ready n c.args.place f d.0 d.1 c.fetch_add.new.seat.me)
          (sym c.requires.places) d.2,
      d.3 ∙ ap (λ n. (n + length d.1) % 2 ^ 64) (sym c.requires.first),
    )
