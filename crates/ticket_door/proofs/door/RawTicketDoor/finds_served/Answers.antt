use Rattle.std.proofs.Common.{eq-eqb, true≢false, sym, ap, ◌∙◌, arith}
use mathlib.Core.Option.{none}
use Rattle.atomic_table.specs.Table.{step}
use Rattle.hoare_law.specs.Sizes.{kinds_of}
use Rattle.ticket_door.specs.Asked.{TicketDoorId}
use Rattle.ticket_door.proofs.Barring.{unserved_passed}
use Rattle.ticket_door.proofs.Trying.{caused, reads_serving_at}
use Rattle.ticket_door.proofs.door.RawTicketDoor.finds_served.Goals as goal

pub load-requires : goal.load-requires
load-requires g c =
    let t = c.self.inside.table.shared in
    let D = g.D.MonitorData in
    let away = c.requires.away in
    let wide = c.self.invariant.words_are in
    let first = ap (λ (d : TicketDoorId). d.first) c.self.view_is ∙ c.requires.first in (
      c.requires.table ∙ ap (λ (d : TicketDoorId). d.door.table) (sym c.self.view_is),
      omega (arith, wide),
      reads_serving_at t.key.first t.key.places D.rest D.ready (kinds_of D.CONDITIONS D.MESA) _ _ c.args.place _ away.0
          (step t.table_id.slots 0 0 0 none) _ away.1 first,
    )

pub returns-clause-missed : goal.returns-clause-missed
returns-clause-missed g c = λ no f away.
    caused (c.load.ensures.2 c.args.place f away) (λ h told. unserved_passed g.J.Counting.first told
    (λ hit. true≢false (sym (eq-eqb c.load.result c.served_as.result (hit ∙ sym c.served_as.ensures)) ∙ no)))

pub returns-clause-found : goal.returns-clause-found
returns-clause-found g c = λ yes f away.
    let r = c.load.ensures.2 c.args.place f away in (r.log, r.me_is, r.begins, r.own_are)
