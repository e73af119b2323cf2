use Rattle.std.proofs.Common.{◌*◌, ◌%◌, ◌^◌, eqb-true, eq-eqb, true≢false, refl, sym, ap, ◌∙◌, arith}
use Rattle.hoare_law.specs.Sizes.{kinds_of}
use Rattle.ticket_door.specs.Asked.{TicketDoorId}
use Rattle.ticket_door.proofs.Trying.{admits_try_at}
use Rattle.ticket_door.proofs.door.RawTicketDoor.try_in.Goals as goal

pub compare_exchange-requires : goal.compare_exchange-requires
compare_exchange-requires g c =
    let t = c.self.inside.table.shared in
    let D = g.D.MonitorData in
    let at = c.requires.trying in
    let wide = c.self.invariant.words_are in
    let first = ap (λ (d : TicketDoorId). d.first) c.self.view_is ∙ c.requires.first in (
      c.requires.table ∙ ap (λ (d : TicketDoorId). d.door.table) (sym c.self.view_is),
      omega (arith, wide),
      admits_try_at t.key.first t.key.places D.rest D.ready (kinds_of D.CONDITIONS D.MESA) _ _ c.args.place
          ((2 * c.args.ticket) % 2 ^ 64) c.args.ticket _ _ at.0 _ at.1 c.self.invariant.most at.2 refl refl first,
    )

pub returns-clause-missed : goal.returns-clause-missed
returns-clause-missed g c = λ no f at.
    (c.compare_exchange.ensures.2 c.args.place f ((2 * c.args.ticket) % 2 ^ 64) at).0
    (λ hit. true≢false (sym (eq-eqb c.compare_exchange.result c.args.ticket hit) ∙ no))

pub returns-clause-let_in : goal.returns-clause-let_in
returns-clause-let_in g c = λ is f at.
    let t = (c.compare_exchange.ensures.2 c.args.place f ((2 * c.args.ticket) % 2 ^ 64) at).1
    (eqb-true c.compare_exchange.result c.args.ticket is) in (t.0, t.1)
