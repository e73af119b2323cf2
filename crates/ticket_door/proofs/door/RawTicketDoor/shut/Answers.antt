use Rattle.std.proofs.Common.{eqb-true, eq-eqb, true≢false, ℕ, [], ◌∷◌, Some, refl, sym, ap, ◌∙◌, subst, arith}
use Rattle.door_frame.specs.Steps.{Learns}
use Rattle.door_frame.specs.Views.{knows}
use Rattle.door_frame.specs.declared.view.Token.TheVariants.{Gate}
use Rattle.hoare_law.specs.Sizes.{kinds_of}
use Rattle.ticket_door.specs.Asked.{TicketDoorId}
use Rattle.ticket_door.proofs.Barring.{unserved_passed}
use Rattle.ticket_door.proofs.Trying.{caused, closes_gate_at}
use Rattle.ticket_door.proofs.door.RawTicketDoor.shut.Goals as goal

pub compare_exchange-requires : goal.compare_exchange-requires
compare_exchange-requires g c =
    let t = c.self.inside.table.shared in
    let D = g.D.MonitorData in
    let entering = c.requires.entering in
    let wide = c.self.invariant.words_are in
    let first = ap (λ (d : TicketDoorId). d.first) c.self.view_is ∙ c.requires.first in (
      c.requires.table ∙ ap (λ (d : TicketDoorId). d.door.table) (sym c.self.view_is),
      omega (arith, wide),
      closes_gate_at t.key.first t.key.places D.rest D.ready (kinds_of D.CONDITIONS D.MESA) _ _ c.args.place
          c.served_as-turn.result _ c.args.ticket _ entering.0 _ entering.1 c.served_as-turn.ensures refl first
          entering.2,
    )

pub returns-clause-missed : goal.returns-clause-missed
returns-clause-missed g c = λ no f away.
    let turn = c.served_as-turn.ensures in
    let r = (c.compare_exchange.ensures.2 c.args.place f away).0
    (λ hit. true≢false (sym (eq-eqb c.compare_exchange.result c.served_as-turn.result hit) ∙ no)) in
    caused r (λ h told. unserved_passed g.J.Counting.first told
    (λ hit. true≢false (sym (eq-eqb c.compare_exchange.result c.served_as-turn.result (hit ∙ sym turn)) ∙ no)))

pub returns-clause-shut : goal.returns-clause-shut
returns-clause-shut g c = λ is f away.
    let D = g.D.MonitorData in
    let l = (c.compare_exchange.ensures.2 c.args.place f away).1
    (eqb-true c.compare_exchange.result c.served_as-turn.result is) in (
      l.0,
      subst
          (λ (v : ℕ). Learns D.rest D.ready l.0 (knows c.args.place f (Some (Gate v)) ∷ [])
          c.compare_exchange.new.seat.me)
          c.served_as-turn.ensures l.1,
    )
