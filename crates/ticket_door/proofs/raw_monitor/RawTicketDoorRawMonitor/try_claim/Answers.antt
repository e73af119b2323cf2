use Rattle.std.proofs.Common.{◌<◌, sym, ap, ◌∙◌, subst, arith}
use Rattle.door_frame.proofs.Seats.{took}
use Rattle.ticket_door.specs.Asked.{TicketDoorId}
use Rattle.ticket_door.proofs.Ringing.{takes_bell_at}
use Rattle.ticket_door.proofs.raw_monitor.RawTicketDoorRawMonitor.try_claim.Goals as goal
use Rattle.hoare_law.specs.Sizes.{kinds_of}

pub bell_of-bell-requires : goal.bell_of-bell-requires
bell_of-bell-requires g c =
    let small = subst (λ (d : TicketDoorId). c.args.place < d.door.places) (sym c.self.view_is) c.requires.small in
    let most = c.self.invariant.most in
    omega (arith, small, most)

pub swap-requires : goal.swap-requires
swap-requires g c =
    let t = c.self.inside.table.shared in
    let D = g.D.MonitorData in
    let away = c.requires.away in
    let small = subst (λ (d : TicketDoorId). c.args.place < d.door.places) (sym c.self.view_is) c.requires.small in
    let wide = c.self.invariant.words_are in (
      c.requires.table ∙ ap (λ (d : TicketDoorId). d.door.table) (sym c.self.view_is),
      omega (arith, small, wide, c.bell_of-bell.ensures),
      takes_bell_at t.key.first t.key.places D.rest D.ready (kinds_of D.CONDITIONS D.MESA) _ _ c.args.place away.0 _ _
          away.1 c.bell_of-bell.ensures,
    )

pub take_guarded-requires-clause-full : goal.take_guarded-requires-clause-full
take_guarded-requires-clause-full g c =
    let away = c.requires.away in
    let t = (c.swap.ensures.2 c.args.place away.0 away.1).1 c.if-swap-eq-RUNG.true in (_, t.0, t.1.me_is)

pub returns-then-swap-eq-RUNG-clause-enters_with : goal.returns-then-swap-eq-RUNG-clause-enters_with
returns-then-swap-eq-RUNG-clause-enters_with g c = λ f is.
    let D = g.D.MonitorData in
    let t = (c.swap.ensures.2 c.args.place f is).1 c.if-swap-eq-RUNG.true in
    took D.rest D.ready t.1 c.take_guarded.ensures.taken c.take_guarded.ensures.empty

pub returns-clause-refused : goal.returns-clause-refused
returns-clause-refused g c = λ f is. (c.swap.ensures.2 c.args.place f is).0 c.if-swap-eq-RUNG.false
