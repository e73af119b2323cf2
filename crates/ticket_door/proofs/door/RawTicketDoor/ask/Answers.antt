use Rattle.std.proofs.Common.{◌≡◌, true, length, sym, ap, ◌∙◌, subst}
use Rattle.hoare_law.specs.Sizes.{kinds_of}
use Rattle.hoare_law.specs.Turns.{outside}
use Rattle.door_frame.proofs.Seats.{away_as, place_id_as}
use Rattle.ticket_door.proofs.Asking.{asking_alone, asking_front, asking_before, asking_by, takes_ticket_as}
use Rattle.ticket_door.specs.Asked.{ahead_in}
use Rattle.ticket_door.proofs.door.RawTicketDoor.ask.Goals as goal

pub draw-ticket-requires-clause-entering : goal.draw-ticket-requires-clause-entering
draw-ticket-requires-clause-entering g c =
    let p = c.into_parts-seat.ensures in (
      c.args.out.front,
      away_as p.1 p.2,
      subst (λ k. outside k c.args.out.front.events ≡ true) (sym p.1) c.requires.is_outside,
    )

pub invariant_of-result : goal.invariant_of-result
invariant_of-result g c =
    let p = c.into_parts-seat.ensures in
    let d = c.draw-ticket.ensures.drawn c.args.out.front (away_as p.1 p.2) in
    (asking_alone _ _ _ _ d.2.learns.me_is, tt)

pub invariant_of-result-2 : goal.invariant_of-result-2
invariant_of-result-2 g c =
    let p = c.into_parts-seat.ensures in
    let d = c.draw-ticket.ensures.drawn c.args.out.front (away_as p.1 p.2) in
    asking_by _ _ _ d.0 d.1 d.2.learns.me_is

pub returns : goal.returns
returns g c =
    let D = g.D.MonitorData in
    let p = c.into_parts-seat.ensures in
    let d = c.draw-ticket.ensures.drawn c.args.out.front (away_as p.1 p.2) in
    let front = asking_front _ _ _ d.0 d.1 d.2.learns.me_is in
    let before = asking_before _ _ d.0 d.1 d.2.learns.me_is in
    let r =
    takes_ticket_as D.rest D.ready (kinds_of D.CONDITIONS D.MESA) c.args.self.now c.args.out _ c.requires d.2 p.1
    (place_id_as _ c.draw-ticket.ensures.table ∙ p.0) p.1 front (ap length before) (λ i. ahead_in (front i) (before i))
    d.3 in
    record { of = r.of; place = r.place; front = r.front }
