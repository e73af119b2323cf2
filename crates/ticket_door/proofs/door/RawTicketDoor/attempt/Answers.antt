use Rattle.std.proofs.Common.{◌*◌, ◌%◌, ◌^◌, [], ◌∙◌}
use Rattle.hoare_law.proofs.Entering.{outside-same}
use Rattle.hoare_law.proofs.Growth.{Begins-trans}
use Rattle.door_frame.proofs.Refusals.{entered_after}
use Rattle.door_frame.proofs.Seats.{took}
use Rattle.ticket_door.proofs.Barring.{refused_later}
use Rattle.ticket_door.proofs.Trying.{still_has, came_by}
use Rattle.ticket_door.proofs.door.RawTicketDoor.attempt.Goals as goal
use Rattle.ticket_door.proofs.door.RawTicketDoor.attempt.Goals.{then-not-finds_served-via-then-not-finds_served}
use Rattle.ticket_door.proofs.door.RawTicketDoor.attempt.Goals.{then-not-finds_served-via-else-not-finds_served+then-not-shut}

pub finds_served-requires-clause-away : goal.finds_served-requires-clause-away
finds_served-requires-clause-away g c =
    let out = c.requires.outside in
    let r = c.read_next-ticket.ensures.read out.0 out.1 in (r.log, r.me_is)

pub shut-requires-clause-entering : goal.shut-requires-clause-entering
shut-requires-clause-entering g c =
    let out = c.requires.outside in
    let r = c.read_next-ticket.ensures.read out.0 out.1 in
    let y = c.finds_served.ensures.found c.if-not-finds_served.false r.log r.me_is in
    (y.0, y.1, outside-same c.args.place out.0 y.0 (y.3 ∙ r.own_are) out.2)

pub returns-then-not-finds_served-clause-refused : goal.returns-then-not-finds_served-clause-refused
returns-then-not-finds_served-clause-refused g c = λ f is.
    let first = g.J.Counting.first in
    let r = c.read_next-ticket.ensures.read f is in
    elim c.then-not-finds_served.branch [
      | then-not-finds_served-via-then-not-finds_served w ↦
          let p = c.finds_served.ensures.missed w.if-not-finds_served.true r.log r.me_is in
          rw w.seat-is (refused_later first r p.begins p.own_are p.stands p.cause p.me_is)
      | then-not-finds_served-via-else-not-finds_served+then-not-shut w ↦
          let y = c.finds_served.ensures.found w.if-not-finds_served.false r.log r.me_is in
          let p = w.shut.ensures.missed w.if-not-shut.true y.0 y.1 in
          rw w.seat-is
          (refused_later first r (Begins-trans y.2 p.begins) (p.own_are ∙ y.3) p.stands p.cause p.me_is)
    ]

pub try_in-let_in-requires-clause-trying : goal.try_in-let_in-requires-clause-trying
try_in-let_in-requires-clause-trying g c =
    let out = c.requires.outside in
    let r = c.read_next-ticket.ensures.read out.0 out.1 in
    let y = c.finds_served.ensures.found c.if-not-finds_served.false r.log r.me_is in
    let l = c.shut.ensures.shut c.if-not-shut.false y.0 y.1 in
    (l.0, l.1.me_is, outside-same c.args.place out.0 l.0 (l.1.fits.0.1 ∙ y.3 ∙ r.own_are) out.2)

pub reopen-requires-clause-shut : goal.reopen-requires-clause-shut
reopen-requires-clause-shut g c =
    let out = c.requires.outside in
    let r = c.read_next-ticket.ensures.read out.0 out.1 in
    let y = c.finds_served.ensures.found c.if-not-finds_served.false r.log r.me_is in
    let l = c.shut.ensures.shut c.if-not-shut.false y.0 y.1 in
    still_has g.J.Counting.first c.read_next-ticket.result c.try_in-let_in.result l.0 l.1.me_is
    c.try_in-let_in.ensures.missed c.try_in-let_in.ensures.let_in

pub returns-then-not-let_in-clause-refused : goal.returns-then-not-let_in-clause-refused
returns-then-not-let_in-clause-refused g c = λ f is.
    let r = c.read_next-ticket.ensures.read f is in
    let y = c.finds_served.ensures.found c.if-not-finds_served.false r.log r.me_is in
    let l = c.shut.ensures.shut c.if-not-shut.false y.0 y.1 in
    let t = c.try_in-let_in.ensures.missed c.if-not-let_in.true l.0 l.1.me_is in
    refused_later g.J.Counting.first r (Begins-trans y.2 (Begins-trans l.1.fits.0.0 t.1.fits.0.0))
    (t.1.fits.0.1 ∙ l.1.fits.0.1 ∙ y.3) t.1.stands t.2
    (c.reopen.ensures.opened c.args.place t.0 ((2 * c.read_next-ticket.result) % 2 ^ 64) [] t.1.me_is)

pub take_guarded-requires-clause-full : goal.take_guarded-requires-clause-full
take_guarded-requires-clause-full g c =
    let out = c.requires.outside in
    let r = c.read_next-ticket.ensures.read out.0 out.1 in
    let y = c.finds_served.ensures.found c.if-not-finds_served.false r.log r.me_is in
    let l = c.shut.ensures.shut c.if-not-shut.false y.0 y.1 in
    let t = c.try_in-let_in.ensures.let_in c.if-not-let_in.false l.0 l.1.me_is in
    (_, t.0, (came_by t.1 c.reopen.ensures.opened).me_is)

pub returns-clause-enters_with : goal.returns-clause-enters_with
returns-clause-enters_with g c = λ f is.
    let D = g.D.MonitorData in
    let r = c.read_next-ticket.ensures.read f is in
    let y = c.finds_served.ensures.found c.if-not-finds_served.false r.log r.me_is in
    let l = c.shut.ensures.shut c.if-not-shut.false y.0 y.1 in
    let t = c.try_in-let_in.ensures.let_in c.if-not-let_in.false l.0 l.1.me_is in
    entered_after (Begins-trans r.begins (Begins-trans y.2 l.1.fits.0.0)) (l.1.fits.0.1 ∙ y.3 ∙ r.own_are)
    (took D.rest D.ready (came_by t.1 c.reopen.ensures.opened) c.take_guarded.ensures.taken c.take_guarded.ensures.empty)
