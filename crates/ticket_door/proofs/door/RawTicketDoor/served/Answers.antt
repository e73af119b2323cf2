use Rattle.std.proofs.Common.{◌≡◌, ◌∙◌}
use Rattle.hoare_law.specs.Admissions.{admitted}
use Rattle.door_frame.proofs.Seats.{took_also}
use Rattle.ticket_door.proofs.door.RawTicketDoor.served.Goals as goal

pub take_guarded-requires-clause-full : goal.take_guarded-requires-clause-full
take_guarded-requires-clause-full g c =
    let a = c.requires.asked in let t = c.is_served.ensures.let_in c.if-is_served.true a.0 a.1 a.2 in
    (_, t.0, t.1.me_is)

pub returns-then-is_served-clause-enters_with : goal.returns-then-is_served-clause-enters_with
returns-then-is_served-clause-enters_with g c = λ f x is.
    let D = g.D.MonitorData in
    let t = c.is_served.ensures.let_in c.if-is_served.true f x is in
    took_also D.rest D.ready
    (λ log. admitted log.events ≡ x) t.1 t.2 c.take_guarded.ensures.taken c.take_guarded.ensures.empty

pub keep_polling-requires-clause-asked : goal.keep_polling-requires-clause-asked
keep_polling-requires-clause-asked g c =
    let a = c.requires.asked in
    (a.0, a.1, c.is_served.ensures.missed c.if-is_served.false ∙ a.2, a.3, a.4)

pub take_guarded-requires-2-clause-full : goal.take_guarded-requires-2-clause-full
take_guarded-requires-2-clause-full g c =
    let a = c.requires.asked in
    let t = c.keep_polling.ensures.let_in a.0 a.1 (c.is_served.ensures.missed c.if-is_served.false ∙ a.2) in
    (_, t.0, t.1.me_is)

pub returns-clause-enters_with : goal.returns-clause-enters_with
returns-clause-enters_with g c = λ f x is.
    let D = g.D.MonitorData in
    let t = c.keep_polling.ensures.let_in f x (c.is_served.ensures.missed c.if-is_served.false ∙ is) in
    took_also D.rest D.ready
    (λ log. admitted log.events ≡ x) t.1 t.2 c.take_guarded-2.ensures.taken c.take_guarded-2.ensures.empty
