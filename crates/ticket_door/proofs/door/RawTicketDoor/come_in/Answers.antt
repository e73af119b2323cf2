use Rattle.std.proofs.Common.{length, sym, ap, subst}
use Rattle.door_frame.specs.Views.{front_of}
use Rattle.door_frame.proofs.Seats.{place_id_as}
use Rattle.ticket_door.specs.Asked.{IsAsked, before_of, ahead_in}
use Rattle.ticket_door.proofs.Asking.{came_in}
use Rattle.ticket_door.proofs.door.RawTicketDoor.come_in.Goals as goal
use Rattle.hoare_law.specs.Sizes.{kinds_of}

pub served-guarded-requires-clause-asked : goal.served-guarded-requires-clause-asked
served-guarded-requires-clause-asked g c =
    let D = g.D.MonitorData in
    let o =
    subst (IsAsked D.rest D.ready (kinds_of D.CONDITIONS D.MESA) c.args.self.now) (sym c.asked.view_is) c.requires in (
      front_of c.asked.inside.seat.me.0 c.asked.inside.alone,
      before_of c.asked.inside.seat.me.0,
      c.asked.invariant,
      o.ticket_is,
      o.out.is_outside,
    )

pub enter_with-requires : goal.enter_with-requires
enter_with-requires g c =
    record {
      entered_by = (
        front_of c.asked.inside.seat.me.0 c.asked.inside.alone,
        (c.served-guarded.ensures.enters_with _ _ c.asked.invariant).0,
      );
    }

pub returns : goal.returns
returns g c =
    let D = g.D.MonitorData in
    let o =
    subst (IsAsked D.rest D.ready (kinds_of D.CONDITIONS D.MESA) c.args.self.now) (sym c.asked.view_is) c.requires in
    let m = c.served-guarded.ensures.enters_with _ _ c.asked.invariant in
    let r =
    came_in D.rest D.ready (kinds_of D.CONDITIONS D.MESA) c.asked.view_is o
    (place_id_as _ c.served-guarded.ensures.table) m.0 (ap length m.1)
    (ap (ahead_in (front_of c.asked.inside.seat.me.0 c.asked.inside.alone)) m.1)
    (c.enter_with.ensures _ m.0) in
    record { of = r.of; place = r.place; rest = r.rests; front = r.front; in_turn = r.in_turn; admissions_before = r.behind }
