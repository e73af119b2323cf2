use Rattle.std.proofs.Common.{◌≡◌, ℕ, true, sym, ◌∙◌, subst}
use Rattle.hoare_law.specs.Turns.{outside}
use Rattle.door_frame.proofs.Arrivals.{entered}
use Rattle.door_frame.proofs.Seats.{away_as, place_id_as, took}
use Rattle.baton_door.proofs.door.RawBatonDoor.enter_later.Goals as goal

pub keep_trying-requires-clause-outside : goal.keep_trying-requires-clause-outside
keep_trying-requires-clause-outside g c =
    let parts = c.into_parts-seat.ensures in
    let outside = subst (λ (k : ℕ). outside k c.args.out.front.events ≡ true) (sym parts.1) c.requires.is_outside in
    (_, (c.args.out.front, away_as parts.1 parts.2, outside))

pub take_guarded-guarded-requires-clause-full : goal.take_guarded-guarded-requires-clause-full
take_guarded-guarded-requires-clause-full g c =
    let parts = c.into_parts-seat.ensures in
    let t = c.keep_trying.ensures.let_in _ c.args.out.front (away_as parts.1 parts.2) in (_, t.0, t.1.me_is)

pub enter_with-requires : goal.enter_with-requires
enter_with-requires g c =
    let D = g.D.MonitorData in
    let parts = c.into_parts-seat.ensures in
    let t = c.keep_trying.ensures.let_in _ c.args.out.front (away_as parts.1 parts.2) in
    let came = took D.rest D.ready t.1 c.take_guarded-guarded.ensures.taken c.take_guarded-guarded.ensures.empty in
    record { entered_by = (c.args.out.front, came) }

pub returns : goal.returns
returns g c =
    let D = g.D.MonitorData in
    let parts = c.into_parts-seat.ensures in
    let t = c.keep_trying.ensures.let_in _ c.args.out.front (away_as parts.1 parts.2) in
    let came = took D.rest D.ready t.1 c.take_guarded-guarded.ensures.taken c.take_guarded-guarded.ensures.empty in
    let e =
    entered c.args.out _ _ c.requires
    (place_id_as _ (c.take_guarded-guarded.ensures.table ∙ c.keep_trying.ensures.table) ∙ parts.0) parts.1 came
    (c.enter_with.ensures _ came) in
    record { of = e.of; place = e.place; rest = e.rests; front = e.front }
