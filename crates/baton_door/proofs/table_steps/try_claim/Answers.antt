use Rattle.std.proofs.Common.{arith}
use Rattle.door_frame.proofs.Seats.{took}
use Rattle.baton_door.proofs.Steps.{claims_at}
use Rattle.baton_door.proofs.table_steps.try_claim.Goals as goal

pub compare_exchange-requires : goal.compare_exchange-requires
compare_exchange-requires g c =
    let away = c.requires.away in
    let D = g.D.MonitorData in
    let wide = c.requires.wide in (
      c.requires.table,
      omega (arith, wide),
      claims_at D.rest D.ready (g.K.DoorKey.kinds c.args.table.now.shared.key) _ _ _ c.args.place away.0 _ _ away.1
          c.owed-mine.ensures,
    )

pub take_guarded-requires-clause-full : goal.take_guarded-requires-clause-full
take_guarded-requires-clause-full g c =
    let away = c.requires.away in
    let t = (c.compare_exchange.ensures.2 c.args.place away.0 away.1).1 c.if-compare_exchange-mine.true in
    (_, t.0, t.1.me_is)

pub returns-then-compare_exchange-mine-clause-enters_with : goal.returns-then-compare_exchange-mine-clause-enters_with
returns-then-compare_exchange-mine-clause-enters_with g c = λ f is.
    let D = g.D.MonitorData in
    let t = (c.compare_exchange.ensures.2 c.args.place f is).1 c.if-compare_exchange-mine.true in
    took D.rest D.ready t.1 c.take_guarded.ensures.taken c.take_guarded.ensures.empty

pub returns-clause-refused : goal.returns-clause-refused
returns-clause-refused g c = λ f is. (c.compare_exchange.ensures.2 c.args.place f is).0 c.if-compare_exchange-mine.false
