use Rattle.door_frame.proofs.Seats.{took}
use Rattle.baton_door.proofs.table_steps.try_admit.Goals as goal

pub try_in-requires-clause-outside : goal.try_in-requires-clause-outside
try_in-requires-clause-outside g c = (c.args.place, c.requires.outside)

pub returns-then-not-try_in-clause-refused : goal.returns-then-not-try_in-clause-refused
returns-then-not-try_in-clause-refused g c = c.try_in.ensures.refused c.if-not-try_in.true c.args.place

pub take_guarded-requires-clause-full : goal.take_guarded-requires-clause-full
take_guarded-requires-clause-full g c =
    let out = c.requires.outside in
    let t = c.try_in.ensures.let_in c.if-not-try_in.false c.args.place out.0 out.1 in (_, t.0, t.1.me_is)

pub returns-clause-enters_with : goal.returns-clause-enters_with
returns-clause-enters_with g c = λ f away.
    let D = g.D.MonitorData in
    let t = c.try_in.ensures.let_in c.if-not-try_in.false c.args.place f away in
    took D.rest D.ready t.1 c.take_guarded.ensures.taken c.take_guarded.ensures.empty
