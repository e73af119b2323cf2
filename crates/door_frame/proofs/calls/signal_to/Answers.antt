use Rattle.std.proofs.Common.{false, sym, subst, refl}
use Rattle.hoare_law.specs.Growth.{SignalsTo, no_waiter}
use Rattle.door_frame.specs.Places.{PlaceIn}
use Rattle.door_frame.proofs.Arrivals.{signalled_to_back}
use Rattle.door_frame.proofs.calls.signal_to.Goals as goal

pub returns-in-Ok-clause-front : goal.returns-in-Ok-clause-front
returns-in-Ok-clause-front g c =
    let away = c.in-Ok.ensures in
    (signalled_to_back _ c.args.inside _ c.args.condition c.args.waiter away.place away.front away.some
    c.come_back.ensures).0

pub returns-in-Err-clause-front : goal.returns-in-Err-clause-front
returns-in-Err-clause-front g c =
    let inside = c.args.inside in
    subst
    (λ (j : PlaceIn g.row.D.Denot). SignalsTo inside.place c.args.condition c.args.waiter inside.state j.state
    inside.front j.front false)
    (sym c.in-Err.ensures.same) (no_waiter c.in-Err.ensures.no_waiter refl refl)

pub returns-in-Ok-clause-rest : goal.returns-in-Ok-clause-rest
returns-in-Ok-clause-rest g c = λ _.
    let away = c.in-Ok.ensures in
    (signalled_to_back _ c.args.inside _ c.args.condition c.args.waiter away.place away.front away.some
    c.come_back.ensures).1
