use Rattle.std.proofs.Common.{false, sym, subst, refl}
use Rattle.hoare_law.specs.Growth.{Signals, nobody_waited}
use Rattle.wait_book.proofs.WithData.{none-listed, waits-listed}
use Rattle.door_frame.specs.Places.{PlaceIn}
use Rattle.door_frame.proofs.Arrivals.{signalled_back}
use Rattle.door_frame.proofs.calls.signal.Goals as goal

pub returns-in-Ok-clause-front : goal.returns-in-Ok-clause-front
returns-in-Ok-clause-front g c =
    let away = c.in-Ok.ensures in
    (signalled_back _ c.args.inside _ c.args.condition away.place away.front c.come_back.ensures).0

pub returns-in-Err-clause-front : goal.returns-in-Err-clause-front
returns-in-Err-clause-front g c =
    let inside = c.args.inside in
    let same = c.in-Err.ensures.same in
    let nobody = c.in-Err.ensures.nobody in
    let none =
    none-listed _ (waits-listed false inside.front.events c.args.condition
    ((λ is. absurd (cc)), λ some. absurd (some nobody))) in
    subst
    (λ (j : PlaceIn g.row.D.Denot). Signals inside.place c.args.condition inside.state j.state inside.front j.front
    false) (sym same) (nobody_waited none refl refl)

pub returns-in-Ok-clause-rest : goal.returns-in-Ok-clause-rest
returns-in-Ok-clause-rest g c = λ _.
    let away = c.in-Ok.ensures in
    (signalled_back _ c.args.inside _ c.args.condition away.place away.front c.come_back.ensures).1
