use Rattle.std.proofs.Common.{refl}
use Rattle.door_place.specs.States.{entered, not_now}
use Rattle.door_place.proofs.act.TryEnterAct.perform.Goals as goal

pub returns-in-Ok-clause-made : goal.returns-in-Ok-clause-made
returns-in-Ok-clause-made c =
    entered c.in-Outside.out c.in-Ok.inside c.in-Outside.is refl refl c.in-Ok.ensures.place c.in-Ok.ensures.front

pub returns-in-Err-clause-made : goal.returns-in-Err-clause-made
returns-in-Err-clause-made c =
    let refused = c.in-Err.ensures in
    not_now c.in-Outside.out c.in-Err.out c.in-Outside.is refl refused.still_place refused.learned refused.refused refl
