use Rattle.std.proofs.Common.{refl, sym, subst}
use Rattle.hoare_law.specs.Growth.{Begins}
use Rattle.door_place.specs.declared.state.State.{State}
use Rattle.door_place.specs.States.{front_of, returned, not_now}
use Rattle.door_place.proofs.act.TryReturnAct.perform.Goals as goal

pub returns-in-Ok-clause-made : goal.returns-in-Ok-clause-made
returns-in-Ok-clause-made c =
    returned c.in-Away.away c.in-Ok.inside c.in-Away.is refl refl c.in-Ok.ensures.back

pub returns-in-Ok-clause-front : goal.returns-in-Ok-clause-front
returns-in-Ok-clause-front c =
    subst (λ (s : State). Begins (front_of s) c.in-Ok.inside.front) (sym c.in-Away.is) c.in-Ok.ensures.back.begins

pub returns-in-Err-clause-made : goal.returns-in-Err-clause-made
returns-in-Err-clause-made c =
    not_now c.in-Away.away c.in-Err.away c.in-Away.is refl c.in-Err.ensures.refused refl
