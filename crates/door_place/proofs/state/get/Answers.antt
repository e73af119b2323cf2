use Rattle.std.proofs.Common.{ap, refl}
use Rattle.door_place.specs.States.{Carried, got}
use Rattle.door_place.proofs.state.get.Goals as goal

pub returns-in-Inside : goal.returns-in-Inside
returns-in-Inside c =
    got c.in-Inside.inside c.in-Inside.is (ap (λ (s : Carried). s.value) c.state.ensures) refl
