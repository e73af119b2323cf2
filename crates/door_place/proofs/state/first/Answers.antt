use Rattle.std.proofs.Common.{arith, refl}
use Rattle.door_place.specs.States.{somebody, nobody, no_condition}
use Rattle.door_place.proofs.state.first.Goals as goal

pub returns-then-condition-of : goal.returns-then-condition-of
returns-then-condition-of c =
    let most = c.of.ensures.conditions in
    no_condition c.in-Inside.inside c.in-Inside.is (omega (arith, c.if-condition-of.true, most)) refl refl

pub returns-in-Some : goal.returns-in-Some
returns-in-Some c =
    let most = c.of.ensures.conditions in
    let lists = c.in-Some.ensures.lists in
    somebody c.in-Inside.inside c.in-Inside.is (omega (arith, c.if-condition-of.false, most)) lists.0 lists.1 refl

pub returns-in-None : goal.returns-in-None
returns-in-None c =
    let most = c.of.ensures.conditions in
    nobody c.in-Inside.inside c.in-Inside.is (omega (arith, c.if-condition-of.false, most)) c.in-None.ensures.lists
    refl refl
