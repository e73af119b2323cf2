use Rattle.std.proofs.Common.{arith, refl, ap, ◌∙◌}
use Rattle.std.specs.Prelude.{length}
use Rattle.door_place.specs.States.{counted, no_condition}
use Rattle.door_place.proofs.state.count.Goals as goal

pub returns-then-condition-of : goal.returns-then-condition-of
returns-then-condition-of c =
    let most = c.of.ensures.conditions in
    no_condition c.in-Inside.inside c.in-Inside.is (omega (arith, c.if-condition-of.true, most)) refl

pub returns-else-condition-of : goal.returns-else-condition-of
returns-else-condition-of c =
    let most = c.of.ensures.conditions in
    counted c.in-Inside.inside c.in-Inside.is (omega (arith, c.if-condition-of.false, most))
    (c.count.ensures.lists ∙ ap (λ q. length (q c.args.condition)) c.lists.ensures)
