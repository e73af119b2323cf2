use Rattle.std.proofs.Common.{arith, refl}
use Rattle.wait_book.proofs.WithData.{none-listed}
use Rattle.door_place.specs.States.{somebody, nobody, no_condition}
use Rattle.door_place.proofs.state.queue.Goals as goal

pub returns-then-condition-of : goal.returns-then-condition-of
returns-then-condition-of c =
    let most = c.of.ensures.conditions in
    no_condition c.in-Inside.inside c.in-Inside.is (omega (arith, c.if-condition-of.true, most)) refl

pub returns-then-queue : goal.returns-then-queue
returns-then-queue c =
    let most = c.of.ensures.conditions in
    somebody c.in-Inside.inside c.in-Inside.is (omega (arith, c.if-condition-of.false, most))
    (c.if-queue.ensures.lists.0 refl) refl

pub returns-else-queue : goal.returns-else-queue
returns-else-queue c =
    let most = c.of.ensures.conditions in
    nobody c.in-Inside.inside c.in-Inside.is (omega (arith, c.if-condition-of.false, most))
    (none-listed _ c.if-queue.ensures.lists) refl
