use denote.Param.Send.{arg_send, param_send}
use Rattle.std.proofs.Common.{◌≡◌, [], length, sym, ap, ◌∙◌, subst, arith}
use Rattle.std.specs.Prelude.{All}
use Rattle.std.specs.Arc.{arc_value}
use Rattle.shelf.specs.Shelves.{CollectorOf, ShelfId}
use Rattle.baton_door.specs.StepDoors.{StepId}
use Rattle.door_frame.specs.Places.{IsOut}
use Rattle.door_place.specs.Returns.{numbers_onto}
use Rattle.door_place.specs.States.{any, calm}
use Rattle.door_place.specs.declared.shared.Returned.{Returned}
use Rattle.door_place.proofs.Lists.{below_long, numbers_all, numbers_long}
use Rattle.door_place.proofs.Sent.{keeper_send}
use Rattle.door_place.proofs.keeper.Keeper.make.Goals as goal

pub may_move-requires-send-T : goal.may_move-requires-send-T
may_move-requires-send-T c κs = search (keeper_send, arg_send, param_send)

pub invariant_of-may_move : goal.invariant_of-may_move
invariant_of-may_move c =
    let outs = c.in-Ok.made.1 in
    let made = c.in-Ok-new.ensures in
    let arc = c.in-Ok-new-2.ensures.ok in
    let tag : (arc_value c.in-Ok-new-2.shared).tag ≡ c.in-Ok.made.0 =
    ap (λ (d : ShelfId StepId). d.tag) arc ∙ made.0 in
    let numbers = ap (numbers_onto []) c.in-Ok.ensures.places ∙ numbers_all c.in-Ok.made.0.door c.args.sizes.places _ in
    let places = ap (λ (d : StepId). d.door.places) tag ∙ c.in-Ok.ensures.made.1 in
    let long : length (numbers_onto [] outs.items) ≡ c.args.sizes.places =
    ap length numbers ∙ below_long c.args.sizes.places in
    let each = numbers_long [] outs.items in
    let room = outs.ok in (
      subst (λ (d : StepId). All (IsOut calm any d.kinds d.door) outs.items) (sym tag) c.in-Ok.ensures.of,
      ap (λ (o : CollectorOf Returned StepId). o.shelf) made.1 ∙ sym arc,
      ap (λ (o : CollectorOf Returned StepId). o.in_hand) made.1 ∙ sym numbers,
      omega (arith, places, long, each, room.0, room.1),
    )
