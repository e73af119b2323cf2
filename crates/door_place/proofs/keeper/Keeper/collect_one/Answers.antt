use Rattle.std.proofs.Common.{◌≡◌, ◌+◌, [], ◌∷◌, length, refl, sym, ap, ◌∙◌, subst, arith}
use Rattle.std.specs.Prelude.{All}
use Rattle.std.specs.Arc.{arc_value}
use Rattle.std.proofs.lemmas.List.Elements.{All-push}
use Rattle.shelf.specs.Shelves.{ShelfId}
use Rattle.shelf.proofs.Lists.{few}
use Rattle.baton_door.specs.StepDoors.{StepId}
use Rattle.door_frame.specs.Places.{IsOut}
use Rattle.door_place.specs.Returns.{KeeperOf, Tries, absent, found, keeper_of, numbers_onto}
use Rattle.door_place.specs.States.{any, calm}
use Rattle.door_place.proofs.Lists.{numbers_long, numbers_push}
use Rattle.door_place.proofs.keeper.Keeper.collect_one.Goals as goal

pub returns-in_default : goal.returns-in_default
returns-in_default c =
    let e = c.in_default.ensures.absent in
    let d = arc_value c.self.inside.shared in
    subst (λ (k : KeeperOf).
    Tries c.args.number k (keeper_of d.tag c.self.inside.outs.items c.take.new.collector.log)) c.self.view_is
    (absent c.take.new.collector.log refl e.moment e.absent)

pub push_reserved-requires : goal.push_reserved-requires
push_reserved-requires c =
    let outs = c.self.inside.outs in
    let e = c.in-Some.ensures in
    let most = few _ _ e.numbers in
    let one : length c.take.new.collector.in_hand ≡ length c.self.inside.collector.in_hand + 1 =
    ap length e.taken.in_hand ∙ (omega arith) in
    let same = ap length c.self.invariant.2 in
    let long = numbers_long [] outs.items in
    let places = ap (λ (d : ShelfId StepId). d.tag.door.places) c.deref.ensures in
    let room = c.self.invariant.3 in
    let ok = outs.ok in omega (arith, most, one, same, long, places, room, ok.0)

pub invariant_of-self-2 : goal.invariant_of-self-2
invariant_of-self-2 c =
    let d = arc_value c.self.inside.shared in
    let outs = c.self.inside.outs in
    let out = c.in-Some.out in
    let e = c.in-Some.ensures in
    let is_out = λ (t : ShelfId StepId). IsOut calm any t.tag.kinds t.tag.door out in
    let all = IsOut calm any d.tag.kinds d.tag.door in
    let pushed = c.push_reserved.ensures.items in
    let capacity = c.push_reserved.ensures.capacity in
    let room = c.self.invariant.3 in (
      subst (All all) (sym pushed)
          (All-push all outs.items out c.self.invariant.0 (subst is_out c.deref.ensures e.of.0)),
      c.take.ensures.shelf ∙ c.deref.ensures,
      e.taken.in_hand ∙ (λ i. sym e.of.1 i ∷ c.self.invariant.2 i) ∙ sym (numbers_push [] outs.items out)
          ∙ ap (numbers_onto []) (sym pushed),
      omega (arith, capacity, room),
    )

pub returns : goal.returns
returns c =
    let d = arc_value c.self.inside.shared in
    let out = c.in-Some.out in
    let e = c.in-Some.ensures in
    let is_out = λ (t : ShelfId StepId). IsOut calm any t.tag.kinds t.tag.door out in
    subst (λ (k : KeeperOf).
    Tries c.args.number k (keeper_of d.tag c.push_reserved.new.self.items c.take.new.collector.log)) c.self.view_is
    (found out e.taken.before (λ i. keeper_of d.tag (c.push_reserved.ensures.items i) (e.taken.log i)) e.of.1
    (subst is_out c.deref.ensures e.of.0) e.taken.moment e.taken.present)
