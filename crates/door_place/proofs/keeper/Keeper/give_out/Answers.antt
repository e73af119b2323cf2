use Rattle.std.proofs.Common.{◌≡◌, [], Some, sym, ap, ◌∙◌, arith}
use Rattle.std.specs.Arc.{arc_value}
use Rattle.std.proofs.lemmas.List.Elements.{All-pop}
use Rattle.shelf.specs.Shelves.{shelf_id, slip_of}
use Rattle.door_frame.specs.Places.{IsOut}
use Rattle.door_place.specs.Places.{PlaceAt}
use Rattle.door_place.specs.Returns.{numbers_onto}
use Rattle.door_place.specs.States.{any, calm}
use Rattle.door_place.proofs.Lists.{numbers_push, same_head, same_tail}
use Rattle.door_place.proofs.keeper.Keeper.give_out.Goals as goal

pub lend-slip-requires-clause-some : goal.lend-slip-requires-clause-some
lend-slip-requires-clause-some c =
    let left = c.pop.new.self.items in
    let out = c.in-Some.out in (
      out.place,
      numbers_onto [] left,
      c.self.invariant.2 ∙ ap (numbers_onto []) c.in-Some.ensures.items ∙ numbers_push [] left out,
    )

pub fill-requires-clause-slip : goal.fill-requires-clause-slip
fill-requires-clause-slip c =
    let left = c.pop.new.self.items in
    let out = c.in-Some.out in
    let e = c.lend-slip.ensures in
    let hand = c.self.invariant.2 ∙ ap (numbers_onto []) c.in-Some.ensures.items ∙ numbers_push [] left out in
    let number : c.lend-slip.result.number ≡ out.place = same_head _ _ _ _ (sym e.lent ∙ hand) in
    let place = c.deref_mut.ensures.value ∙ c.in-Ok.ensures in
    let shelf : c.lend-slip.result.shelf ≡ shelf_id c.deref_mut.result.now.shelf c.deref_mut.result.now.door =
    e.shelf.1 ∙ c.shelf.ensures ∙ c.deref.ensures ∙ sym (ap (λ (p : PlaceAt). shelf_id p.shelf p.door) place) in
    λ i. slip_of (shelf i) (number i)

pub invariant_of-self : goal.invariant_of-self
invariant_of-self c =
    let d = arc_value c.self.inside.shared in
    let left = c.pop.new.self.items in
    let out = c.in-Some.out in
    let e = c.lend-slip.ensures in
    let hand = c.self.invariant.2 ∙ ap (numbers_onto []) c.in-Some.ensures.items ∙ numbers_push [] left out in
    let room = c.self.invariant.3 in
    let capacity = c.pop.ensures.capacity in (
      (All-pop (IsOut calm any d.tag.kinds d.tag.door) c.self.inside.outs.items left (Some out) c.in-Some.ensures.items
          c.self.invariant.0).0,
      e.shelf.0 ∙ c.shelf.ensures ∙ c.deref.ensures,
      same_tail _ _ _ _ (sym e.lent ∙ hand),
      omega (arith, capacity, room),
    )
