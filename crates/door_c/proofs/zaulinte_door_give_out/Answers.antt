use Rattle.std.proofs.Common.{◌≡◌, Option, Some, refl, sym, ap, ◌∙◌, subst, arith}
use Rattle.c_handle.specs.declared.held.Held as generic
use Rattle.door_place.specs.Places.{NumberIs, PlaceAt}
use Rattle.door_place.specs.Returns.{KeeperOf}
use Rattle.door_c.specs.declared.keeper_slot.KeeperSlot.{KeeperSlot}
use Rattle.door_c.specs.Held.{GaveHeld, gave, refused_by}
use Rattle.door_c.proofs.Numbers.{numbered}
use Rattle.door_c.proofs.zaulinte_door_give_out.Goals as goal

-- the keeper that the call found at the slot
found : {x y : KeeperSlot} {k : Option KeeperOf} → x ≡ y → x.keeper ≡ k → y.keeper ≡ k
found same is = sym (ap (λ (d : KeeperSlot). d.keeper) same) ∙ is

pub returns-clause-given_out : goal.returns-clause-given_out
returns-clause-given_out c = λ _.
    let e = c.put.ensures in
    let k = c.in-Some-keeper.keeper in
    let l = c.give_out.new.self in
    let is = subst (λ (p : PlaceAt). NumberIs p.state c.number-number.result) c.deref.ensures c.number-number.ensures in
    let n = numbered c.in-Ok.ensures.given_out.1 is in
    let slot = c.in-Some.ensures.value.1 ∙ ap (λ (s : generic.Held KeeperSlot). s.handle.value) c.held.ensures.value in (
      e.0,
      subst (λ (p : PlaceAt). GaveHeld c.args.door.now.handle.value.keeper (Some l) p c.number-number.result) (sym e.1)
          (gave k l (found slot c.in-Some-keeper.is) refl c.in-Ok.ensures.door c.in-Ok.ensures.given_out.0
          c.in-Ok.ensures.given_out.1 c.in-Ok.ensures.of n.0 n.1),
    )

pub returns-clause-refused : goal.returns-clause-refused
returns-clause-refused c = λ large.
    let is = subst (λ (p : PlaceAt). NumberIs p.state c.number-number.result) c.deref.ensures c.number-number.ensures in
    let small = (numbered c.in-Ok.ensures.given_out.1 is).1 in absurd (omega (arith, large, small))

pub returns-clause-nothing : goal.returns-clause-nothing
returns-clause-nothing c = λ _ _ large.
    let is = subst (λ (p : PlaceAt). NumberIs p.state c.number-number.result) c.deref.ensures c.number-number.ensures in
    let small = (numbered c.in-Ok.ensures.given_out.1 is).1 in absurd (omega (arith, large, small))

pub returns-in-Err-clause-nothing : goal.returns-in-Err-clause-nothing
returns-in-Err-clause-nothing c = λ _ _ _.
    let slot = c.in-Some.ensures.value.1 ∙ ap (λ (s : generic.Held KeeperSlot). s.handle.value) c.held.ensures.value in
    refused_by c.in-Some-keeper.keeper c.give_out.new.self (found slot c.in-Some-keeper.is) refl c.in-Err.ensures.door
    c.in-Err.ensures.refused
