use Rattle.std.proofs.Common.{◌<◌, length, ap, ◌∙◌, arith}
use Rattle.std.proofs.lemmas.List.{get_or_default}
use Rattle.door_frame.specs.Places.{DoorId, sleeper_at}
use Rattle.baton_door.proofs.door.RawBatonDoor.give_to.Goals as goal

pub returns-clause-woken : goal.returns-clause-woken
returns-clause-woken g c =
    let wakers = c.self.inside.wakers in
    let places = ap (λ (d : DoorId). d.places) c.self.view_is in
    let each = c.self.invariant.each_wakes in
    let counted = wakers.ok.0 in
    let below = c.requires.below in
    let there : c.args.resumed < length wakers.items = omega (arith, places, each, counted, below) in
    c.wake.ensures ∙ c.index.ensures ∙ get_or_default wakers.items c.args.resumed _ _ there
    ∙ ap (λ (d : DoorId). sleeper_at d c.args.resumed) c.self.view_is
