use Rattle.std.proofs.Common.{◌<◌, ℕ, List, ap, sym, subst, refl, ◌∙◌}
use Rattle.shelf.specs.Shelves.{ShelfId}
use Rattle.baton_door.specs.StepDoors.{StepId}
use Rattle.door_frame.specs.Places.{HasPlace, PlaceOut}
use Rattle.door_place.specs.Places.{LacksPlace, lacks_place, not_yet}
use Rattle.door_place.specs.Returns.{KeeperOf}
use Rattle.door_place.specs.States.{Carried}
use Rattle.door_place.proofs.keeper.Keeper.close.Goals as goal

pub close-requires-clause-places : goal.close-requires-clause-places
close-requires-clause-places c = λ k below.
    let door = c.into_door.ensures ∙ ap (λ (d : ShelfId StepId). d.tag) c.in-Ok.ensures.ok in
    let places = c.sizes-places.ensures.places
    ∙ ap (λ (d : StepId). d.door.places) (c.door.ensures ∙ ap (λ (d : ShelfId StepId). d.tag) c.deref.ensures ∙ sym door) in
    subst (HasPlace k) c.deref-2.ensures.value
    (c.if-not-has_all.ensures.all refl k (subst (λ (n : ℕ). k < n) (sym places) below))

pub returns-in-Ok-clause-all : goal.returns-in-Ok-clause-all
returns-in-Ok-clause-all c = λ k below.
    let places = c.sizes-places.ensures.places
    ∙ ap (λ (d : StepId). d.door.places) (c.door.ensures ∙ ap (λ (d : ShelfId StepId). d.tag) c.deref.ensures)
    ∙ ap (λ (x : KeeperOf). x.door.door.places) c.self.view_is in
    subst (HasPlace k) (c.deref-2.ensures.value ∙ ap (λ (x : KeeperOf). x.outs) c.self.view_is)
    (c.if-not-has_all.ensures.all refl k (subst (λ (n : ℕ). k < n) (sym places) below))

pub returns-then-not-has_all-clause-refused : goal.returns-then-not-has_all-clause-refused
returns-then-not-has_all-clause-refused c =
    let places = c.sizes-places.ensures.places
    ∙ ap (λ (d : StepId). d.door.places) (c.door.ensures ∙ ap (λ (d : ShelfId StepId). d.tag) c.deref.ensures)
    ∙ ap (λ (x : KeeperOf). x.door.door.places) c.self.view_is in
    let outs = c.deref-2.ensures.value ∙ ap (λ (x : KeeperOf). x.outs) c.self.view_is in
    lacks_place
    (subst (λ (n : ℕ). LacksPlace n c.args.self.outs) places
    (subst (λ (os : List (PlaceOut Carried)). LacksPlace c.sizes-places.result.places os) outs
    (c.if-not-has_all.ensures.lacks refl)))
    refl

pub returns-in-Err-clause-refused : goal.returns-in-Err-clause-refused
returns-in-Err-clause-refused c =
    let places = c.sizes-places.ensures.places
    ∙ ap (λ (d : StepId). d.door.places) (c.door.ensures ∙ ap (λ (d : ShelfId StepId). d.tag) c.deref.ensures)
    ∙ ap (λ (x : KeeperOf). x.door.door.places) c.self.view_is in
    let outs = c.deref-2.ensures.value ∙ ap (λ (x : KeeperOf). x.outs) c.self.view_is in
    not_yet
    (λ k below. subst (HasPlace k) outs
    (c.if-not-has_all.ensures.all refl k (subst (λ (n : ℕ). k < n) (sym places) below)))
    refl
