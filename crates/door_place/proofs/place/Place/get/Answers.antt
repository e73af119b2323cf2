use Rattle.std.proofs.Common.{subst}
use Rattle.door_place.specs.Places.{PlaceAt}
use Rattle.door_place.specs.States.{Gets}
use Rattle.door_place.proofs.place.Place.get.Goals as goal

pub returns : goal.returns
returns c = subst (λ (p : PlaceAt). Gets p.state c.args.value.now c.get.new.value c.get.result) c.self.view_is
    c.get.ensures
