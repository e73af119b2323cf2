use Rattle.std.proofs.Common.{refl, sym, ap, ◌∙◌}
use Rattle.door_place.specs.Places.{PlaceAt, given_back}
use Rattle.door_place.proofs.place.Place.give_back.Goals as goal

pub returns-clause-gives : goal.returns-clause-gives
returns-clause-gives c =
    given_back c.in-Outside.field-0 (sym (ap (λ (p : PlaceAt). p.state) c.self.view_is) ∙ c.in-Outside.is)
    c.replace.ensures.after refl
