use Rattle.std.proofs.Common.{◌≡◌, ◌≢◌, ℕ, refl, ap, ◌∙◌, subst, arith}
use Rattle.c_handle.specs.declared.held.Held as generic
use Rattle.door_frame.specs.Places.{PlaceOut}
use Rattle.door_place.specs.Places.{GivesBack, PlaceAt, given_back, not_outside}
use Rattle.door_place.specs.States.{Carried}
use Rattle.door_place.specs.declared.state.State.{State}
use Rattle.door_place.specs.declared.state.State.TheVariants.{Outside}
use Rattle.door_c.specs.Held.{GivenBack, refused_as}
use Rattle.door_c.specs.Held as held
use Rattle.door_c.proofs.zaulinte_door_give_back.Goals as goal

-- a place that wasn't given back is as it was
unchanged : {old new : State} {code : ℕ} → GivesBack old new code → code ≢ 0 → (new ≡ old) × GivesBack old old code
unchanged (given_back o is gone done) apart = absurd (apart done)
unchanged (not_outside out same code) apart = (same, not_outside out refl code)

pub returns-then-code-ne-DONE-clause-given : goal.returns-then-code-ne-DONE-clause-given
returns-then-code-ne-DONE-clause-given c = λ live.
    let was = c.in-Some.ensures.value.1 ∙ ap (λ (s : generic.Held PlaceAt). s.handle.value) c.held.ensures.value in
    let e = unchanged c.give_back-code.ensures.gives c.if-code-ne-DONE.true in
    let same : c.give_back-code.new.self ≡ c.in-Some.lent.now =
    (λ i. record {
      door = c.give_back-code.ensures.door i;
      shelf = c.give_back-code.ensures.shelf i;
      state = e.0 i;
    }) in
    refused_as (record { live_is = c.in-Some.ensures.value.0; same = same ∙ was })
    (subst (λ (p : PlaceAt). GivesBack p.state p.state c.give_back-code.result) was e.1)

-- a place that was given back was outside
was_outside : {old new : State} {code : ℕ} → GivesBack old new code → code ≡ 0
    → (o : PlaceOut Carried) × (old ≡ Outside o)
was_outside (given_back o is gone done) zero = (o, is)
was_outside (not_outside out same code) zero = absurd (omega (arith, code, zero))

pub returns-in-Some-take-clause-given : goal.returns-in-Some-take-clause-given
returns-in-Some-take-clause-given c = λ live.
    let was = c.in-Some.ensures.value.1 ∙ ap (λ (s : generic.Held PlaceAt). s.handle.value) c.held.ensures.value in
    let gives = subst (λ (p : PlaceAt). GivesBack p.state c.give_back-code.new.self.state c.give_back-code.result) was
    c.give_back-code.ensures.gives in
    let o = was_outside gives c.if-code-ne-DONE.false in held.given_back o.0 o.1 c.take.ensures.empty refl
