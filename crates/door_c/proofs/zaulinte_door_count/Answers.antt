use Rattle.std.proofs.Common.{ap, ◌∙◌, subst}
use Rattle.c_handle.specs.declared.held.Held as generic
use Rattle.door_place.specs.Places.{PlaceAt}
use Rattle.door_place.specs.States.{Counts}
use Rattle.door_c.proofs.zaulinte_door_count.Goals as goal

pub returns-clause-asked : goal.returns-clause-asked
returns-clause-asked c = λ live.
    let same = c.in-Some.ensures.value.1 ∙ ap (λ (s : generic.Held PlaceAt). s.handle.value) c.held.ensures.value in (
      record { live_is = c.in-Some.ensures.value.0; same = same },
      subst (λ (p : PlaceAt). Counts p.door p.state c.args.condition c.count.result) same c.count.ensures,
    )
