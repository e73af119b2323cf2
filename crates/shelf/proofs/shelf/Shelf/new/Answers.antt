use Rattle.std.proofs.Common.{ℕ, List, [], Option, length, sym, ap, ◌∙◌, subst, replicate, None}
use Rattle.std.proofs.lemmas.List.{length-replicate}
use Rattle.atomic_table.specs.Seated.{TableId}
use Rattle.atomic_table.specs.Table.{opening}
use Rattle.shelf.specs.Rule.{ShelfInvariant, all_in_hand}
use Rattle.shelf.specs.Views.{AreNumbers, numbers_below}
use Rattle.shelf.proofs.Lists.{numbers_are}
use Rattle.shelf.proofs.Seats.{is_collecting}
use Rattle.shelf.proofs.Steps.{opens_ok}
use Rattle.shelf.proofs.shelf.Shelf.new.Goals as goal

pub new-requires : goal.new-requires
new-requires g c =
    let tag = c.args.tag.now in
    let n = g.T.Shelved.spots tag in
    let fits = g.T.Shelved.fits tag in
    let words = c.as_slice.ensures.value ∙ c.in_ok-words.ensures in
    let slots = c.in_ok-slots.ensures in
    subst (λ (z : List ℕ × List (Option g.row.T.Denot)). ShelfInvariant tag n fits (opening z.0 z.1 (all_in_hand tag n)))
    (λ i. (sym words i, sym slots i))
    (subst (λ (m : ℕ).
    ShelfInvariant tag n fits (opening (replicate m 1) (replicate m None) (all_in_hand tag n))) (sym c.requires)
    (opens_ok tag n fits))

pub invariant_of-result-in-Ok : goal.invariant_of-result-in-Ok
invariant_of-result-in-Ok g c =
    let e = c.in-Ok.ensures.ok in
    let tag = c.args.tag.now in
    let n = g.T.Shelved.spots tag in
    let slots = ap length c.in_ok-slots.ensures ∙ length-replicate c.args.spots None in
    is_collecting c.in-Ok.seat.table_id.slots c.in-Ok.seat.me tag [] (numbers_below n) e.4
    (subst (λ (m : ℕ). AreNumbers m (numbers_below n))
    (sym (ap (λ (z : TableId). z.slots) e.2 ∙ e.1 ∙ slots ∙ c.requires)) (numbers_are n))
