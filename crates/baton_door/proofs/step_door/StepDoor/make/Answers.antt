use Rattle.std.proofs.Common.{◌≡◌, List, [], refl, ap, sym, ◌∙◌, subst}
use Rattle.atomic_table.specs.Seated.{TableId}
use Rattle.hoare_law.specs.Events.{opened}
use Rattle.hoare_law.specs.Sizes.{kinds_of, sizes_of}
use Rattle.hoare_law.specs.declared.event.Sizes.{Sizes}
use Rattle.wait_book.specs.Contents.{Contents, IsOf}
use Rattle.door_frame.specs.declared.view.SeatView.TheVariants.{Places}
use Rattle.door_frame.specs.Views.{all_know}
use Rattle.door_frame.proofs.Opened.{made_outside, stands_for, dealt}
use Rattle.baton_door.proofs.step_door.StepDoor.make.Goals as goal

pub open-requires-clause-book : goal.open-requires-clause-book
open-requires-clause-book g c =
    let made = c.in-Ok-vacant.ensures in
    subst (λ (b : Contents). IsOf b (opened c.in-Ok-vacant.made.0.shared.key tt)) (sym made.guarded.1)
    (subst (λ (z : Sizes). IsOf c.in-Ok.book (opened z tt)) (sym made.table.2) c.in-Ok.ensures.made.1)

pub deal_by_caller-outs-requires-clause-seat : goal.deal_by_caller-outs-requires-clause-seat
deal_by_caller-outs-requires-clause-seat g c =
    let places = ap (λ (z : Sizes). z.places) c.in-Ok-vacant.ensures.table.2 in
    (_, stands_for places _ c.open.ensures.opened)

pub returns-clause-of : goal.returns-clause-of
returns-clause-of g c =
    let D = g.D.MonitorData in
    let made = c.in-Ok-vacant.ensures in
    let key = c.in-Ok-vacant.made.0.shared.key in
    let places = ap (λ (z : Sizes). z.places) made.table.2 in
    let none : ◌≡◌ {A = List TableId} [] [] = refl in
    made_outside D.rest D.ready (kinds_of key.conditions key.mesa) _ _ places
    (dealt places _ _ _ none c.open.ensures.opened c.deal_by_caller-outs.ensures made.guarded.0) c.requires.rest

pub returns-clause-places : goal.returns-clause-places
returns-clause-places g c =
    let made = c.in-Ok-vacant.ensures in
    let z = made.table.2 in
    let key = c.in-Ok-vacant.made.0.shared.key in
    let none : ◌≡◌ {A = List TableId} [] [] = refl in
    let x = c.in-Ok-vacant.made.2.state in
    dealt (ap (λ (z : Sizes). z.places) z) _ _ _ none
    (c.open.ensures.opened ∙ (λ i. (
      Places (all_know 0 key.places
          (opened (sizes_of (z i).conditions (z i).mesa key.places) x)),
      [],
    )))
    c.deal_by_caller-outs.ensures made.guarded.0
