use Rattle.std.proofs.Common.{rules, refl, ap, ◌∙◌}
use Rattle.door_frame.specs.Steps.{SeatState}
use Rattle.door_frame.proofs.GuardedBoxes.{laid_down}
use Rattle.baton_door.proofs.Steps.{begins_at, opens_as}
use Rattle.baton_door.proofs.door.open.Goals as goal

pub compare_exchange-requires : goal.compare_exchange-requires
compare_exchange-requires g c =
    let D = g.D.MonitorData in
    let kinds = g.K.DoorKey.kinds c.args.table.now.shared.key in
    (search rules, search rules, begins_at D.rest D.ready kinds _ _ _ _ c.requires.seat)

pub put_guarded-requires-clause-empty : goal.put_guarded-requires-clause-empty
put_guarded-requires-clause-empty g c =
    (_, c.compare_exchange.ensures.2 _ (ap (λ (m : SeatState g.row.D.Denot). m.0) c.requires.seat))

pub store-requires : goal.store-requires
store-requires g c =
    let D = g.D.MonitorData in
    let begun = c.compare_exchange.ensures.2 _ (ap (λ (m : SeatState g.row.D.Denot). m.0) c.requires.seat) in
    let laid = c.put_guarded.ensures.in_slot ∙ laid_down c.args.guarded refl begun in (
      search rules,
      search rules,
      opens_as D.rest D.ready (g.K.DoorKey.kinds c.args.table.now.shared.key) _ g.J.PickedKinds.kinds c.requires.kinds
          _ _ c.args.guarded _ laid c.requires.rest c.requires.book,
    )

pub returns-clause-opened : goal.returns-clause-opened
returns-clause-opened g c =
    let begun = c.compare_exchange.ensures.2 _ (ap (λ (m : SeatState g.row.D.Denot). m.0) c.requires.seat) in
    let laid = c.put_guarded.ensures.in_slot ∙ laid_down c.args.guarded refl begun in
    c.store.ensures.2 _ c.args.guarded laid
