use Rattle.std.proofs.Common.{rules, refl, ap, ◌∙◌}
use Rattle.door_frame.specs.Steps.{SeatState}
use Rattle.door_frame.proofs.GuardedBoxes.{laid_down}
use Rattle.ticket_door.proofs.Opening.{begins_at, opens_at}
use Rattle.ticket_door.proofs.laws.open.Goals as goal
use Rattle.hoare_law.specs.Sizes.{kinds_of}

pub load-requires : goal.load-requires
load-requires g c =
    let D = g.D.MonitorData in
    let key = c.args.table.now.shared.key in (
      search rules,
      search rules,
      begins_at key.first key.places D.rest D.ready
          (kinds_of D.CONDITIONS D.MESA) _ _ _ c.requires.seat,
    )

pub put_guarded-requires-clause-empty : goal.put_guarded-requires-clause-empty
put_guarded-requires-clause-empty g c = (
  _,
  c.load.ensures.2 _ (ap (λ (m : SeatState g.row.D.Denot). m.0)
      c.requires.seat),
)

pub load-requires-2 : goal.load-requires-2
load-requires-2 g c =
    let D = g.D.MonitorData in
    let key = c.args.table.now.shared.key in
    let begun = c.load.ensures.2 _ (ap (λ (m : SeatState g.row.D.Denot). m.0) c.requires.seat) in
    let laid = c.put_guarded.ensures.in_slot ∙ laid_down c.args.guarded refl begun in (
      search rules,
      search rules,
      opens_at key.first key.places D.rest D.ready
          (kinds_of D.CONDITIONS D.MESA) _ _ c.args.guarded _ laid c.requires.rest c.requires.book,
    )

pub returns-clause-opened : goal.returns-clause-opened
returns-clause-opened g c =
    let begun = c.load.ensures.2 _ (ap (λ (m : SeatState g.row.D.Denot). m.0) c.requires.seat) in
    let laid = c.put_guarded.ensures.in_slot ∙ laid_down c.args.guarded refl begun in
    c.load-2.ensures.2 _ c.args.guarded laid
