use Rattle.std.proofs.Common.{refl, sym, ap, ◌∙◌, arith}
use mathlib.Core.Option.{none}
use Rattle.atomic_table.specs.Table.{step}
use Rattle.door_frame.proofs.GuardedBoxes.{laid_down}
use Rattle.ticket_door.specs.Asked.{TicketDoorId}
use Rattle.ticket_door.proofs.Serving.{gives_open_at}
use Rattle.ticket_door.proofs.door.RawTicketDoor.open.Goals as goal
use Rattle.hoare_law.specs.Sizes.{kinds_of}

pub fetch_add-ended-requires : goal.fetch_add-ended-requires
fetch_add-ended-requires g c =
    let e = c.requires.event in
    let D = g.D.MonitorData in
    let t = c.self.inside.table.shared in
    let wide = c.self.invariant.words_are in
    let laid = c.put_guarded.ensures.in_slot ∙ laid_down c.args.guarded refl e.1 in (
      c.put_guarded.ensures.table ∙ c.requires.table ∙ ap (λ (d : TicketDoorId). d.door.table) (sym c.self.view_is),
      omega (arith, wide),
      gives_open_at t.key.first t.key.places D.rest D.ready
          (kinds_of D.CONDITIONS D.MESA) _ _ c.args.place e.0 c.args.guarded g.J.PickedEvent.event
          (step t.table_id.slots 0 2 0 none) _ laid e.2,
    )

pub returns-clause-away : goal.returns-clause-away
returns-clause-away g c = λ f is.
    c.fetch_add-ended.ensures.2 c.args.place f c.args.guarded
    (c.put_guarded.ensures.in_slot ∙ laid_down c.args.guarded refl is)
