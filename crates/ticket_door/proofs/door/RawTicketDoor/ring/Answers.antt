use Rattle.std.proofs.Common.{◌<◌, length, refl, sym, ap, ◌∙◌, arith}
use Rattle.std.proofs.lemmas.List.{get_or_default}
use Rattle.door_frame.proofs.GuardedBoxes.{laid_down}
use Rattle.door_frame.specs.Places.{sleeper_at}
use Rattle.ticket_door.specs.Asked.{TicketDoorId}
use Rattle.ticket_door.proofs.Ringing.{gives_ring_at}
use Rattle.ticket_door.proofs.door.RawTicketDoor.ring.Goals as goal
use Rattle.hoare_law.specs.Sizes.{kinds_of}

pub bell_of-requires : goal.bell_of-requires
bell_of-requires g c =
    let below = c.requires.below in
    let places = ap (λ (d : TicketDoorId). d.door.places) c.self.view_is in
    let most = c.self.invariant.most in
    omega (arith, below, places, most)

pub store-requires : goal.store-requires
store-requires g c =
    let e = c.requires.event in
    let D = g.D.MonitorData in
    let t = c.self.inside.table.shared in
    let j = c.args.resumed in
    let wide = c.self.invariant.words_are in
    let places = ap (λ (d : TicketDoorId). d.door.places) c.self.view_is in
    let asked = c.requires.below in
    let below : j < t.key.places = omega (arith, asked, places) in
    let laid = c.put_guarded.ensures.in_slot ∙ laid_down c.args.guarded refl e.1 in (
      c.put_guarded.ensures.table ∙ c.requires.table ∙ ap (λ (d : TicketDoorId). d.door.table) (sym c.self.view_is),
      omega (arith, wide, below, c.bell_of.ensures),
      gives_ring_at t.key.first t.key.places D.rest D.ready
          (kinds_of D.CONDITIONS D.MESA) _ _ c.args.place j e.0 c.args.guarded g.J.PickedEvent.event _
          _ below laid e.2 c.bell_of.ensures,
    )

-- the bell is rung before the place is woken

pub wake-requires : goal.wake-requires
wake-requires g c =
    let e = c.requires.event in record {
      given_up = (
        c.args.place,
        _,
        c.store.ensures.2 c.args.place e.0 c.args.guarded
            (c.put_guarded.ensures.in_slot ∙ laid_down c.args.guarded refl e.1),
        e.2.given_up,
      );
    }

pub returns-clause-away : goal.returns-clause-away
returns-clause-away g c = λ f is.
    c.store.ensures.2 c.args.place f c.args.guarded
    (c.put_guarded.ensures.in_slot ∙ laid_down c.args.guarded refl is)

pub returns-clause-woken : goal.returns-clause-woken
returns-clause-woken g c =
    let wakers = c.self.inside.wakers in
    let places = ap (λ (d : TicketDoorId). d.door.places) c.self.view_is in
    let each = c.self.invariant.each_wakes in
    let counted = wakers.ok.0 in
    let below = c.requires.below in
    let there : c.args.resumed < length wakers.items = omega (arith, places, each, counted, below) in
    c.wake.ensures ∙ c.index.ensures ∙ get_or_default wakers.items c.args.resumed _ _ there
    ∙ ap (λ (d : TicketDoorId). sleeper_at d.door c.args.resumed) c.self.view_is
