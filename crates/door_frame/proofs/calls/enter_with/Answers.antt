use Rattle.std.proofs.Common.{◌<◌, ap, sym, ◌∙◌, subst}
use Rattle.hoare_law.specs.declared.event.Sizes.{Sizes}
use Rattle.hoare_law.specs.declared.event.Event.TheVariants.{Admit}
use Rattle.hoare_law.specs.Internal.WithoutData.{dataless}
use Rattle.hoare_law.specs.Events.{with_event}
use Rattle.hoare_law.proofs.Legal.{IsLegal-last}
use Rattle.wait_book.specs.Contents.{IsOf}
use Rattle.wait_book.proofs.WithData.{turn-history, times_in-outside, IsOf-event}
use Rattle.door_frame.specs.declared.guarded.Guarded.{Guarded}
use Rattle.door_frame.specs.Places.{place_id, place_in}
use Rattle.door_frame.proofs.Arrivals.{came_as}
use Rattle.door_frame.proofs.GuardedBoxes.{unpacked}
use Rattle.door_frame.proofs.calls.enter_with.Goals as goal

pub admit-requires-clause-free : goal.admit-requires-clause-free
admit-requires-clause-free g c =
    let D = g.D.MonitorData in
    let in_ = came_as (unpacked c.deref_mut.ensures.value c.guarded.view_is) c.requires.entered_by.1 in
    turn-history _ in_.log in_.book ∙ (IsLegal-last in_.log _ in_.stands.legal).fits.0

pub admit-requires-clause-place : goal.admit-requires-clause-place
admit-requires-clause-place g c =
    let D = g.D.MonitorData in
    let in_ = came_as (unpacked c.deref_mut.ensures.value c.guarded.view_is) c.requires.entered_by.1 in
    subst (λ (n : Sizes). c.args.place < n.places) in_.book.sizes (IsLegal-last in_.log _ in_.stands.legal).in_range.0

pub admit-requires-clause-outside : goal.admit-requires-clause-outside
admit-requires-clause-outside g c =
    let D = g.D.MonitorData in
    let in_ = came_as (unpacked c.deref_mut.ensures.value c.guarded.view_is) c.requires.entered_by.1 in
    times_in-outside _ in_.log _ in_.book (IsLegal-last in_.log _ in_.stands.legal).fits.1

pub of_parts-requires : goal.of_parts-requires
of_parts-requires g c =
    let in_ = came_as (unpacked c.deref_mut.ensures.value c.guarded.view_is) c.requires.entered_by.1 in (
      _,
      (
        in_.me_is,
        IsOf-event _ in_.log (Admit c.args.place c.deref_mut.result.now.contents.state)
            (c.admit.ensures.of (dataless in_.log) in_.book),
      ),
    )

pub returns : goal.returns
returns g c = λ f came.
    let same = unpacked c.deref_mut.ensures.value c.guarded.view_is in
    let k = c.args.place in
    let e = Admit k c.args.guarded.state in
    let held = subst (λ (w : Guarded g.row.D.Denot). IsOf w.book (dataless came.log)) (sym same) came.book in
    c.of_parts.ensures (with_event came.log e)
    (came.me_is, IsOf-event _ came.log e (c.admit.ensures.of (dataless came.log) held))
    ∙ ap
    (λ (w : Guarded g.row.D.Denot).
    place_in (place_id c.args.seat.table_id (g.S.Parking.at c.args.seat.table_id c.args.sleeper)) k (with_event
    came.log e) w.state) same
