use Rattle.std.proofs.Common.{ap, sym, ◌∙◌, subst}
use Rattle.hoare_law.specs.Internal.WithoutData.{dataless}
use Rattle.hoare_law.specs.Events.{with_event}
use Rattle.hoare_law.proofs.Legal.{IsLegal-last}
use Rattle.wait_book.specs.Contents.{IsOf, next_of}
use Rattle.wait_book.proofs.WithData.{turn-history}
use Rattle.door_frame.specs.declared.guarded.Guarded.{Guarded}
use Rattle.door_frame.specs.Places.{place_id, place_in}
use Rattle.door_frame.specs.Steps.{due}
use Rattle.door_frame.proofs.Arrivals.{came_as, is_due_by}
use Rattle.door_frame.proofs.GuardedBoxes.{unpacked}
use Rattle.door_frame.proofs.calls.return_with.Goals as goal

pub claim-requires : goal.claim-requires
claim-requires g c =
    let D = g.D.MonitorData in
    let f = c.requires.entered_by.0 in
    let in_ = came_as (unpacked c.deref_mut.ensures.value c.guarded.view_is) c.requires.entered_by.1 in
    let back =
    is_due_by c.args.place in_.log f c.deref_mut.result.now.contents.book _ (IsLegal-last in_.log _ in_.stands.legal) in
    ap next_of (turn-history _ in_.log in_.book) ∙ back.turn_is

pub of_parts-requires : goal.of_parts-requires
of_parts-requires g c =
    let in_ = came_as (unpacked c.deref_mut.ensures.value c.guarded.view_is) c.requires.entered_by.1 in
    let f = c.requires.entered_by.0 in
    let back = is_due_by c.args.place in_.log f c.claim.new.self _ (IsLegal-last in_.log _ in_.stands.legal) in
    (_, (in_.me_is, back.settles (c.claim.ensures.of (dataless in_.log) in_.book)))

pub returns : goal.returns
returns g c = λ f came.
    let same = unpacked c.deref_mut.ensures.value c.guarded.view_is in
    let k = c.args.place in
    let now = with_event came.log (due k f c.args.guarded.state) in
    let back = is_due_by k came.log f c.claim.new.self _ (IsLegal-last came.log _ came.stands.legal) in
    let held = subst (λ (w : Guarded g.row.D.Denot). IsOf w.book (dataless came.log)) (sym same) came.book in
    c.of_parts.ensures now (came.me_is, back.settles (c.claim.ensures.of (dataless came.log) held))
    ∙ ap (λ (w : Guarded g.row.D.Denot). place_in (place_id c.args.seat.table_id (g.S.Parking.at c.args.seat.table_id
    c.args.sleeper)) k now w.state) same
