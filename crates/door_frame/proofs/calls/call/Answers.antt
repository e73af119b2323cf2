use Rattle.std.proofs.Common.{ap, refl, subst}
use Rattle.hoare_law.specs.Internal.WithoutData.{dataless}
use Rattle.door_frame.specs.declared.guarded.Guarded.{Guarded}
use Rattle.door_frame.specs.Notifications.{IsCounted, called_on}
use Rattle.door_frame.specs.Seats.{IsInside}
use Rattle.door_frame.specs.Views.{front_of}
use Rattle.door_frame.proofs.Inside.{holds, turn_in_hand, book_in_hand, listed_in_hand}
use Rattle.door_frame.proofs.Notifications.{notes_notification, book_follows, noted}
use Rattle.door_frame.proofs.Seats.{is_alone-seat, at_front, place_id_on}
use Rattle.door_frame.proofs.GuardedBoxes.{unpacked}
use Rattle.door_frame.proofs.calls.call.Goals as goal

pub note-requires-clause-event : goal.note-requires-clause-event
note-requires-clause-event g c =
    let h = holds refl c.inside.view_is c.inside.invariant c.requires.of in
    (_, h.me_is, notes_notification c.args.notification h c.requires.mesa c.requires.some)

pub book_calls-requires-clause-inside : goal.book_calls-requires-clause-inside
book_calls-requires-clause-inside g c =
    let same = unpacked c.deref_mut.ensures.value c.guarded.view_is in
    turn_in_hand (holds same c.inside.view_is c.inside.invariant c.requires.of)

pub invariant_of-inside-inside : goal.invariant_of-inside-inside
invariant_of-inside-inside g c = (is_alone-seat _ _ _ _ (c.note.ensures.stays _ c.inside.invariant.0), tt)

pub invariant_of-inside : goal.invariant_of-inside
invariant_of-inside g c =
    let f = front_of c.inside.inside.seat.me.0 c.inside.inside.alone in
    let h = holds refl c.inside.view_is c.inside.invariant c.requires.of in
    let now = c.note.ensures.stays _ c.inside.invariant.0 in
    let same = unpacked c.deref_mut.ensures.value c.guarded.view_is in
    let book = book_in_hand (ap (λ (w : Guarded g.row.D.Denot). w.book) same) c.inside.invariant in
    at_front (λ h. IsInside c.inside.inside.place h c.note.new.seat.me c.book_calls.new.book) _ _ _ _ _ now
    (now, book_follows c.args.notification _ h c.requires.some (c.book_calls.ensures.of (dataless f) book))

pub returns : goal.returns
returns g c =
    let h = holds refl c.inside.view_is c.inside.invariant c.requires.of in
    let same = unpacked c.deref_mut.ensures.value c.guarded.view_is in
    let notes = notes_notification c.args.notification h c.requires.mesa c.requires.some in
    record {
      noted = noted c.args.notification _ h notes (place_id_on g.S.Parking.at _ c.note.ensures.table)
          (ap (λ (w : Guarded g.row.D.Denot). w.state) same) (c.note.ensures.stays _ c.inside.invariant.0);
      answer = subst (λ q. IsCounted c.args.notification (q (called_on c.args.notification)) c.book_calls.result)
          (listed_in_hand (ap (λ (w : Guarded g.row.D.Denot). w.book) same) c.inside.invariant c.inside.view_is)
          c.book_calls.ensures.answer;
    }
