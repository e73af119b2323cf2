use Rattle.std.proofs.Common.{true, refl}
use Rattle.hoare_law.specs.Internal.WithoutData.{dataless}
use Rattle.hoare_law.specs.Growth.{just_left}
use Rattle.wait_book.proofs.WithData.{none-listed}
use Rattle.door_frame.proofs.Releases.{gives_handing, passed, next_handing}
use Rattle.door_frame.proofs.Inside.{holds_unpacked, turn_in_hand}
use Rattle.door_frame.proofs.Seats.{place_id_on}
use Rattle.door_frame.proofs.calls.signal_leave_to.Goals as goal

pub leave_to-out-requires-clause-rest : goal.leave_to-out-requires-clause-rest
leave_to-out-requires-clause-rest g c = c.requires.rest (none-listed _ c.if-not-queue.ensures.lists)

pub returns-then-not-queue-clause-answer : goal.returns-then-not-queue-clause-answer
returns-then-not-queue-clause-answer g c = c.if-not-queue.ensures.lists

pub returns-then-not-queue-clause-front : goal.returns-then-not-queue-clause-front
returns-then-not-queue-clause-front g c =
    just_left (none-listed _ c.if-not-queue.ensures.front) c.leave_to-out.ensures.front

pub pass-next-requires-clause-inside : goal.pass-next-requires-clause-inside
pass-next-requires-clause-inside g c =
    turn_in_hand (holds_unpacked c.deref_mut.ensures.value c.guarded.view_is c.into_parts-seat.ensures c.requires.of)

pub release-requires-clause-event : goal.release-requires-clause-event
release-requires-clause-event g c =
    let h = holds_unpacked c.deref_mut.ensures.value c.guarded.view_is c.into_parts-seat.ensures c.requires.of in
    let some = (c.if-not-queue.ensures.lists).0 refl in
    gives_handing true _ _ _ h c.requires.hoare some (c.requires.ready some)
    (c.pass-next.ensures.of (dataless c.args.inside.front) h.book) c.pass-next.ensures.next

pub of_parts-requires : goal.of_parts-requires
of_parts-requires g c = (_, c.release.ensures.away _ c.into_parts-seat.ensures.seat.0)

pub returns : goal.returns
returns g c =
    let h = holds_unpacked c.deref_mut.ensures.value c.guarded.view_is c.into_parts-seat.ensures c.requires.of in
    let some = (c.if-not-queue.ensures.lists).0 refl in
    let book = c.pass-next.ensures.of (dataless c.args.inside.front) h.book in
    let is = c.of_parts.ensures _ (c.release.ensures.away _ h.me_is) in
    let o = passed c.args.condition _ _ _ _ h c.requires.hoare some (c.requires.ready some) book
    c.pass-next.ensures.next (place_id_on g.S.Parking.at _ c.release.ensures.table) is in
    record {
      of = o.of;
      place = o.place;
      answer = ((λ _. some), λ _. refl);
      front = o.front;
      next = next_handing true c.args.condition _ _ _ _ h some book c.pass-next.ensures.next is;
    }
