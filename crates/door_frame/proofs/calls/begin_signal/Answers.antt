use Rattle.std.proofs.Common.{false, refl}
use Rattle.hoare_law.specs.Internal.WithoutData.{dataless}
use Rattle.wait_book.proofs.WithData.{none-listed}
use Rattle.door_frame.proofs.Releases.{gives_handing, handed_over, next_handing}
use Rattle.door_frame.proofs.Inside.{holds_unpacked, turn_in_hand}
use Rattle.door_frame.proofs.Seats.{place_id_on}
use Rattle.door_frame.proofs.calls.begin_signal.Goals as goal

pub signal-next-requires-clause-inside : goal.signal-next-requires-clause-inside
signal-next-requires-clause-inside g c =
    turn_in_hand (holds_unpacked c.deref_mut.ensures.value c.guarded.view_is c.into_parts-seat.ensures c.requires.of)

pub release-requires-clause-event : goal.release-requires-clause-event
release-requires-clause-event g c =
    let h = holds_unpacked c.deref_mut.ensures.value c.guarded.view_is c.into_parts-seat.ensures c.requires.of in
    let some = (c.if-not-queue.ensures.lists).0 refl in
    gives_handing false _ _ _ h c.requires.hoare some (c.requires.ready some)
    (c.signal-next.ensures.of (dataless c.args.inside.front) h.book) c.signal-next.ensures.next

pub of_parts-requires : goal.of_parts-requires
of_parts-requires g c = (_, c.release.ensures.away _ c.into_parts-seat.ensures.seat.0)

pub returns : goal.returns
returns g c =
    let h = holds_unpacked c.deref_mut.ensures.value c.guarded.view_is c.into_parts-seat.ensures c.requires.of in
    let some = (c.if-not-queue.ensures.lists).0 refl in
    let book = c.signal-next.ensures.of (dataless c.args.inside.front) h.book in
    let is = c.of_parts.ensures _ (c.release.ensures.away _ h.me_is) in
    let o = handed_over c.args.condition _ _ _ _ h c.requires.hoare some (c.requires.ready some) book
    c.signal-next.ensures.next (place_id_on g.S.Parking.at _ c.release.ensures.table) is in
    record {
      of = o.of;
      place = o.place;
      some = some;
      front = o.front;
      next = next_handing false c.args.condition _ _ _ _ h some book c.signal-next.ensures.next is;
      nobody = tt;
      same = tt;
    }

pub returns-then-not-queue-clause-nobody : goal.returns-then-not-queue-clause-nobody
returns-then-not-queue-clause-nobody g c = none-listed _ c.if-not-queue.ensures.lists
