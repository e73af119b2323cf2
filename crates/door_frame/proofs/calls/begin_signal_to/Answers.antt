use Rattle.std.proofs.Common.{refl}
use Rattle.hoare_law.specs.Internal.WithoutData.{dataless}
use Rattle.door_frame.proofs.Releases.{gives_signal_to, handed_to_it, next_signal_to}
use Rattle.door_frame.proofs.Inside.{holds_unpacked, turn_in_hand}
use Rattle.door_frame.proofs.Seats.{place_id_on}
use Rattle.door_frame.proofs.calls.begin_signal_to.Goals as goal

pub signal_to-next-requires-clause-inside : goal.signal_to-next-requires-clause-inside
signal_to-next-requires-clause-inside g c =
    turn_in_hand (holds_unpacked c.deref_mut.ensures.value c.guarded.view_is c.into_parts-seat.ensures c.requires.of)

pub release-requires-clause-event : goal.release-requires-clause-event
release-requires-clause-event g c =
    let h = holds_unpacked c.deref_mut.ensures.value c.guarded.view_is c.into_parts-seat.ensures c.requires.of in
    let waits = (c.if-not-has_waiter.ensures).0 refl in
    gives_signal_to _ _ _ _ h c.requires.hoare waits c.requires.ready
    (c.signal_to-next.ensures.of (dataless c.args.inside.front) h.book) c.signal_to-next.ensures.next

pub of_parts-requires : goal.of_parts-requires
of_parts-requires g c = (_, c.release.ensures.away _ c.into_parts-seat.ensures.seat.0)

pub returns : goal.returns
returns g c =
    let h = holds_unpacked c.deref_mut.ensures.value c.guarded.view_is c.into_parts-seat.ensures c.requires.of in
    let waits = (c.if-not-has_waiter.ensures).0 refl in
    let book = c.signal_to-next.ensures.of (dataless c.args.inside.front) h.book in
    let is = c.of_parts.ensures _ (c.release.ensures.away _ h.me_is) in
    let o = handed_to_it c.args.condition c.args.waiter _ _ h c.requires.hoare waits c.requires.ready
    (place_id_on g.S.Parking.at _ c.release.ensures.table) is in
    record {
      of = o.of;
      place = o.place;
      some = waits;
      front = o.front;
      next = next_signal_to c.args.condition c.args.waiter _ _ _ _ h waits book c.signal_to-next.ensures.next is;
      no_waiter = tt;
      same = tt;
    }
