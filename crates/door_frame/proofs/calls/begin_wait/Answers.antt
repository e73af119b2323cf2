use Rattle.hoare_law.specs.Internal.WithoutData.{dataless}
use Rattle.door_frame.proofs.Releases.{gives_wait, waited, next_wait}
use Rattle.door_frame.proofs.Inside.{holds_unpacked, turn_in_hand}
use Rattle.door_frame.proofs.Seats.{place_id_on}
use Rattle.door_frame.proofs.calls.begin_wait.Goals as goal

pub wait-next-requires-clause-inside : goal.wait-next-requires-clause-inside
wait-next-requires-clause-inside g c =
    turn_in_hand (holds_unpacked c.deref_mut.ensures.value c.guarded.view_is c.into_parts-seat.ensures c.requires.of)

pub release-requires-clause-event : goal.release-requires-clause-event
release-requires-clause-event g c =
    let h = holds_unpacked c.deref_mut.ensures.value c.guarded.view_is c.into_parts-seat.ensures c.requires.of in
    gives_wait _ _ _ _ h c.requires.in_range c.requires.rest
    (c.wait-next.ensures.of (dataless c.args.inside.front) h.book) c.wait-next.ensures.next

pub of_parts-requires : goal.of_parts-requires
of_parts-requires g c = (_, c.release.ensures.away _ c.into_parts-seat.ensures.seat.0)

pub returns : goal.returns
returns g c =
    let h = holds_unpacked c.deref_mut.ensures.value c.guarded.view_is c.into_parts-seat.ensures c.requires.of in
    let is = c.of_parts.ensures _ (c.release.ensures.away _ h.me_is) in
    let o =
    waited c.args.condition c.args.priority _ _ h c.requires.in_range c.requires.rest
    (place_id_on g.S.Parking.at _ c.release.ensures.table) is in
    record {
      of = o.of;
      place = o.place;
      front = o.front;
      next = next_wait c.args.condition c.args.priority _ _ _ _ h
          (c.wait-next.ensures.of (dataless c.args.inside.front) h.book) c.wait-next.ensures.next is;
    }
