use Rattle.std.proofs.Common.{◌∷◌, [], None, sym, ap, ◌∙◌, subst}
use mathlib.Core.Option.{none}
use Rattle.atomic_table.specs.Table.{step, Splits}
use Rattle.door_frame.specs.Places.{PlaceId, door_of, place_out}
use Rattle.door_frame.specs.Rule.{TableInvariant}
use Rattle.door_frame.specs.Steps.{SeatState}
use Rattle.door_frame.specs.Views.{knows, places_behind, first_place}
use Rattle.door_frame.proofs.Close.{joins_one}
use Rattle.door_frame.proofs.Meetings.{both_of, has_met, joined, went_first, went_second}
use Rattle.door_frame.proofs.Seats.{place_id_on}
use Rattle.door_frame.proofs.Steps.{learns_at, splits_ok}
use Rattle.door_frame.proofs.meeting.meet.Goals as goal

pub join_seat-requires : goal.join_seat-requires
join_seat-requires g c =
    let D = g.D.MonitorData in
    let W = g.W.Words in
    let t = c.args.table.now.shared in
    let a = c.args.a in
    let b = c.args.b in
    let pa = c.into_parts-seat.ensures in
    let pb = c.into_parts-other.ensures in (
      ap (λ (i : PlaceId). i.table) pa.0 ∙ c.requires.a,
      ap (λ (i : PlaceId). i.table) pb.0 ∙ c.requires.b,
      ap (λ (m : SeatState g.row.D.Denot). m.1) pb.2,
      c.requires.table,
      joins_one (W.initial t.key) (W.words_fit t.key) D.rest D.ready (W.kinds t.key)
          (door_of t.table_id (W.places t.key) []) _ _ _ _ (a ∷ []) b.place b.front
          (ap (λ (m : SeatState g.row.D.Denot). m.0) pa.2) (ap (λ (m : SeatState g.row.D.Denot). m.0) pb.2),
    )

pub load-requires : goal.load-requires
load-requires g c =
    let D = g.D.MonitorData in
    let W = g.W.Words in
    let t = c.args.table.now.shared in
    let pa = c.into_parts-seat.ensures in
    let both = joined c.args.a c.args.b pa.2 c.into_parts-other.ensures.2 c.join_seat.ensures.2 in (
      c.join_seat.ensures.0 ∙ ap (λ (i : PlaceId). i.table) pa.0 ∙ c.requires.a,
      c.requires.table,
      learns_at (W.initial t.key) (W.words_fit t.key) D.rest D.ready (W.kinds t.key) (W.places t.key) _ _
          (both_of c.args.a c.args.b) (step t.table_id.slots 0 0 0 none) _ both,
    )

pub split_seat-cut-requires : goal.split_seat-cut-requires
split_seat-cut-requires g c =
    let D = g.D.MonitorData in
    let W = g.W.Words in
    let t = c.args.table.now.shared in
    let a = c.args.a in
    let b = c.args.b in
    let pa = c.into_parts-seat.ensures in
    let l = c.load.ensures.2 (both_of a b) (joined a b pa.2 c.into_parts-other.ensures.2 c.join_seat.ensures.2) in
    let K = TableInvariant (W.initial t.key) (W.words_fit t.key) D.rest D.ready (W.kinds t.key) (W.places t.key) in (
      c.load.ensures.0 ∙ c.join_seat.ensures.0 ∙ ap (λ (i : PlaceId). i.table) pa.0 ∙ c.requires.a,
      c.requires.table,
      subst (λ (m : SeatState g.row.D.Denot). Splits K c.load.new.seat.id m.0 (places_behind m.0) (first_place m.0))
          (sym l.1.me_is)
          (splits_ok (W.initial t.key) (W.words_fit t.key) D.rest D.ready (W.kinds t.key) (W.places t.key) _ b.place l.0
          (knows a.place l.0 None ∷ []) (l.1.apart.0.0, tt)),
    )

pub of_parts-requires : goal.of_parts-requires
of_parts-requires g c =
    let pa = c.into_parts-seat.ensures in
    let l =
    c.load.ensures.2 (both_of c.args.a c.args.b)
    (joined c.args.a c.args.b pa.2 c.into_parts-other.ensures.2 c.join_seat.ensures.2) in
    (l.0, went_first c.args.a c.args.b pa.1 l.1 c.split_seat-cut.ensures.2)

pub of_parts-requires-2 : goal.of_parts-requires-2
of_parts-requires-2 g c =
    let pa = c.into_parts-seat.ensures in
    let pb = c.into_parts-other.ensures in
    let l = c.load.ensures.2 (both_of c.args.a c.args.b) (joined c.args.a c.args.b pa.2 pb.2 c.join_seat.ensures.2) in
    (l.0, went_second c.args.a c.args.b pb.1 l.1 c.split_seat-cut.ensures.4)

pub returns : goal.returns
returns g c =
    let a = c.args.a in
    let b = c.args.b in
    let pa = c.into_parts-seat.ensures in
    let pb = c.into_parts-other.ensures in
    let at_ = g.S.Parking.at in
    let l = c.load.ensures.2 (both_of a b) (joined a b pa.2 pb.2 c.join_seat.ensures.2) in
    let one = c.of_parts.ensures l.0 (went_first a b pa.1 l.1 c.split_seat-cut.ensures.2) in
    let two = c.of_parts-2.ensures l.0 (went_second a b pb.1 l.1 c.split_seat-cut.ensures.4) in
    let at = c.load.ensures.0 ∙ c.join_seat.ensures.0 in
    let here = ap (λ (i : PlaceId). i.table) pa.0 ∙ c.requires.a in
    let there = ap (λ (i : PlaceId). i.table) pb.0 ∙ c.requires.b in
    let first = place_id_on at_ _ (c.split_seat-cut.ensures.0 ∙ at) ∙ pa.0 in
    let second = place_id_on at_ _ (c.split_seat-cut.ensures.3 ∙ at ∙ here ∙ sym there) ∙ pb.0 in
    let m =
    has_met a b _ _ l.0 l.1 (one ∙ (λ i. place_out (first i) (pa.1 i) l.0)) (two ∙ (λ i. place_out (second i) (pb.1 i) l.0))
    in record { of = m.of; places = m.places; stands = m.stands; met = m.met }
