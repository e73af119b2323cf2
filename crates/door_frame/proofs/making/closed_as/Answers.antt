use Rattle.std.proofs.Common.{rules, arith, ◌≡◌, ℕ, ◌-◌, List, ◌∷◌, ◌++◌, [], take, Some, IsSome, refl, sym, ap, ◌∙◌}
use Rattle.std.proofs.Common.{subst, append-nil, append_assoc}
use Rattle.std.specs.Prelude.{All}
use Rattle.door_frame.specs.declared.guarded.Guarded.{Guarded}
use Rattle.door_frame.specs.declared.view.SeatView.TheVariants.{Places}
use Rattle.door_frame.specs.Places.{PlaceId, DoorId, HasPlace, PlaceOut, IsOut, door_of}
use Rattle.door_frame.specs.Steps.{SeatState}
use Rattle.door_frame.specs.Views.{both_places}
use Rattle.door_frame.proofs.Close.{All-mid, Ends, ends_all, ends_at, joins_one, known_to}
use Rattle.door_frame.proofs.making.closed_as.Given.{Over}
use Rattle.door_frame.proofs.making.closed_as.Goals as goal
use Rattle.door_frame.proofs.making.closed_as.Goals.{After-take}

pub loop-out-init : goal.loop-out-init
loop-out-init g c =
    let D = g.D.MonitorData in
    let t = c.args.table.shared in
    let d : DoorId = door_of t.table_id (g.W.Words.places t.key) g.J.PickedSleepers.sleepers in
    let o = c.in-Some.first in
    let P = IsOut D.rest D.ready (g.W.Words.kinds t.key) d in
    let mine =
    All-mid P c.pop.new.self.items o []
    (subst (All P) (c.in-Some.ensures.items ∙ sym (append-nil _)) c.requires.of) in (
      ap (λ (b : PlaceId). b.table) (c.into_parts-seat.ensures.0 ∙ mine.of),
      (o ∷ [], c.in-Some.ensures.items, c.into_parts-seat.ensures.2),
    )

pub join_seat-requires : goal.join_seat-requires
join_seat-requires g c =
    let inv = c.loop-out.invariant in
    let D = g.D.MonitorData in
    let t = c.args.table.shared in
    let W = g.W.Words in
    let q = t.key in
    let d : DoorId = door_of t.table_id (W.places q) g.J.PickedSleepers.sleepers in
    let o = c.in-Some-pop.out in
    let P = IsOut D.rest D.ready (W.kinds q) d in
    let left = c.pop-in-loop-out.new.self.items in
    let items : c.args.outs.items ≡ (left ++ o ∷ []) ++ inv.1.0 =
    inv.1.1 ∙ ap (λ (l : List (PlaceOut g.row.D.Denot)). l ++ inv.1.0) c.in-Some-pop.ensures.items in
    let mine = All-mid P left o inv.1.0 (subst (All P) items c.requires.of) in (
      search rules,
      ap (λ (b : PlaceId). b.table) (c.into_parts-other.ensures.0 ∙ mine.of),
      ap (λ (m : SeatState g.row.D.Denot). m.1) c.into_parts-other.ensures.2,
      search rules,
      joins_one (W.initial q) (W.words_fit q) D.rest D.ready (W.kinds q) d _ _ _ _ inv.1.0 o.place o.front
          (ap (λ (m : SeatState g.row.D.Denot). m.0) inv.1.2)
          (ap (λ (m : SeatState g.row.D.Denot). m.0) c.into_parts-other.ensures.2),
    )

pub loop-out-preserved : goal.loop-out-preserved
loop-out-preserved g c =
    let inv = c.loop-out.invariant in
    let o = c.in-Some-pop.out in
    let left = c.pop-in-loop-out.new.self.items in
    let items : c.args.outs.items ≡ (left ++ o ∷ []) ++ inv.1.0 =
    inv.1.1 ∙ ap (λ (l : List (PlaceOut g.row.D.Denot)). l ++ inv.1.0) c.in-Some-pop.ensures.items in
    let both : c.join_seat.new.seat.me ≡ (Places (known_to (o ∷ inv.1.0)), []) =
    c.join_seat.ensures.2 ∙ (λ i. (both_places (inv.1.2 i).0 (c.into_parts-other.ensures.2 i).0, (inv.1.2 i).1)) in
    (c.join_seat.ensures.0 ∙ inv.0, (o ∷ inv.1.0, items ∙ append_assoc left (o ∷ []) inv.1.0, both))

none_left : {A : Type 0} (n : ℕ) (l new : List A) → l ≡ new ++ [] → n ≡ 0 → new ≡ take (n - 1) l → l ≡ []
none_left n l new items none rest =
    let z : n - 1 ≡ 0 = omega arith in items ∙ (append-nil new ∙ (rest ∙ ap (λ (m : ℕ). take m l) z))

pub unreachable-requires : goal.unreachable-requires
unreachable-requires g c =
    let p = c.in_default.ensures in
    subst (λ (os : List (PlaceOut g.row.D.Denot)). HasPlace 0 os) (none_left _ _ _ p.items p.cases.0 p.rest)
    (c.requires.places 0 c.requires.table.2)

-- what is taken from the slot at the end
ended : (g : Over) (c : After-take g) → let D = g.D.MonitorData in let t = c.args.table.shared in
    (l : Guarded g.row.D.Denot) × (c.take.result ≡ Some l)
    × Ends D.rest D.ready (g.W.Words.kinds t.key)
    (door_of t.table_id (g.W.Words.places t.key) g.J.PickedSleepers.sleepers) c.args.outs.items l
ended g c =
    let inv = c.loop-out.invariant in
    let p = c.in_default-pop.ensures in
    let q = c.args.table.shared.key in
    ends_all (g.W.Words.initial q) (g.W.Words.words_fit q) _ _ _ _ _ _ inv.1.0 inv.1.1
    (none_left _ _ _ p.items p.cases.0 p.rest) (ap (λ (m : SeatState g.row.D.Denot). m.0) inv.1.2) c.requires.of
    c.requires.places c.close_with-closed.ensures.values.2 c.take.ensures.value

pub unwrap-guarded-requires : goal.unwrap-guarded-requires
unwrap-guarded-requires g c = subst IsSome (sym (ended g c).1) refl

pub returns : goal.returns
returns g c =
    let fin = ended g (goal.at.returns g c).After-take in
    let e = ends_at fin.2 (sym fin.1 ∙ c.unwrap-guarded.ensures) (sym c.into_data.ensures) in
    record { closes = e.0; rest = e.1 }
