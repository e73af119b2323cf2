use Rattle.std.proofs.Common.{rules, ◌≡◌, ◌+◌, ◌-◌, ◌∷◌, [], ◌++◌, sym, ap, ◌∙◌, subst, arith, ℕ}
use Rattle.atomic_table.specs.Table.{Splits}
use Rattle.door_frame.specs.declared.view.SeatView.{SeatView}
use Rattle.door_frame.specs.declared.view.SeatView.TheVariants.{Places}
use Rattle.door_frame.specs.Places.{place_id, place_id_at, door_of, place_out}
use Rattle.door_frame.specs.Rule.{TableInvariant}
use Rattle.door_frame.specs.Steps.{SeatState}
use Rattle.door_frame.specs.Views.{all_know, places_behind, first_place}
use Rattle.door_frame.proofs.Steps.{deals_ok}
use Rattle.door_frame.proofs.Seats.{cut_off}
use Rattle.door_frame.proofs.Views.{places_and}
use Rattle.door_frame.proofs.making.deal_by_caller.Goals as goal

pub split_seat-cut-requires : goal.split_seat-cut-requires
split_seat-cut-requires g c =
    let all = c.requires.seat in
    let me = (c.loop-place.invariant.1 all.0 all.1).0 in
    let D = g.D.MonitorData in
    let W = g.W.Words in
    let q = c.args.table.now.shared.key in
    let K = TableInvariant (W.initial q) (W.words_fit q) D.rest D.ready (W.kinds q) (W.places q) in (
      search rules,
      search rules,
      subst (λ (v : SeatView g.row.D.Denot). Splits K c.loop-place.seat.id v (places_behind v) (first_place v))
          (sym (ap (λ (m : SeatState g.row.D.Denot). m.0) me))
          (deals_ok (W.initial q) (W.words_fit q) D.rest D.ready (W.kinds q) _ _ c.loop-place.place
          (c.args.places - c.loop-place.place) all.0
          (omega (arith, c.loop-place-test.true))),
    )

pub of_parts-requires : goal.of_parts-requires
of_parts-requires g c =
    let all = c.requires.seat in
    let k = c.loop-place.place in (
      all.0,
      (cut_off k (c.args.places - k) all.0 (omega (arith, c.loop-place-test.true))
          (c.loop-place.invariant.1 all.0 all.1).0
          c.split_seat-cut.ensures.4 c.split_seat-cut.ensures.2).0,
    )

pub loop-place-preserved : goal.loop-place-preserved
loop-place-preserved g c =
    let inv = c.loop-place.invariant in
    let k = c.loop-place.place in
    let less : (c.args.places - k) - 1 ≡ c.args.places - (k + 1) = omega (arith, c.loop-place-test.true) in
    let z = c.args.table.now.shared.table_id in
    let table : c.split_seat-cut.result.table_id ≡ z = c.split_seat-cut.ensures.3 ∙ inv.0 in
    let y = c.split_seat-cut.result.table_id in
    let d = door_of z c.args.places [] in
    let here : place_id y y ≡ place_id_at d k = (λ i. place_id (table i) (table i)) in (
      c.split_seat-cut.ensures.0 ∙ inv.0,
      (λ f is.
          let m = inv.1 f is in
          let cut =
          cut_off k (c.args.places - k) f
          (omega (arith, c.loop-place-test.true)) m.0 c.split_seat-cut.ensures.4 c.split_seat-cut.ensures.2 in (
            cut.1 ∙ ap (λ (n : ℕ). (Places (all_know (k + 1) n f), [])) less,
            c.push_reserved.ensures.items
                ∙ ap (λ o. c.loop-place.outs.items ++ o ∷ []) (c.of_parts.ensures f cut.0)
                ∙ ap (λ os. os ++ place_out (place_id y y) k f ∷ []) m.1
                ∙ places_and d k _ f here,
          )),
      search rules,
      search rules,
    )
