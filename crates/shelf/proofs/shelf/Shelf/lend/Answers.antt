use Rattle.std.proofs.Common.{◌≡◌, ℕ, List, ◌∷◌, sym, ap, ◌∙◌, subst, arith}
use Rattle.atomic_table.specs.Table.{Splits}
use Rattle.shelf.specs.declared.view.View.{View}
use Rattle.shelf.specs.declared.view.Role.TheVariants.{Keeps}
use Rattle.shelf.specs.Rule.{ShelfInvariant}
use Rattle.shelf.specs.Shelves.{CollectorOf, ShelfId}
use Rattle.shelf.specs.Steps.{SeatState}
use Rattle.shelf.specs.Views.{AreNumbers, behind_first, first_lent, seen, log_of, in_hand}
use Rattle.shelf.proofs.Steps.{splits_ok}
use Rattle.shelf.proofs.shelf.Shelf.lend.Goals as goal

pub split_seat-seat-requires : goal.split_seat-seat-requires
split_seat-seat-requires g c =
    let z = c.self.inside.table.shared in
    let seat = c.collector.inside.seat in
    let fits = g.T.Shelved.fits z.key in
    let n = g.T.Shelved.spots z.key in
    let some = c.requires.some in
    let table : seat.table_id ≡ z.table_id =
    ap (λ (o : CollectorOf g.row.T.Denot g.row.T-Tag.Denot). o.shelf.table) c.collector.view_is
    ∙ ap (λ (o : ShelfId g.row.T-Tag.Denot). o.table) (c.requires.shelf ∙ sym c.self.view_is) in
    let hand : in_hand seat.me.0.role ≡ some.0 ∷ some.1 =
    ap (λ (o : CollectorOf g.row.T.Denot g.row.T-Tag.Denot). o.in_hand) c.collector.view_is ∙ some.2 in
    let numbers = subst (AreNumbers seat.table_id.slots) hand c.collector.invariant.1 in
    let view : seat.me.0 ≡ seen seat.me.0.tag (Keeps (log_of seat.me.0.role) (some.0 ∷ some.1)) =
    ap (λ (m : SeatState g.row.T.Denot g.row.T-Tag.Denot). m.0) c.collector.invariant.0
    ∙ ap (λ (ks : List ℕ). seen seat.me.0.tag (Keeps (log_of seat.me.0.role) ks)) hand in
    let few = numbers.0.0 in
    let slots : seat.table_id.slots ≡ n = ap (λ t. t.slots) table ∙ c.self.invariant.1 in
    let words = c.self.invariant.0 in (
      table,
      omega (arith, few, slots, words),
      subst (λ (v : View g.row.T.Denot g.row.T-Tag.Denot).
          Splits (ShelfInvariant z.key n fits) seat.id v (behind_first v) (first_lent v)) (sym view)
          (splits_ok z.key n fits seat.id seat.me.0.tag (log_of seat.me.0.role) some.0 some.1),
    )
