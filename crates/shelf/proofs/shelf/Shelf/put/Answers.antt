use Rattle.std.proofs.Common.{◌≡◌, [], ◌∷◌, Some, None, refl, sym, ap, ◌∙◌, subst, arith}
use mathlib.Core.Option.{none}
use Rattle.atomic_table.specs.Seated.{TableId}
use Rattle.atomic_table.specs.Table.{Allows, rest, step}
use Rattle.shelf.specs.declared.view.Role.TheVariants.{Puts}
use Rattle.shelf.specs.Rule.{ShelfInvariant}
use Rattle.shelf.specs.Shelves.{ShelfId, SlipOf}
use Rattle.shelf.specs.Steps.{SeatState, puts, reserves}
use Rattle.shelf.specs.Views.{seen}
use Rattle.shelf.proofs.Seats.{lent_as, same_table, slot_has}
use Rattle.shelf.proofs.Steps.{puts_ok, reserves_ok}
use Rattle.shelf.proofs.shelf.Shelf.put.Goals as goal

pub load-requires : goal.load-requires
load-requires g c =
    let z = c.self.inside.table.shared in
    let seat = c.slip.inside.seat in
    let k = c.args.number in
    let fits = g.T.Shelved.fits z.key in
    let n = g.T.Shelved.spots z.key in
    let table = same_table _ _ _ _ _ _ _ c.slip.view_is c.self.view_is c.requires.shelf in
    let number = ap (λ (o : SlipOf g.row.T-Tag.Denot). o.number) c.slip.view_is ∙ c.requires.number in
    let me = lent_as seat.me _ _ k c.slip.view_is c.requires.number c.slip.invariant.0 in
    let few = c.slip.invariant.1 in
    let slots = ap (λ (t : TableId). t.slots) table ∙ c.self.invariant.1 in
    let words = c.self.invariant.0 in
    let st = step z.table_id.slots k 0 0 none in (
      table,
      omega (arith, few, number, slots, words),
      subst (λ (m : SeatState g.row.T.Denot g.row.T-Tag.Denot).
          Allows (ShelfInvariant z.key n fits) z.table_id.slots seat.id m k (λ w. w) (reserves st m)) (sym me)
          (reserves_ok z.key n fits z.table_id.slots seat.id k seat.me.0.tag st),
    )

pub exchange-old-requires : goal.exchange-old-requires
exchange-old-requires g c =
    let k = c.args.number in
    let me = lent_as c.slip.inside.seat.me _ _ k c.slip.view_is c.requires.number c.slip.invariant.0 in
    let table = same_table _ _ _ _ _ _ _ c.slip.view_is c.self.view_is c.requires.shelf in
    let loaded = c.load.ensures.2 _ k me in (
      c.load.ensures.0 ∙ table,
      (
        None,
        subst (λ (m : SeatState g.row.T.Denot g.row.T-Tag.Denot). m.1 ≡ (k, None) ∷ rest m.1) (sym loaded) refl,
      ),
    )

pub unreachable-requires : goal.unreachable-requires
unreachable-requires g c =
    let k = c.args.number in
    let me = lent_as c.slip.inside.seat.me _ _ k c.slip.view_is c.requires.number c.slip.invariant.0 in
    let loaded = c.load.ensures.2 _ k me in
    c.in_default.not-None
    (slot_has _ _ _ _ _ _ _ c.exchange-old.ensures.2
    (ap (λ (m : SeatState g.row.T.Denot g.row.T-Tag.Denot). m.1) loaded))

pub store-requires : goal.store-requires
store-requires g c =
    let z = c.self.inside.table.shared in
    let seat = c.slip.inside.seat in
    let now = c.exchange-old.new.seat in
    let k = c.args.number in
    let x = c.args.thing in
    let fits = g.T.Shelved.fits z.key in
    let n = g.T.Shelved.spots z.key in
    let table = same_table _ _ _ _ _ _ _ c.slip.view_is c.self.view_is c.requires.shelf in
    let number = ap (λ (o : SlipOf g.row.T-Tag.Denot). o.number) c.slip.view_is ∙ c.requires.number in
    let me = lent_as seat.me _ _ k c.slip.view_is c.requires.number c.slip.invariant.0 in
    let few = c.slip.invariant.1 in
    let slots = ap (λ (t : TableId). t.slots) table ∙ c.self.invariant.1 in
    let words = c.self.invariant.0 in
    let loaded = c.load.ensures.2 _ k me in
    let written : now.me ≡ (seen seat.me.0.tag (Puts k), (k, Some x) ∷ []) =
    c.exchange-old.ensures.3
    ∙ ap (λ (m : SeatState g.row.T.Denot g.row.T-Tag.Denot). (m.0, (k, Some x) ∷ rest m.1)) loaded in
    let key = ap (λ (o : ShelfId g.row.T-Tag.Denot). o.tag) c.self.view_is in
    let st = step z.table_id.slots k 2 0 none in (
      c.exchange-old.ensures.0 ∙ c.load.ensures.0 ∙ table,
      omega (arith, few, number, slots, words),
      subst (λ (m : SeatState g.row.T.Denot g.row.T-Tag.Denot).
          Allows (ShelfInvariant z.key n fits) z.table_id.slots now.id m k (λ _. 2) (λ _. puts st m 2)) (sym written)
          (puts_ok z.key n fits z.table_id.slots now.id k seat.me.0.tag x st
          (subst (λ (t : g.row.T-Tag.Denot). g.T.Shelved.fits t k x) (sym key) c.requires.fits)),
    )
