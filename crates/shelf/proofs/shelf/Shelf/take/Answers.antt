use Rattle.std.proofs.Common.{◌≡◌, ◌<◌, ℕ, [], ◌∷◌, ◌++◌, Some, None, IsSome, refl, sym, ap, ◌∙◌, subst, arith}
use mathlib.Core.Option.{none}
use Rattle.atomic_table.specs.Seated.{TableId}
use Rattle.atomic_table.specs.Table.{Allows, rest, step}
use Rattle.shelf.specs.declared.view.Change.TheVariants.{Take}
use Rattle.shelf.specs.Rule.{ShelfInvariant}
use Rattle.shelf.specs.Shelves.{shelf_id}
use Rattle.shelf.specs.Steps.{SeatState, restores, takes}
use Rattle.shelf.specs.Views.{AreNumbers, in_hand, log_of}
use Rattle.shelf.proofs.Seats.{is_collecting, slot_has, some_is, was_absent, was_taken, collects_at}
use Rattle.shelf.proofs.Steps.{restores_ok, takes_ok}
use Rattle.shelf.proofs.shelf.Shelf.take.Goals as goal

pub swap-requires : goal.swap-requires
swap-requires g c =
    let z = c.self.inside.table.shared in
    let seat = c.collector.inside.seat in
    let k = c.args.number in
    let fits = g.T.Shelved.fits in
    let n = g.T.Shelved.spots z.key in
    let at = collects_at _ _ _ _ _ _ _ _ c.collector.view_is c.self.view_is c.requires.shelf in
    let tag = seat.me.0.tag in
    let log = log_of seat.me.0.role in
    let ks = in_hand seat.me.0.role in
    let below = subst (λ (t : g.row.T-Tag.Denot). k < g.T.Shelved.spots t) (sym at.key_is) c.requires.number in
    let words = c.self.invariant.0 in
    let slots = c.self.invariant.1 in (
      at.table,
      omega (arith, below, words),
      subst (λ (m : SeatState g.row.T.Denot g.row.T-Tag.Denot).
          Allows (ShelfInvariant z.key n (fits z.key)) z.table_id.slots seat.id m k (λ _. 1)
          (takes fits (step z.table_id.slots k 1 0 none) m)) (sym c.collector.invariant.0)
          (takes_ok z.key n (fits z.key) fits (λ j x fit. fit) z.table_id.slots seat.id k 1 0 none tag log ks below
          slots),
    )

pub invariant_of-collector : goal.invariant_of-collector
invariant_of-collector g c =
    let seat = c.collector.inside.seat in
    let missed = (c.swap.ensures.2 _ _ _ c.collector.invariant.0).0 c.if-swap-eq-ABSENT.true in
    is_collecting _ c.swap.new.seat.me _ missed.log _ missed.is
    (subst (λ (t : TableId). AreNumbers t.slots (in_hand seat.me.0.role)) (sym c.swap.ensures.0) c.collector.invariant.1)

pub returns-then-swap-eq-ABSENT-clause-shelf : goal.returns-then-swap-eq-ABSENT-clause-shelf
returns-then-swap-eq-ABSENT-clause-shelf g c =
    let missed = (c.swap.ensures.2 _ _ _ c.collector.invariant.0).0 c.if-swap-eq-ABSENT.true in
    let at = collects_at _ _ _ _ _ _ _ _ c.collector.view_is c.self.view_is c.requires.shelf in
    (λ i. shelf_id (c.swap.ensures.0 i) (missed.is i).0.tag) ∙ at.shelf

pub returns-then-swap-eq-ABSENT-clause-numbers : goal.returns-then-swap-eq-ABSENT-clause-numbers
returns-then-swap-eq-ABSENT-clause-numbers g c =
    let seat = c.collector.inside.seat in
    let missed = (c.swap.ensures.2 _ _ _ c.collector.invariant.0).0 c.if-swap-eq-ABSENT.true in
    let at = collects_at _ _ _ _ _ _ _ _ c.collector.view_is c.self.view_is c.requires.shelf in
    let n : seat.table_id.slots ≡ g.T.Shelved.spots c.args.self.now.tag =
    ap (λ (t : TableId). t.slots) at.table ∙ c.self.invariant.1 ∙ ap g.T.Shelved.spots at.key_is in
    (is_collecting _ c.swap.new.seat.me _ missed.log _ missed.is
    (subst (λ (m : ℕ). AreNumbers m (in_hand seat.me.0.role)) n c.collector.invariant.1)).1

pub returns-then-swap-eq-ABSENT-clause-absent : goal.returns-then-swap-eq-ABSENT-clause-absent
returns-then-swap-eq-ABSENT-clause-absent g c =
    let missed = (c.swap.ensures.2 _ _ _ c.collector.invariant.0).0 c.if-swap-eq-ABSENT.true in
    was_absent c.args.number _ _ c.collector.inside.seat.me c.swap.new.seat.me _ c.collector.view_is missed

pub exchange-requires : goal.exchange-requires
exchange-requires g c =
    let found = (c.swap.ensures.2 _ _ _ c.collector.invariant.0).1 c.if-swap-eq-ABSENT.false in
    let at = collects_at _ _ _ _ _ _ _ _ c.collector.view_is c.self.view_is c.requires.shelf in
    let k = c.args.number in (
      c.swap.ensures.0 ∙ at.table,
      (
        Some found.thing,
        subst (λ (m : SeatState g.row.T.Denot g.row.T-Tag.Denot). m.1 ≡ (k, Some found.thing) ∷ rest m.1)
            (sym found.is) refl,
      ),
    )

pub unwrap-thing-requires : goal.unwrap-thing-requires
unwrap-thing-requires g c =
    let found = (c.swap.ensures.2 _ _ _ c.collector.invariant.0).1 c.if-swap-eq-ABSENT.false in
    subst IsSome
    (sym (slot_has _ _ _ _ _ _ _ c.exchange.ensures.2
    (ap (λ (m : SeatState g.row.T.Denot g.row.T-Tag.Denot). m.1) found.is))) refl

pub load-requires : goal.load-requires
load-requires g c =
    let z = c.self.inside.table.shared in
    let now = c.exchange.new.seat in
    let k = c.args.number in
    let fits = g.T.Shelved.fits z.key in
    let n = g.T.Shelved.spots z.key in
    let found = (c.swap.ensures.2 _ _ _ c.collector.invariant.0).1 c.if-swap-eq-ABSENT.false in
    let at = collects_at _ _ _ _ _ _ _ _ c.collector.view_is c.self.view_is c.requires.shelf in
    let below = subst (λ (t : g.row.T-Tag.Denot). k < g.T.Shelved.spots t) (sym at.key_is) c.requires.number in
    let words = c.self.invariant.0 in
    let emptied = c.exchange.ensures.3
    ∙ ap (λ (m : SeatState g.row.T.Denot g.row.T-Tag.Denot). (m.0, (k, None) ∷ rest m.1)) found.is in
    let st = step z.table_id.slots k 0 0 none in (
      c.exchange.ensures.0 ∙ c.swap.ensures.0 ∙ at.table,
      omega (arith, below, words),
      subst (λ (m : SeatState g.row.T.Denot g.row.T-Tag.Denot).
          Allows (ShelfInvariant z.key n fits) z.table_id.slots now.id m k (λ w. w) (restores st m)) (sym emptied)
          (restores_ok z.key n fits z.table_id.slots now.id k _ (found.log ++ Take k ∷ []) _ st),
    )

pub invariant_of-collector-2 : goal.invariant_of-collector-2
invariant_of-collector-2 g c =
    let found = (c.swap.ensures.2 _ _ _ c.collector.invariant.0).1 c.if-swap-eq-ABSENT.false in
    let at = collects_at _ _ _ _ _ _ _ _ c.collector.view_is c.self.view_is c.requires.shelf in
    let k = c.args.number in
    let emptied = c.exchange.ensures.3
    ∙ ap (λ (m : SeatState g.row.T.Denot g.row.T-Tag.Denot). (m.0, (k, None) ∷ rest m.1)) found.is in
    let restored = c.load.ensures.2 _ _ _ k emptied in
    let table : c.load.new.seat.table_id ≡ c.self.inside.table.shared.table_id =
    c.load.ensures.0 ∙ c.exchange.ensures.0 ∙ c.swap.ensures.0 ∙ at.table in
    is_collecting _ c.load.new.seat.me _ _ _ restored
    (subst (λ (t : TableId). AreNumbers t.slots (k ∷ in_hand c.collector.inside.seat.me.0.role)) (sym table)
    found.numbers)

pub returns-clause-shelf : goal.returns-clause-shelf
returns-clause-shelf g c =
    let found = (c.swap.ensures.2 _ _ _ c.collector.invariant.0).1 c.if-swap-eq-ABSENT.false in
    let at = collects_at _ _ _ _ _ _ _ _ c.collector.view_is c.self.view_is c.requires.shelf in
    let k = c.args.number in
    let emptied = c.exchange.ensures.3
    ∙ ap (λ (m : SeatState g.row.T.Denot g.row.T-Tag.Denot). (m.0, (k, None) ∷ rest m.1)) found.is in
    let restored = c.load.ensures.2 _ _ _ k emptied in
    (λ i. shelf_id ((c.load.ensures.0 ∙ c.exchange.ensures.0 ∙ c.swap.ensures.0) i) (restored i).0.tag) ∙ at.shelf

pub returns-clause-numbers : goal.returns-clause-numbers
returns-clause-numbers g c =
    let found = (c.swap.ensures.2 _ _ _ c.collector.invariant.0).1 c.if-swap-eq-ABSENT.false in
    let at = collects_at _ _ _ _ _ _ _ _ c.collector.view_is c.self.view_is c.requires.shelf in
    let k = c.args.number in
    let emptied = c.exchange.ensures.3
    ∙ ap (λ (m : SeatState g.row.T.Denot g.row.T-Tag.Denot). (m.0, (k, None) ∷ rest m.1)) found.is in
    let restored = c.load.ensures.2 _ _ _ k emptied in
    let n : c.self.inside.table.shared.table_id.slots ≡ g.T.Shelved.spots c.args.self.now.tag =
    c.self.invariant.1 ∙ ap g.T.Shelved.spots at.key_is in
    (is_collecting _ c.load.new.seat.me _ _ _ restored
    (subst (λ (m : ℕ). AreNumbers m (k ∷ in_hand c.collector.inside.seat.me.0.role)) n found.numbers)).1

pub returns-clause-fits : goal.returns-clause-fits
returns-clause-fits g c =
    let found = (c.swap.ensures.2 _ _ _ c.collector.invariant.0).1 c.if-swap-eq-ABSENT.false in
    let at = collects_at _ _ _ _ _ _ _ _ c.collector.view_is c.self.view_is c.requires.shelf in
    let k = c.args.number in
    let same : found.thing ≡ c.unwrap-thing.result =
    some_is _ _ (sym (slot_has _ _ _ _ _ _ _ c.exchange.ensures.2
    (ap (λ (m : SeatState g.row.T.Denot g.row.T-Tag.Denot). m.1) found.is)) ∙ c.unwrap-thing.ensures) in
    subst (λ (x : g.row.T.Denot). g.T.Shelved.fits c.args.self.now.tag k x) same
    (subst (λ (t : g.row.T-Tag.Denot). g.T.Shelved.fits t k found.thing) at.tag found.fits)

pub returns-clause-taken : goal.returns-clause-taken
returns-clause-taken g c =
    let found = (c.swap.ensures.2 _ _ _ c.collector.invariant.0).1 c.if-swap-eq-ABSENT.false in
    let k = c.args.number in
    let emptied = c.exchange.ensures.3
    ∙ ap (λ (m : SeatState g.row.T.Denot g.row.T-Tag.Denot). (m.0, (k, None) ∷ rest m.1)) found.is in
    let same : found.thing ≡ c.unwrap-thing.result =
    some_is _ _ (sym (slot_has _ _ _ _ _ _ _ c.exchange.ensures.2
    (ap (λ (m : SeatState g.row.T.Denot g.row.T-Tag.Denot). m.1) found.is)) ∙ c.unwrap-thing.ensures) in
    was_taken _ _ k _ _ _ c.collector.inside.seat.me c.swap.new.seat.me c.load.new.seat.me _ c.collector.view_is found
    same (c.load.ensures.2 _ _ _ k emptied)
