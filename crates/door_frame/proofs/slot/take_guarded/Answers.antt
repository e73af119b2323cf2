use Rattle.std.proofs.Common.{rules, ap, sym, ◌∙◌, subst, Some, None, IsSome, refl}
use Rattle.door_frame.specs.Steps.{SeatState}
use Rattle.door_frame.proofs.Seats.{one_slot, slot_has, slot_is, slot_now}
use Rattle.door_frame.proofs.slot.take_guarded.Goals as goal

pub exchange-requires : goal.exchange-requires
exchange-requires g c =
    let full = c.requires.full in
    (search rules, (Some full.1, one_slot _ _ (ap (λ (m : SeatState g.row.D.Denot). m.1) full.2)))

pub unwrap-requires : goal.unwrap-requires
unwrap-requires g c =
    let full = c.requires.full in subst IsSome (sym (slot_has _ (Some full.1) full.2 c.exchange.ensures.2)) refl

pub returns : goal.returns
returns g c =
    let full = c.requires.full in
    let found = slot_has _ (Some full.1) full.2 c.exchange.ensures.2 in
    record {
      table = c.exchange.ensures.0;
      taken = slot_is _ _ full.2 (sym found ∙ c.unwrap.ensures);
      empty = slot_now (Some full.1) None full.2 c.exchange.ensures.3;
    }
