use Rattle.std.proofs.Common.{rules, ap, None, Some}
use Rattle.door_frame.specs.Steps.{SeatState}
use Rattle.door_frame.proofs.Seats.{one_slot, slot_now}
use Rattle.door_frame.proofs.slot.put_guarded.Goals as goal

pub exchange-old-requires : goal.exchange-old-requires
exchange-old-requires g c =
    (search rules, (None, one_slot _ _ (ap (λ (m : SeatState g.row.D.Denot). m.1) c.requires.empty.1)))

pub returns : goal.returns
returns g c =
    record {
      table = c.exchange-old.ensures.0;
      in_slot = slot_now None (Some c.args.guarded) c.requires.empty.1 c.exchange-old.ensures.3;
    }
