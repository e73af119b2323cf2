use Rattle.std.proofs.Common.{Some, sym, ap, ◌∙◌}
use Rattle.door_place.specs.Returns.{KeeperOf}
use Rattle.door_c.specs.KeeperSlots.{closed, not_closed}
use Rattle.door_c.proofs.keeper_slot.KeeperSlot.close.Goals as goal

pub returns-in-Ok-clause-closed : goal.returns-in-Ok-clause-closed
returns-in-Ok-clause-closed c = (
  c.take.ensures.after,
  closed c.in-Some.keeper (sym c.in-Some.ensures.value) c.in-Ok.ensures.all c.in-Ok.ensures.closes,
)

pub returns-in-Err-clause-kept : goal.returns-in-Err-clause-kept
returns-in-Err-clause-kept c = ap (λ (x : KeeperOf). Some x) c.in-Err.ensures.same ∙ c.in-Some.ensures.value

pub returns-in-Err-clause-refused : goal.returns-in-Err-clause-refused
returns-in-Err-clause-refused c = not_closed c.in-Some.keeper (sym c.in-Some.ensures.value) c.in-Err.ensures.refused
