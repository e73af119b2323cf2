use Rattle.std.proofs.Common.{refl}
use Rattle.door_c.specs.KeeperSlots.{collected}
use Rattle.door_c.proofs.keeper_slot.KeeperSlot.collect.Goals as goal

pub returns-in-Some : goal.returns-in-Some
returns-in-Some c = collected c.in-Some.keeper c.collect.new.self c.in-Some.is refl c.collect.ensures
