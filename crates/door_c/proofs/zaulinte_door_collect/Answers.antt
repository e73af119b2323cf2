use Rattle.std.proofs.Common.{refl, ap, ◌∙◌, subst}
use Rattle.c_handle.specs.declared.held.Held as generic
use Rattle.door_c.specs.declared.keeper_slot.KeeperSlot.{KeeperSlot}
use Rattle.door_c.specs.KeeperSlots.{Collected}
use Rattle.door_c.proofs.zaulinte_door_collect.Goals as goal

pub returns-clause-collected : goal.returns-clause-collected
returns-clause-collected c = λ live.
    let was = c.in-Some.ensures.value.1 ∙ ap (λ (s : generic.Held KeeperSlot). s.handle.value) c.held.ensures.value in (
      refl,
      c.in-Some.ensures.value.0,
      subst (λ (d : KeeperSlot). Collected d.keeper c.collect.new.self.keeper) was c.collect.ensures,
    )
