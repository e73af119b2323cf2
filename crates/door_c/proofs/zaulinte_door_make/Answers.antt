use Rattle.std.proofs.Common.{ap, ◌∙◌}
use Rattle.c_handle.specs.declared.held.Held as generic
use Rattle.door_place.specs.Places.{no_memory}
use Rattle.door_c.specs.declared.keeper_slot.KeeperSlot.{KeeperSlot}
use Rattle.door_c.specs.Held.{made, refused}
use Rattle.door_c.proofs.zaulinte_door_make.Goals as goal
use Rattle.door_c.proofs.zaulinte_door_make.Goals.{in-Ok-keep, in-Err-keep}

pub returns-clause-made : goal.returns-clause-made
returns-clause-made c = λ empty.
    elim c.match-keep.branch [
      | in-Ok-keep w ↦ made c.in-Ok.keeper w.in-Ok-keep.ensures.0
          (ap (λ (d : KeeperSlot). d.keeper) w.in-Ok-keep.ensures.1)
          c.in-Ok.ensures.made w.result-is
      | in-Err-keep w ↦ refused
          (ap (λ (s : generic.Held KeeperSlot). s.live) (w.in-Err-keep.ensures.1 ∙ c.held.ensures.value) ∙ empty)
          (no_memory c.in-Ok.ensures.made.allowed w.result-is)
    ]
