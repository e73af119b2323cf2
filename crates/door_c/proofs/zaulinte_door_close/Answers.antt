use Rattle.std.proofs.Common.{refl, ap, ◌∙◌, subst}
use Rattle.c_handle.specs.declared.held.Held as generic
use Rattle.door_c.specs.declared.keeper_slot.KeeperSlot.{KeeperSlot}
use Rattle.door_c.specs.KeeperSlots.{WasClosed, WasNotClosed}
use Rattle.door_c.proofs.Numbers.{not_done}
use Rattle.door_c.proofs.zaulinte_door_close.Goals as goal

pub returns-in-Err-clause-closed : goal.returns-in-Err-clause-closed
returns-in-Err-clause-closed c = λ live done. absurd (not_done c.in-Err.ensures.refused done)

pub returns-in-Err-clause-kept : goal.returns-in-Err-clause-kept
returns-in-Err-clause-kept c = λ live refused.
    let was = c.in-Some.ensures.value.1 ∙ ap (λ (s : generic.Held KeeperSlot). s.handle.value) c.held.ensures.value in
    (c.in-Some.ensures.value.0, c.in-Err.ensures.kept ∙ ap (λ (d : KeeperSlot). d.keeper) was, refl)

pub returns-in-Err-clause-refused : goal.returns-in-Err-clause-refused
returns-in-Err-clause-refused c = λ live refused.
    let was = c.in-Some.ensures.value.1 ∙ ap (λ (s : generic.Held KeeperSlot). s.handle.value) c.held.ensures.value in
    subst (λ (d : KeeperSlot). WasNotClosed d.keeper c.in-Err.code) was c.in-Err.ensures.refused

pub returns-in-Some-take-clause-closed : goal.returns-in-Some-take-clause-closed
returns-in-Some-take-clause-closed c = λ live done.
    let was = c.in-Some.ensures.value.1 ∙ ap (λ (s : generic.Held KeeperSlot). s.handle.value) c.held.ensures.value in (
      c.take.ensures.empty,
      subst (λ (d : KeeperSlot). WasClosed d.keeper c.in-Ok.word) was c.in-Ok.ensures.closed.1,
    )
