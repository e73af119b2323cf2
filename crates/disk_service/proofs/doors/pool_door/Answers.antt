use Rattle.std.proofs.Common.{ℕ, ◌≡◌, ◌∙◌, ap, refl, rules, Ok}
use Rattle.disk_service.specs.Made.{free_buffers}
use Rattle.disk_service.proofs.Making.{made-pool}
use Rattle.disk_service.proofs.doors.pool_door.Goals as goal

pub returns-in-Ok-clause-made : goal.returns-in-Ok-clause-made
returns-in-Ok-clause-made c =
    let free : c.in-Ok.buffers ≡ free_buffers c.args.jobs.now.workers =
    made-pool _ _ (Ok c.in-Ok.buffers) _ c.in-Ok.ensures.made refl
    ∙ ap (λ (workers : ℕ). free_buffers workers) c.workers-workers.ensures.value in
    let opening = rw free at c.opened.ensures.opening in
    search rules
