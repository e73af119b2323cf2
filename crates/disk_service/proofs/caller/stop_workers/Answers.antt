use Rattle.std.proofs.Common.{rules}
use Rattle.disk_service.specs.Handing.{nothing}
use Rattle.disk_service.proofs.Handing.{next-stop}
use Rattle.disk_service.proofs.caller.stop_workers.Goals as goal

pub loop-init : goal.loop-init
loop-init g c = (search rules, search rules, nothing)

pub loop-preserved : goal.loop-preserved
loop-preserved g c =
    let inv = c.loop.invariant in (
      search rules,
      search rules,
      next-stop _ c.loop.counter _ _ _ inv.2 (rw inv.1 at c.append-own.ensures.appended),
    )
