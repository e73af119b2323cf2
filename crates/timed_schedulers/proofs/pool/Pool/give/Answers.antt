use Rattle.std.proofs.Common.{rules, ◌∙◌, ap, refl}
use Rattle.hoare_law.proofs.Growth.{leaves-as, Finishes-exit}
use Rattle.timed_schedulers.specs.PoolTraces.{refused, gave}
use Rattle.timed_schedulers.proofs.Pools.{PoolReady-freed}
use Rattle.timed_schedulers.proofs.pool.Pool.give.Goals as goal

pub returns-in-Err-clause-trace : goal.returns-in-Err-clause-trace
returns-in-Err-clause-trace g c =
    refused _ _ _ c.enter-inside.ensures.front (search rules)
    (leaves-as c.leave.ensures.front c.enter-inside.ensures.place refl refl)

pub signal_leave-out-requires-clause-ready : goal.signal_leave-out-requires-clause-ready
signal_leave-out-requires-clause-ready g c =
    PoolReady-freed {b = c.args.buffer} {s = c.args.stream} c.enter-inside.ensures.rest (search rules) (search rules)
    (g.met.M.Monitor.takes_data _ _ ∙ (rw c.state_mut.ensures.value at c.set_free.ensures))
    (ap (λ q. q 0) (g.met.M.Monitor.keeps_lists _ _))

pub returns-clause-trace : goal.returns-clause-trace
returns-clause-trace g c =
    gave _ _ c.enter-inside.ensures.front (search rules) (Finishes-exit c.signal_leave-out.ensures.front
    (g.met.M.Monitor.keeps_place _ _ ∙ c.enter-inside.ensures.place)
    (g.met.M.Monitor.takes_data _ _ ∙ (rw c.state_mut.ensures.value at c.set_free.ensures))
    (g.met.M.Monitor.keeps_front _ _))
