use Rattle.std.proofs.Common.{rules, ◌≡◌, ◌+◌, arith}
use Rattle.hoare_law.proofs.Growth.{leaves-as, Finishes-exit}
use Rattle.timed_schedulers.specs.AlarmTraces.{full, ticked}
use Rattle.timed_schedulers.proofs.Alarms.{AlarmReady-first}
use Rattle.timed_schedulers.proofs.alarm.Alarm.tick.Goals as goal

pub returns-then-time-clause-trace : goal.returns-then-time-clause-trace
returns-then-time-clause-trace g c = full _ _ _ c.enter-inside.ensures.front
    (omega (arith, c.time.ensures, c.state.ensures, c.if-time.true))
    (leaves-as c.leave.ensures.front (search rules) (search rules) (search rules))

pub signal_leave-out-requires-clause-ready : goal.signal_leave-out-requires-clause-ready
signal_leave-out-requires-clause-ready g c =
    AlarmReady-first (g.met.M.Monitor.rise _ _ 0 c.enter-inside.ensures.of) c.enter-inside.ensures.rest (search rules)
    (search rules)

pub returns-clause-trace : goal.returns-clause-trace
returns-clause-trace g c =
    let told : c.advance-now.result ≡ g.M.Monitor.data_in c.enter-inside.result + 1 = cc in
    rw told
    (ticked _ _ c.enter-inside.ensures.front
    (omega (arith, c.time.type_inv, c.if-time.false, c.time.ensures, c.state.ensures))
    (Finishes-exit c.signal_leave-out.ensures.front (search rules) (search rules) (search rules)))
