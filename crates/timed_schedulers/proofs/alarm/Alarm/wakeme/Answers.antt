use Rattle.std.proofs.Common.{rules, refl, arith, inl, inr}
use Rattle.hoare_law.proofs.Growth.{leaves-as}
use Rattle.timed_schedulers.specs.AlarmTraces.{too_far}
use Rattle.timed_schedulers.proofs.Alarms.{Waited-none, Waited-more, Early-before, Early-after, AlarmReady-first, woken}
use Rattle.timed_schedulers.proofs.alarm.Alarm.wakeme.Goals as goal

pub returns-in_default-clause-trace : goal.returns-in_default-clause-trace
returns-in_default-clause-trace g c = too_far _ _ _ c.enter-inside.ensures.front
    (omega (arith, c.time-start.ensures, c.state.ensures, c.in_default.ensures))
    (leaves-as c.leave.ensures.front (search rules) (search rules) (search rules))

pub rounds-init : goal.rounds-init
rounds-init g c = record {
  of = search rules;
  place = search rules;
  early = record {
    due = omega (arith, c.time-start.ensures, c.state.ensures, c.in-Some.ensures);
    others = inl c.enter-inside.ensures.rest;
  };
  waited = Waited-none c.enter-inside.ensures.front (search rules);
}

pub signal_leave-out-requires-clause-ready : goal.signal_leave-out-requires-clause-ready
signal_leave-out-requires-clause-ready g c =
    AlarmReady-first (g.met.M.Monitor.rise _ _ 0 c.rounds.invariant.of) (Early-after c.rounds.invariant.early) refl refl

pub returns-then-now-setting-clause-trace : goal.returns-then-now-setting-clause-trace
returns-then-now-setting-clause-trace g c = woken c.rounds.invariant.waited
    (omega (arith, c.in-Some.ensures))
    (omega (arith, c.rounds.invariant.early.due, c.time-now.ensures, c.state-in-rounds.ensures))
    (search rules) (omega arith)
    c.signal_leave-out.ensures.front (search rules) (search rules) (search rules)

pub wait-inside-requires-clause-rest : goal.wait-inside-requires-clause-rest
wait-inside-requires-clause-rest g c =
    Early-before c.rounds.invariant.early (omega (arith, c.time-now.ensures, c.state-in-rounds.ensures))

pub rounds-preserved : goal.rounds-preserved
rounds-preserved g c =
    let ready = c.wait-inside.ensures.ready (omega arith) in record {
      of = search rules;
      place = search rules;
      early = record { due = ready.due; others = inr ready.first };
      waited = Waited-more c.rounds.invariant.waited (omega (arith, c.time-now.ensures, c.state-in-rounds.ensures))
          c.wait-inside.ensures.front (search rules) (search rules) (search rules);
    }
