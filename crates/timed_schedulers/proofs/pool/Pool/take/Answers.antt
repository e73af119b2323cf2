use Rattle.std.proofs.Common.{arith, ◌≢◌, ◌<◌, ◌∙◌, ap, refl, sym, rules}
use Rattle.hoare_law.proofs.GotInside.{GotInside, GotInside-at_once, GotInside-waited}
use Rattle.hoare_law.proofs.Growth.{leaves-as, Finishes-exit}
use Rattle.timed_schedulers.specs.Pools.{PoolReady, free_count, held}
use Rattle.timed_schedulers.specs.PoolTraces.{MustWait, refused, took}
use Rattle.timed_schedulers.proofs.Pools.{no_stream, Takes-late, PoolReady-idle, PoolRests-taken}
use Rattle.timed_schedulers.proofs.pool.Pool.take.Given.{Over}
use Rattle.timed_schedulers.proofs.pool.Pool.take.Goals as goal
use Rattle.timed_schedulers.proofs.pool.Pool.take.Goals.{After-state_mut, then-free-eq0+else-not-has_stream-2}
use Rattle.timed_schedulers.proofs.pool.Pool.take.Goals.{else-free-eq0}

pub returns-then-not-has_stream-clause-trace : goal.returns-then-not-has_stream-clause-trace
returns-then-not-has_stream-clause-trace g c =
    refused _ _ _ c.enter-inside.ensures.front (no_stream c.has_stream.ensures c.if-not-has_stream.true c.state.ensures)
    (leaves-as c.leave.ensures.front c.enter-inside.ensures.place refl refl)

pub returns-then-not-has_stream-2-clause-trace : goal.returns-then-not-has_stream-2-clause-trace
returns-then-not-has_stream-2-clause-trace g c =
    let stream = rw c.state.ensures at (c.has_stream.ensures.0 c.if-not-has_stream.false) in
    let none = rw c.state-2.ensures at (sym c.free.ensures.answer ∙ c.if-free-eq0.true) in
    Takes-late c.enter-inside.ensures.front stream none c.wait-inside.ensures.front
    c.enter-inside.ensures.place refl refl (search rules)
    (no_stream c.has_stream-then-free-eq0.ensures c.if-not-has_stream-2.true c.state-then-free-eq0-2.ensures)
    (Finishes-exit c.signal_leave-out.ensures.front (c.wait-inside.ensures.place
    ∙ c.enter-inside.ensures.place) refl refl)

-- the process entered and, after a wait or without one, its stream is one of the pool's and it finds a free buffer
came : (g : Over) (c : After-state_mut g)
    → GotInside g.M.Monitor c.args.m.now c.args.out (MustWait c.args.stream) (λ _. 0) (held c.args.stream)
    (λ p q. (c.args.stream < p.streams) × PoolReady p (q 0)) c.if-free-eq0.inside
came g c =
    let stream = rw c.state.ensures at (c.has_stream.ensures.0 c.if-not-has_stream.false) in
    elim c.if-free-eq0.branch [
      | then-free-eq0+else-not-has_stream-2 w ↦
          let none = rw c.state-2.ensures at (sym c.free.ensures.answer ∙ w.if-free-eq0.true) in
          let stays =
          rw w.state-then-free-eq0-2.ensures at (w.has_stream-then-free-eq0.ensures.0 w.if-not-has_stream-2.false) in
          rw w.inside-is
          (GotInside-waited g.M.Monitor c.enter-inside.ensures.place c.enter-inside.ensures.front
          (stream, none) w.wait-inside.ensures.of
          w.wait-inside.ensures.place w.wait-inside.ensures.front refl (search rules)
          (stays, w.wait-inside.ensures.ready (omega arith)))
      | else-free-eq0 w ↦
          let some : free_count (g.M.Monitor.data_in c.enter-inside.result) ≢ 0 =
          λ none. w.if-free-eq0.false ((rw c.state-2.ensures at c.free.ensures.answer) ∙ none) in
          rw w.inside-is
          (GotInside-at_once g.M.Monitor c.enter-inside.ensures.of c.enter-inside.ensures.place
          c.enter-inside.ensures.front
          (λ must. some must.1) (stream, PoolReady-idle c.enter-inside.ensures.rest some))
    ]

pub own_least-buffer-requires-clause-stream : goal.own_least-buffer-requires-clause-stream
own_least-buffer-requires-clause-stream g c = rw c.state_mut.ensures.value (came g c).ready.0

pub own_least-buffer-requires-clause-some : goal.own_least-buffer-requires-clause-some
own_least-buffer-requires-clause-some g c = rw c.state_mut.ensures.value (came g c).ready.1.some

pub leave-requires-2-clause-rest : goal.leave-requires-2-clause-rest
leave-requires-2-clause-rest g c =
    let inside = came g (goal.at.leave-requires-2-clause-rest g c).After-state_mut in
    PoolRests-taken {b = c.own_least-buffer.result} {s = c.args.stream} inside.ready.1 inside.ready.0
    (rw c.state_mut.ensures.value at c.own_least-buffer.ensures.least)
    (g.met.M.Monitor.takes_data _ _ ∙ (rw c.state_mut.ensures.value at c.own_least-buffer.ensures.owned))
    (ap (λ q. q 0) (g.met.M.Monitor.keeps_lists _ _))

pub returns-clause-trace : goal.returns-clause-trace
returns-clause-trace g c =
    let inside = came g (goal.at.returns-clause-trace g c).After-state_mut in
    took (g.M.Monitor.data_in c.if-free-eq0.inside) (g.M.Monitor.front_in c.if-free-eq0.inside) _
    inside.enters inside.ready.0 (rw c.state_mut.ensures.value at c.own_least-buffer.ensures.least)
    (leaves-as c.leave-2.ensures.front (g.met.M.Monitor.keeps_place _ _ ∙ inside.place)
    (g.met.M.Monitor.takes_data _ _ ∙ (rw c.state_mut.ensures.value at c.own_least-buffer.ensures.owned))
    (g.met.M.Monitor.keeps_front _ _))
