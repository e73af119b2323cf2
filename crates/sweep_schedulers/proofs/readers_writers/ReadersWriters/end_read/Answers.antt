use Rattle.std.proofs.Common.{◌∙◌, refl, rules}
use Rattle.hoare_law.proofs.Growth.{leaves-as, Finishes-exit}
use Rattle.sweep_schedulers.specs.ReadersWritersTraces.{no_reader, last, others}
use Rattle.sweep_schedulers.proofs.readers_writers.ReadersWriters.end_read.Goals as goal

pub returns-then-readers-eq0-clause-trace : goal.returns-then-readers-eq0-clause-trace
returns-then-readers-eq0-clause-trace g c =
    no_reader _ _ c.enter-inside.ensures.front (search rules)
    (leaves-as c.leave.ensures.front c.enter-inside.ensures.place refl refl)

pub returns-then-left-gt0-clause-trace : goal.returns-then-left-gt0-clause-trace
returns-then-left-gt0-clause-trace g c =
    others _ _ c.enter-inside.ensures.front (search rules)
    (leaves-as c.leave-then-left-gt0.ensures.front (g.met.M.Monitor.keeps_place _ _ ∙ c.enter-inside.ensures.place)
    (g.met.M.Monitor.takes_data _ _ ∙ (rw c.state_mut.ensures.value at c.dismiss-left.ensures.after))
    (g.met.M.Monitor.keeps_front _ _))

pub returns-clause-trace : goal.returns-clause-trace
returns-clause-trace g c =
    last _ _ c.enter-inside.ensures.front (search rules) (Finishes-exit c.signal_leave-out.ensures.front
    (g.met.M.Monitor.keeps_place _ _ ∙ c.enter-inside.ensures.place) (search rules) (g.met.M.Monitor.keeps_front _ _))
