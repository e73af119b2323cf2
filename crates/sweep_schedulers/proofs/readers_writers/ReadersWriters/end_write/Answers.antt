use Rattle.std.proofs.Common.{◌∙◌, refl, rules}
use Rattle.hoare_law.specs.Waiting.{waiting}
use Rattle.hoare_law.proofs.Growth.{leaves-as, Finishes-exit}
use Rattle.sweep_schedulers.specs.ReadersWritersTraces.{to_readers, to_writers, refused}
use Rattle.sweep_schedulers.proofs.Lists.{none_told}
use Rattle.sweep_schedulers.proofs.readers_writers.ReadersWriters.end_write.Goals as goal
use Rattle.sweep_schedulers.proofs.readers_writers.ReadersWriters.end_write.Goals.{then-queue, else-queue}

pub returns-then-not-is_busy-clause-trace : goal.returns-then-not-is_busy-clause-trace
returns-then-not-is_busy-clause-trace g c =
    refused _ _ c.enter-inside.ensures.front (search rules)
    (leaves-as c.leave.ensures.front c.enter-inside.ensures.place refl refl)

pub returns-clause-trace : goal.returns-clause-trace
returns-clause-trace g c =
    let a = g.M.Monitor.data_in c.enter-inside.result in
    let front = g.M.Monitor.front_in c.enter-inside.result in
    let place = g.met.M.Monitor.keeps_place c.enter-inside.result c.write.new.self ∙ c.enter-inside.ensures.place in
    let state =
    g.met.M.Monitor.takes_data c.enter-inside.result c.write.new.self
    ∙ (rw c.state_mut.ensures.value at c.write.ensures) in
    let same = g.met.M.Monitor.keeps_front c.enter-inside.result c.write.new.self in
    let told = rw same at c.queue.ensures.front in
    elim c.if-queue.branch [
      | then-queue w ↦ to_readers a front c.enter-inside.ensures.front (search rules) (told.0 (search rules))
          (Finishes-exit (rw w.next-is at c.signal_leave-out.ensures.front) place state same)
      | else-queue w ↦ to_writers a front c.enter-inside.ensures.front (search rules)
          (none_told (waiting 0 front.events) c.queue.result told.1 (search rules))
          (Finishes-exit (rw w.next-is at c.signal_leave-out.ensures.front) place state same)
    ]
