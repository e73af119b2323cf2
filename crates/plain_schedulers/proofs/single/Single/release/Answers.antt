use Rattle.std.proofs.Common.{rules, ◌∙◌, refl}
use Rattle.hoare_law.proofs.Growth.{leaves-as, Finishes-exit}
use Rattle.plain_schedulers.specs.SingleTraces.{put_in, refused}
use Rattle.plain_schedulers.proofs.single.Single.release.Goals as goal

pub returns-then-is_in-clause-trace : goal.returns-then-is_in-clause-trace
returns-then-is_in-clause-trace g c =
    refused _ _ c.enter-inside.ensures.front (rw c.state.ensures at (c.is_in.ensures.0 c.if-is_in.true))
    (leaves-as c.leave.ensures.front c.enter-inside.ensures.place refl refl)

pub returns-clause-trace : goal.returns-clause-trace
returns-clause-trace g c = put_in _ _ c.enter-inside.ensures.front (search rules)
    (Finishes-exit c.signal_leave-out.ensures.front (g.met.M.Monitor.keeps_place _ _ ∙ c.enter-inside.ensures.place)
    (g.met.M.Monitor.takes_data _ _ ∙ c.put.ensures) (g.met.M.Monitor.keeps_front _ _))
