use Rattle.std.proofs.Common.{rules, ◌≡◌, ◌≢◌, ◌∙◌, Some}
use Rattle.sweep_schedulers.specs.Heads.{sweep, priority_at, waiting_here}
use Rattle.sweep_schedulers.proofs.Due.{waiting_here-none}
use Rattle.sweep_schedulers.proofs.head.Head.recount.Goals as goal
use Rattle.sweep_schedulers.proofs.head.Head.recount.Goals.{then-eq, else-eq}

pub returns-clause-data : goal.returns-clause-data
returns-clause-data g c =
    let M = g.M.Monitor in
    let met = g.met.M.Monitor in
    let inside = c.args.inside in
    let d = M.data_in inside in
    let to : c.sweep.result ≡ sweep d.direction = rw c.state-2.ensures at c.sweep.ensures in
    let with : c.priority_here-here.result ≡ priority_at d.cylmax d.direction d.headpos =
    rw c.state.ensures at c.priority_here-here.ensures in
    let stay : c.if-eq.stay ≡ waiting_here d (M.lists_in inside 0) (M.lists_in inside 1) =
    elim c.if-eq.branch [
      | then-eq w ↦ w.stay-is ∙ (rw (w.state-then-eq.ensures, w.lists.ensures.lists) at w.waiting_here-stay.ensures)
      | else-eq w ↦
          let other : c.first.result ≢ Some c.priority_here-here.result = search rules in
          w.stay-is
          ∙ waiting_here-none d (M.lists_in inside) _ _ c.first.result c.requires.inv c.requires.sweeps
          (met.rise c.args.m.now inside _ c.requires.of) to with c.first.ensures.lists other
    ] in
    met.takes_data _ _ ∙ (rw (c.state_mut.ensures.value, stay) at c.count.ensures)
