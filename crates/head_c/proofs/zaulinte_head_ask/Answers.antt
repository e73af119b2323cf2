-- A request that waits joins the sweep that reaches its cylinder.
use Rattle.std.proofs.Common.{◌≡◌, ◌≤◌, None, rules}
use Rattle.sweep_schedulers.specs.Heads.{priority_at, sweep, toward}
use Rattle.head_c.proofs.Steps.{joins}
use Rattle.head_c.proofs.zaulinte_head_ask.Goals as goal

pub returns-clause-joins : goal.returns-clause-joins
returns-clause-joins c q rests one =
    let d = c.args.head.now in
    let out : d.drive ≡ None = search rules in
    let on : c.args.cylinder ≤ d.cylmax = search rules in
    let to : c.stop_at-sweep.result.0 ≡ sweep (toward c.args.cylinder d) = search rules in
    let with : c.stop_at-sweep.result.1 ≡ priority_at d.cylmax (toward c.args.cylinder d) c.args.cylinder =
    search rules in
    joins d q c.args.cylinder c.stop_at-sweep.result.0 c.stop_at-sweep.result.1 rests out on to with
