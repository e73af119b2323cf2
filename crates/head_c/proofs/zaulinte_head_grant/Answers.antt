-- A request that waited resumes as the first of the present sweep.
use Rattle.std.proofs.Common.{◌≡◌, ◌≤◌, rules}
use Rattle.sweep_schedulers.specs.Heads.{sent}
use Rattle.head_c.proofs.Steps.{goes_first}
use Rattle.head_c.proofs.zaulinte_head_grant.Goals as goal

pub returns-clause-goes_first : goal.returns-clause-goes_first
returns-clause-goes_first c q rise free some is done =
    let d = c.args.head.now in
    let on : c.args.cylinder ≤ d.cylmax = search rules in
    let new : c.keep.new.self ≡ sent d c.args.cylinder = search rules in
    rw new (goes_first d q c.args.cylinder rise free some is on)
