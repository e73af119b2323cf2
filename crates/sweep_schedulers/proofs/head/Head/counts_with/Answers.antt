use Rattle.std.proofs.Common.{rules, ◌≢◌, ◌≤◌}
use Rattle.sweep_schedulers.specs.Heads.{priority_at}
use Rattle.sweep_schedulers.proofs.Due.{waiting_here-one, waiting_here-other}
use Rattle.sweep_schedulers.proofs.head.Head.counts_with.Goals as goal

pub returns-then-priority-priority_here : goal.returns-then-priority-priority_here
returns-then-priority-priority_here g c =
    let d = c.args.self.now in
    let q = g.W.Waits.waiting_priorities c.args.lists.now in
    let on : d.headpos ≤ d.cylmax = search rules in
    let more = waiting_here-one d (q 0) (q 1) c.args.priority on (search rules) in
    rw more (search rules)

pub returns-else-priority-priority_here : goal.returns-else-priority-priority_here
returns-else-priority-priority_here g c =
    let d = c.args.self.now in
    let q = g.W.Waits.waiting_priorities c.args.lists.now in
    let on : d.headpos ≤ d.cylmax = search rules in
    let apart : c.args.priority ≢ priority_at d.cylmax d.direction d.headpos = search rules in
    let same = waiting_here-other d (q 0) (q 1) c.args.priority on c.requires.one apart in
    rw same (search rules)
