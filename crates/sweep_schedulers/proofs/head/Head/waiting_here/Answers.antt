use Rattle.std.proofs.Common.{rules, ◌≤◌, ◌∙◌}
use Rattle.sweep_schedulers.proofs.Due.{waiting_here-equal}
use Rattle.sweep_schedulers.proofs.head.Head.waiting_here.Goals as goal

pub returns : goal.returns
returns g c =
    let on : c.args.self.now.headpos ≤ c.args.self.now.cylmax = search rules in
    let lists = g.W.Waits.waiting_priorities c.args.lists.now in
    c.count_equal.ensures
    ∙ waiting_here-equal c.args.self.now lists _ _ on c.requires (search rules) (search rules)
