use Rattle.std.proofs.Common.{rules, ◌<◌, ◌∙◌, length, get_or}
use Rattle.sweep_schedulers.proofs.Lists.{count_by-before}
use Rattle.sweep_schedulers.proofs.waiting.count_equal.Goals as goal

pub returns-then-next-priority : goal.returns-then-next-priority
returns-then-next-priority g c =
    let qs = g.W.Waits.waiting_priorities c.args.lists.now c.args.condition in
    let within : c.loop-i.i < length qs = search rules in
    let above : c.args.priority < get_or qs c.loop-i.i 0 = search rules in
    let rise = g.met.W.Waits.rise c.args.lists.now c.args.condition in
    c.loop-i.invariant ∙ count_by-before c.args.priority qs c.loop-i.i rise within above
