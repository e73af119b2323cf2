use Rattle.std.proofs.Common.{arith}
use Rattle.plain_schedulers.proofs.Ring.{IsRing-push, added-ring}
use Rattle.plain_schedulers.proofs.buffer.Buffer.push.Goals as goal

pub invariant_of-self : goal.invariant_of-self
invariant_of-self g c = rw c.around-self-inside.ensures
    (IsRing-push c.args.item c.self.invariant (rw (← c.self.view_is) at c.requires) (omega arith))

pub returns : goal.returns
returns g c = rw (← c.self.view_is, c.around-self-inside.ensures)
    (added-ring c.args.item c.self.invariant (rw (← c.self.view_is) at c.requires) (omega arith))
