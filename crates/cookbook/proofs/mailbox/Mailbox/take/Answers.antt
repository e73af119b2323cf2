use Rattle.std.proofs.Common.{arith}
use Rattle.cookbook.proofs.Mailboxes.{TakesMostUrgent-best}
use Rattle.cookbook.proofs.mailbox.Mailbox.take.Goals as goal

pub returns : goal.returns
returns c = TakesMostUrgent-best c.loop-i.invariant.1 (grind arith) (grind arith) (cc)
