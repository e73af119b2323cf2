use Rattle.hoare_script.specs.declared.lines.Command.TheVariants.{Queue, First}
use Rattle.hoare_script.proofs.Commands.{answer_to-unchanged, history_after-Queue, history_after-First}
use Rattle.hoare_script.proofs.opened.Opened.answer.Goals as goal

pub returns-in-Queue : goal.returns-in-Queue
returns-in-Queue c = λ h o.
    answer_to-unchanged c.args.self.now h c.args.command (Queue c.in-Queue.condition) c.queue.result o
    (history_after-Queue h c.in-Queue.condition) c.in-Queue.is (c.queue.ensures h o)

pub returns-in-First : goal.returns-in-First
returns-in-First c = λ h o.
    answer_to-unchanged c.args.self.now h c.args.command (First c.in-First.condition) c.first.result o
    (history_after-First h c.in-First.condition) c.in-First.is (c.first.ensures h o)
