use Rattle.picture_program.proofs.Monitors.{at_next}
use Rattle.picture_program.proofs.monitor.Monitor.act.Goals as goal

pub returns : goal.returns
returns c = λ h at. (
  (c.answer-answer.ensures h at.book).0,
  at_next c.args.self.now (record { opened = c.answer-answer.new.self; last = c.move_places.new.last }) h c.args.command
      c.answer-answer.result at (c.answer-answer.ensures h at.book).0 (c.answer-answer.ensures h at.book).1
      c.move_places.ensures.length c.move_places.ensures.each,
)
