use Rattle.std.proofs.Common.{ℕ, ap, ◌∙◌}
use Rattle.wait_book.specs.Numbers.{notified_position}
use Rattle.picture_program.specs.Lanes.{numbered}
use Rattle.picture_program.proofs.Monitors.{lane_is}
use Rattle.picture_program.proofs.monitor.Monitor.lane.Goals as goal

pub returns : goal.returns
returns c = λ h at below.
    lane_is c.args.self.now h c.args.place c.numbered.result at below
    (c.numbered.ensures
    ∙ ap (λ (n : ℕ). numbered n c.lane_at.result) (c.notified_position-number.ensures.of h at.book)
    ∙ ap (numbered (notified_position h.events c.args.place)) c.lane_at.ensures)
