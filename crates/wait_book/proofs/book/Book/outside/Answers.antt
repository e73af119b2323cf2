use Rattle.std.proofs.Common.{arith}
use Rattle.wait_book.proofs.Waiters.{nowhere, somewhere}
use Rattle.wait_book.proofs.Histories.{outside-by_times}
use Rattle.wait_book.proofs.Queued.{times_all}
use Rattle.wait_book.proofs.book.Book.outside.Goals as goal

pub returns-then-holds : goal.returns-then-holds
returns-then-holds c =
    let all = times_all c.args.place c.self.inside.chains in
    let says =
    outside-by_times c.args.place c.self.view_is
    (somewhere c.holds.result _ _ c.if-holds.true c.holds.ensures (omega arith)) in
    record { nowhere = says.nowhere; of = says.of }

pub returns : goal.returns
returns c =
    let all = times_all c.args.place c.self.inside.chains in
    let away =
    nowhere c.holds.result c.is_in_hand.result _ _ _ c.if-holds.false c.holds.ensures c.is_in_hand.ensures
    (omega arith) in
    let says = outside-by_times c.args.place c.self.view_is away in
    record { nowhere = says.nowhere; of = says.of }
