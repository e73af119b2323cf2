use Rattle.wait_book.proofs.Priorities as priorities
use Rattle.wait_book.proofs.book.Book.queue.Goals as goal

pub returns-clause-of : goal.returns-clause-of
returns-clause-of c =
    λ h o. priorities.queue-waiting _ h c.args.condition c.first.result c.is_some.result o
    (c.first.ensures.of h o) c.is_some.ensures
