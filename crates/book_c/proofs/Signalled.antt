-- The history of a book after a signal to a place.
use Rattle.std.proofs.Common.{ℕ}
use Rattle.hoare_law.specs.declared.event.History.{History}
use Rattle.hoare_law.specs.Waiting.{wait_by}
use Rattle.wait_book.specs.Contents.{Contents}
use Rattle.wait_book.specs.Stepping.{after_signal_to, settled}
use Rattle.book_c.specs.Codes.{SignalledTo, was_done, was_refused}
use Rattle.book_c.specs.Held.{IsOfSome}

-- done or refused, the book is of some history again
pub of_some : {h : History (Unit {0})} {k c w : ℕ} {new : Contents} {code : ℕ} → SignalledTo h k c w new code
    → IsOfSome new
of_some {h = h} {k = k} {c = c} {w = w} (was_done allowed of code) =
    record { history = settled (after_signal_to h k c w (wait_by w c h.events)); of = of }
of_some {h = h} (was_refused r refusal of code) = record { history = h; of = of }
