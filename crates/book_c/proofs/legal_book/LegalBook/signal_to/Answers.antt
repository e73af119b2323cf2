use Rattle.std.proofs.Common.{sym, subst}
use Rattle.wait_book.specs.Contents.{Contents, IsOf}
use Rattle.book_c.specs.Held.{IsOfSome}
use Rattle.book_c.proofs.Signalled.{of_some}
use Rattle.book_c.proofs.legal_book.LegalBook.signal_to.Goals as goal

pub invariant_of-self : goal.invariant_of-self
invariant_of-self c = of_some (c.signalled_to.ensures.of c.self.invariant.history c.self.invariant.of)

pub returns-clause-of : goal.returns-clause-of
returns-clause-of c = λ h o. c.signalled_to.ensures.of h (subst (λ (b : Contents). IsOf b h) (sym c.self.view_is) o)

pub returns-clause-legal : goal.returns-clause-legal
returns-clause-legal c = (
  subst (λ (b : Contents). IsOfSome b) c.self.view_is c.self.invariant,
  of_some (c.signalled_to.ensures.of c.self.invariant.history c.self.invariant.of),
)
