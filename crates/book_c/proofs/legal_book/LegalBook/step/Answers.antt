use Rattle.std.proofs.Common.{sym, subst}
use Rattle.wait_book.specs.Contents.{Contents, IsOf}
use Rattle.book_c.proofs.legal_book.LegalBook.step.Goals as goal

pub returns-clause-of : goal.returns-clause-of
returns-clause-of c = λ h o. c.stepped.ensures.of h (subst (λ (b : Contents). IsOf b h) (sym c.self.view_is) o)
