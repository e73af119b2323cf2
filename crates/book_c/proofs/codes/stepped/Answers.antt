use Rattle.std.proofs.Common.{sym, subst}
use Rattle.wait_book.specs.Contents.{Contents, IsOf}
use Rattle.book_c.specs.Codes.{refused}
use Rattle.book_c.proofs.codes.stepped.Goals as goal

pub returns-in-Err-clause-of : goal.returns-in-Err-clause-of
returns-in-Err-clause-of c = λ h o.
    refused c.in-Err.refused (c.in-Err.ensures.of h o)
    (subst (λ (b : Contents). IsOf b h) (sym c.in-Err.ensures.err) o) c.refusal_code.ensures.is
