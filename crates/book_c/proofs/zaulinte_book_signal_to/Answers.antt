use Rattle.std.proofs.Common.{sym, subst, ap, ◌∙◌}
use Rattle.wait_book.specs.Contents.{Contents, IsOf}
use Rattle.c_handle.specs.declared.held.Held as generic
use Rattle.book_c.proofs.zaulinte_book_signal_to.Goals as goal

pub returns-clause-of : goal.returns-clause-of
returns-clause-of c = λ h o. (
  c.in-Some.ensures.value.0,
  c.signal_to.ensures.of h (subst (λ (b : Contents). IsOf b h)
      (sym (c.in-Some.ensures.value.1 ∙ ap (λ (s : generic.Held Contents). s.handle.value) c.held.ensures.value)) o.of),
)
