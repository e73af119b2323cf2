use Rattle.std.proofs.Common.{inl, inr, sym, subst, ap, ◌∙◌}
use Rattle.hoare_law.specs.Events.{opened}
use Rattle.hoare_law.specs.Sizes.{sizes_of}
use Rattle.wait_book.specs.Contents.{Contents, IsOf}
use Rattle.c_handle.specs.declared.held.Held as generic
use Rattle.book_c.specs.Words.{to_c}
use Rattle.book_c.proofs.zaulinte_book_make.Goals as goal
use Rattle.book_c.proofs.zaulinte_book_make.Goals.{in-Ok-keep, in-Err-keep}

pub returns-clause-made : goal.returns-clause-made
returns-clause-made c = λ empty allowed.
    elim c.match-keep.branch [
      | in-Ok-keep w ↦ inl (
        w.result-is,
        record {
          live_is = w.in-Ok-keep.ensures.0;
          of = subst (λ (b : Contents). IsOf b (opened (sizes_of c.args.conditions c.args.mesa c.args.places) tt))
              (sym (w.in-Ok-keep.ensures.1 ∙ c.new.ensures)) c.in-Ok.ensures.made.1;
        },
      )
      | in-Err-keep w ↦ inr (
        w.result-is,
        ap (λ (s : generic.Held Contents). to_c s) (w.in-Err-keep.ensures.1 ∙ c.held.ensures.value),
      )
    ]
