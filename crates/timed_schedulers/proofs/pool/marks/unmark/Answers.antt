use Rattle.std.proofs.Common.{ap, ◌∙◌, arith, w64}
use Rattle.std.specs.Int.{bit_at}
use Rattle.std.proofs.lemmas.List.{get_or_read}
use Rattle.std.proofs.lemmas.Nat.Bits.{bit_at_clear_same, bit_at_clear_other}
use Rattle.timed_schedulers.proofs.Marks.{mark_of-set_same, mark_of-set_other}
use Rattle.timed_schedulers.proofs.pool.marks.unmark.Goals as goal

pub returns-clause-unmarked : goal.returns-clause-unmarked
returns-clause-unmarked c =
    mark_of-set_same c.args.words.now.items c.args.i _ c.requires ∙ bit_at_clear_same w64 _ _ (omega arith)

pub returns-clause-others : goal.returns-clause-others
returns-clause-others c = λ j other. mark_of-set_other c.args.words.now.items c.args.i j _ c.requires other
    (λ k small apart. bit_at_clear_other w64 _ _ (omega arith) k small apart
    ∙ ap (λ n. bit_at n k) (get_or_read c.args.words.now.items _ _ c.requires c.index_mut.ensures.value 0))
