use Rattle.std.proofs.Common.{arith, w64, get_or, ◌∙◌}
use Rattle.std.proofs.lemmas.Nat.Bits.{bit_at-trailing_ones}
use Rattle.timed_schedulers.proofs.Marks.{mark_of-at, marked_below, marked_more}
use Rattle.timed_schedulers.proofs.pool.marks.least_unmarked.Goals as goal

pub returns-then-words-j-clause-unmarked : goal.returns-then-words-j-clause-unmarked
returns-then-words-j-clause-unmarked c =
    let word =
    bit_at-trailing_ones w64 (get_or c.args.words.now c.loop-j.j 0) (omega (arith, c.type_inv.words c.loop-j.j)) in
    rw c.trailing_ones.ensures (mark_of-at c.args.words.now c.loop-j.j _ word.0 ∙ word.1)

pub returns-then-words-j-clause-least : goal.returns-then-words-j-clause-least
returns-then-words-j-clause-least c =
    let word =
    bit_at-trailing_ones w64 (get_or c.args.words.now c.loop-j.j 0) (omega (arith, c.type_inv.words c.loop-j.j)) in
    rw c.trailing_ones.ensures
    (marked_below c.args.words.now c.loop-j.j _ (omega (arith, word.0)) c.loop-j.invariant word.2)

pub loop-j-preserved : goal.loop-j-preserved
loop-j-preserved c = marked_more c.args.words.now c.loop-j.j (omega arith) c.loop-j.invariant
