use Rattle.std.proofs.Common.{inl, inr, arith}
use Rattle.line_text.proofs.Spelling.{digits_of-no_digit, digits_of-too_big, digits_of-value}
use Rattle.line_text.proofs.words.digits.Goals as goal
use Rattle.line_text.proofs.words.digits.Goals.{then-b-lt48-via-then-b-lt48, then-b-lt48-via-else-b-lt48+then-b-gt57}

pub returns-then-b-lt48 : goal.returns-then-b-lt48
returns-then-b-lt48 c =
    digits_of-no_digit c.args.word.now c.loop-b.b-index c.loop-b-test.true c.loop-b.invariant.digits
    (elim c.then-b-lt48.branch [
      | then-b-lt48-via-then-b-lt48 w ↦ inl w.if-b-lt48.true
      | then-b-lt48-via-else-b-lt48+then-b-gt57 w ↦ inr w.if-b-gt57.true
    ])

pub returns-in_default : goal.returns-in_default
returns-in_default c =
    digits_of-too_big c.args.word.now c.loop-b.value c.loop-b.b-index c.loop-b-test.true c.loop-b.invariant.value
    (omega (arith, c.in_default.ensures))

pub returns-in_default-checked_add : goal.returns-in_default-checked_add
returns-in_default-checked_add c =
    digits_of-too_big c.args.word.now c.loop-b.value c.loop-b.b-index c.loop-b-test.true c.loop-b.invariant.value
    (omega (arith, c.in-Some.ensures, c.in_default-checked_add.ensures))

pub returns : goal.returns
returns c =
    digits_of-value c.args.word.now c.loop-b.value c.loop-b.b-index c.loop-b-test.false c.loop-b.invariant.digits
    c.loop-b.invariant.value c.loop-b.invariant.fits
