use Rattle.std.proofs.Common.{◌∷◌, ap, ◌∙◌}
use Rattle.line_text.proofs.Spelling.{words_of-next}
use Rattle.line_text.proofs.LongLines.{one_number-long}
use Rattle.line_text.proofs.forms.one_number.Goals as goal

pub returns-in-Some : goal.returns-in-Some
returns-in-Some c =
    let r1 = c.in_ok-rest.field-0 in
    let r2 = c.in-Some.field-0 in
    let w1 = c.first_word.result.0 in
    let w2 = c.first_word-2.result.0 in
    one_number-long c.args.word.now c.args.line.now w1.now w2.now r2.now
    (words_of-next c.args.line.now w1 c.first_word.result.1 r1 c.first_word.ensures c.in_ok-rest.was
    ∙ ap (λ x. w1.now ∷ x) (words_of-next r1.now w2 c.first_word-2.result.1 r2 c.first_word-2.ensures c.in-Some.is))
