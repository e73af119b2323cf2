use Rattle.std.proofs.Common.{◌∷◌, ap, ◌∙◌}
use Rattle.line_text.proofs.Spelling.{words_of-next}
use Rattle.hoare_script.proofs.Spelling.{command_of-long}
use Rattle.hoare_script.proofs.lines.parse_command.Goals as goal

pub returns-in-Some-rest-2 : goal.returns-in-Some-rest-2
returns-in-Some-rest-2 c =
    let r1 = c.in_ok-rest.field-0 in
    let r2 = c.in-Some.rest in
    let r3 = c.in-Some-rest.rest in
    let r4 = c.in-Some-rest-2.field-0 in
    let w1 = c.first_word.result.0 in
    let w2 = c.first_word-2.result.0 in
    let w3 = c.first_word-3.result.0 in
    let w4 = c.first_word-4.result.0 in
    command_of-long c.args.line.now w1.now w2.now w3.now w4.now r4.now
    (words_of-next c.args.line.now w1 c.first_word.result.1 r1 c.first_word.ensures c.in_ok-rest.was
    ∙ ap (λ x. w1.now ∷ x) (words_of-next r1.now w2 c.first_word-2.result.1 r2 c.first_word-2.ensures c.in-Some.is
    ∙ ap (λ x. w2.now ∷ x) (words_of-next r2.now w3 c.first_word-3.result.1 r3 c.first_word-3.ensures c.in-Some-rest.is
    ∙ ap (λ x. w3.now ∷ x)
    (words_of-next r3.now w4 c.first_word-4.result.1 r4 c.first_word-4.ensures c.in-Some-rest-2.is))))
