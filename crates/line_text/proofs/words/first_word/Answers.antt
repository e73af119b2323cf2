use Rattle.std.proofs.Common.{◌≡◌, ℕ, ◌+◌, ◌-◌, length, take, drop, List, ◌∷◌, ap, sym, ◌∙◌, arith, add-one}
use Rattle.std.proofs.Common.{length-drop}
use Rattle.line_text.specs.Words.{words_of}
use Rattle.line_text.proofs.Spelling.{slice_split-at_first, slice_split-whole}
use Rattle.std.proofs.lemmas.List.{take_all}
use Rattle.line_text.proofs.words.first_word.Goals as goal

pub returns-then-b-eq32 : goal.returns-then-b-eq32
returns-then-b-eq32 c =
    let line : List ℕ = c.args.line.now in
    let i : ℕ = c.loop-i.i in
    let rest : take (length line - (i + 1)) (drop (i + 1) line) ≡ drop (i + 1) line =
    take_all _ _ (omega (arith, length-drop (i + 1) line)) in
    slice_split-at_first 32 line i c.loop-i.invariant c.loop-i-test.true c.if-b-eq32.true
    ∙ ap (λ w. take i line ∷ words_of w) (sym (rest ∙ ap (λ n. drop n line) (add-one i)))

pub returns : goal.returns
returns c = slice_split-whole 32 c.args.line.now (λ k h. c.loop-i.invariant k (omega arith))
