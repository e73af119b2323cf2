-- Lines of too many words.
use Rattle.std.proofs.Common.{◌≡◌, List, [], ◌∷◌, ℕ, None, refl, ap, sym, ◌∙◌}
use Rattle.line_text.proofs.Spelling.{slice_split-some}
use Rattle.line_text.specs.Words.{is_space, words_of}
use Rattle.hoare_script.specs.Lines.{command_of, command_of_words}

command_of_words-long : (w a b p : List ℕ) (ws : List (List ℕ)) → (ws ≡ [] → ⊥)
    → command_of_words (w ∷ a ∷ b ∷ p ∷ ws) ≡ None
command_of_words-long w a b p [] h = absurd (h refl)
command_of_words-long w a b p (x ∷ xs) h = refl

pub command_of-long : (line w a b p r : List ℕ) → words_of line ≡ w ∷ a ∷ b ∷ p ∷ words_of r → None ≡ command_of line
unfolding command_of
command_of-long line w a b p r h =
    sym (ap command_of_words h ∙ command_of_words-long w a b p (words_of r) (slice_split-some is_space r))
