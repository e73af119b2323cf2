-- Lines of more words than a form has.
use Rattle.std.proofs.Common.{◌≡◌, ◌∙◌, List, [], ◌∷◌, ℕ, None, refl, ap, sym}
use Rattle.line_text.proofs.Spelling.{slice_split-some}
use Rattle.line_text.specs.Words.{is_space, words_of}
use Rattle.line_text.specs.Forms.{one_number, one_of_words, two_numbers, two_of_words, three_numbers, three_of_words}

one_of_words-long : (word w a : List ℕ) (ws : List (List ℕ)) → (ws ≡ [] → ⊥) → one_of_words word (w ∷ a ∷ ws) ≡ None
one_of_words-long word w a [] h = absurd (h refl)
one_of_words-long word w a (x ∷ xs) h = refl

-- a line of more words
pub one_number-long : (word line w a r : List ℕ) → words_of line ≡ w ∷ a ∷ words_of r → None ≡ one_number word line
unfolding one_number
one_number-long word line w a r h =
    sym (ap (one_of_words word) h ∙ one_of_words-long word w a (words_of r) (slice_split-some is_space r))

two_of_words-long : (word w a b : List ℕ) (ws : List (List ℕ)) → (ws ≡ [] → ⊥)
    → two_of_words word (w ∷ a ∷ b ∷ ws) ≡ None
two_of_words-long word w a b [] h = absurd (h refl)
two_of_words-long word w a b (x ∷ xs) h = refl

pub two_numbers-long : (word line w a b r : List ℕ) → words_of line ≡ w ∷ a ∷ b ∷ words_of r
    → None ≡ two_numbers word line
unfolding two_numbers
two_numbers-long word line w a b r h =
    sym (ap (two_of_words word) h ∙ two_of_words-long word w a b (words_of r) (slice_split-some is_space r))

three_of_words-long : (word w a b c : List ℕ) (ws : List (List ℕ)) → (ws ≡ [] → ⊥)
    → three_of_words word (w ∷ a ∷ b ∷ c ∷ ws) ≡ None
three_of_words-long word w a b c [] h = absurd (h refl)
three_of_words-long word w a b c (x ∷ xs) h = refl

pub three_numbers-long : (word line w a b c r : List ℕ) → words_of line ≡ w ∷ a ∷ b ∷ c ∷ words_of r
    → None ≡ three_numbers word line
unfolding three_numbers
three_numbers-long word line w a b c r h =
    sym (ap (three_of_words word) h ∙ three_of_words-long word w a b c (words_of r) (slice_split-some is_space r))
