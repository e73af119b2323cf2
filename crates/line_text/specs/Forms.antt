-- Lines of a fixed form: a word, and one to three numbers.
use Rattle.std.specs.Prelude.{ℕ, if◌then◌else◌, List, [], ◌∷◌, Option, Some, None}
use Rattle.std.specs.Str.{bytes_eq}
use Rattle.line_text.specs.Words.{number_of, with_number, words_of}

-- the number, if these words are the word and a number
abbrev pub one_of_words : List ℕ → List (List ℕ) → Option ℕ
one_of_words word (w ∷ a ∷ []) = if bytes_eq w word then number_of a else None
one_of_words word _ = None

-- the number of a line that is the word and a number
unfoldable pub one_number : List ℕ → List ℕ → Option ℕ
one_number word line = one_of_words word (words_of line)

-- the two numbers, if these words are the word and two numbers
abbrev pub two_of_words : List ℕ → List (List ℕ) → Option (ℕ × ℕ)
two_of_words word (w ∷ a ∷ b ∷ []) =
    if bytes_eq w word then with_number (number_of a) (λ x. with_number (number_of b) (λ y. Some (x, y)))
    else None
two_of_words word _ = None

-- the two numbers of a line that is the word and two numbers
unfoldable pub two_numbers : List ℕ → List ℕ → Option (ℕ × ℕ)
two_numbers word line = two_of_words word (words_of line)

-- the three numbers, if these words are the word and three numbers
abbrev pub three_of_words : List ℕ → List (List ℕ) → Option (ℕ × ℕ × ℕ)
three_of_words word (w ∷ a ∷ b ∷ c ∷ []) =
    if bytes_eq w word then
    with_number (number_of a) (λ x. with_number (number_of b) (λ y. with_number (number_of c) (λ z. Some (x, y, z))))
    else None
three_of_words word _ = None

-- the three numbers of a line that is the word and three numbers
unfoldable pub three_numbers : List ℕ → List ℕ → Option (ℕ × ℕ × ℕ)
three_numbers word line = three_of_words word (words_of line)
