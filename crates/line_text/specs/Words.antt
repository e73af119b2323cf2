-- The words of a line, and the numbers that they spell.
use Rattle.std.specs.Prelude.{ℕ, ◌+◌, ◌*◌, ◌-◌, ◌^◌, ◌==◌, nat_lt, nat_le, Bool, true, false, not, ◌&&◌, if◌then◌else◌}
use Rattle.std.specs.Prelude.{List, [], ◌∷◌, Option, Some, None}
use Rattle.std.specs.Borrow.{Bor}
use Rattle.std.specs.List.{slice_split}

-- the byte is a space
abbrev pub is_space : ℕ → Bool
is_space b = b == 32

-- the words of a line, which are separated by single spaces
abbrev pub words_of : List ℕ → List (List ℕ)
words_of line = slice_split is_space line

-- the words of a line, given its first word and what follows the space after it
abbrev pub words_from : Bor (List ℕ) → Option (Bor (List ℕ)) → List (List ℕ)
words_from w None = w.now ∷ []
words_from w (Some rest) = w.now ∷ words_of rest.now

-- the byte is a decimal digit
abbrev pub is_digit : ℕ → Bool
is_digit c = nat_le 48 c && nat_le c 57

-- all bytes of the list are decimal digits
abbrev pub all_digits : List ℕ → Bool
all_digits [] = true
all_digits (c ∷ cs) = is_digit c && all_digits cs

-- the word isn't empty, and begins with 0 only if that is its only byte
abbrev pub begins_well : List ℕ → Bool
begins_well [] = false
begins_well (c ∷ []) = true
begins_well (c ∷ d ∷ ds) = not (c == 48)

-- the value of the digits, if n is the value of those before them
abbrev pub value_after : ℕ → List ℕ → ℕ
value_after n [] = n
value_after n (c ∷ cs) = value_after (10 * n + (c - 48)) cs

-- the value of a word of digits, if it fits 64 bits
unfoldable pub digits_of : List ℕ → Option ℕ
digits_of w =
    if all_digits w && nat_lt (value_after 0 w) (2 ^ 64) then Some (value_after 0 w) else None

-- the number that a word spells, if it spells one
unfoldable pub number_of : List ℕ → Option ℕ
number_of w = if begins_well w then digits_of w else None

-- what f makes of the number, if there is one
abbrev pub with_number : {X : Type 0} → Option ℕ → (ℕ → Option X) → Option X
with_number None f = None
with_number (Some n) f = f n
