-- How a line spells a header or a command. Its words and numbers are those of line_text.
use Rattle.std.specs.Prelude.{ℕ, if◌then◌else◌, List, [], ◌∷◌, Option, Some, None, codes}
use Rattle.std.specs.Str.{bytes_eq}
use Rattle.hoare_law.specs.declared.event.Sizes.{Sizes}
use Rattle.hoare_law.specs.Sizes.{sizes_of}
use Rattle.line_text.specs.Forms.{three_numbers, two_numbers}
use Rattle.line_text.specs.Words.{number_of, with_number, words_of}
use Rattle.wait_book.specs.declared.steps.Step.TheVariants.{Enter, Wait, Signal, Pass, Leave, Notify, Broadcast}
use Rattle.hoare_script.specs.declared.lines.Command.{Command}
use Rattle.hoare_script.specs.declared.lines.Command.TheVariants.{Do, Queue, First}
use Rattle.hoare_script.specs.declared.lines.Header.{Header}

-- the sizes of the monitor that a header asks for
abbrev pub sizes_in : Header → Sizes
sizes_in h = sizes_of h.conditions h.mesa h.places

-- the command with this word and these numbers, if there is one
abbrev pub named_one : List ℕ → ℕ → Option Command
named_one w n =
    if bytes_eq w (codes "enter") then Some (Do (Enter n))
    else (if bytes_eq w (codes "leave") then Some (Do (Leave n))
    else (if bytes_eq w (codes "queue") then Some (Queue n)
    else (if bytes_eq w (codes "first") then Some (First n) else None)))

abbrev pub named_two : List ℕ → ℕ → ℕ → Option Command
named_two w k c =
    if bytes_eq w (codes "signal") then Some (Do (Signal k c))
    else (if bytes_eq w (codes "pass") then Some (Do (Pass k c))
    else (if bytes_eq w (codes "notify") then Some (Do (Notify k c))
    else (if bytes_eq w (codes "broadcast") then Some (Do (Broadcast k c)) else None)))

abbrev pub named_three : List ℕ → ℕ → ℕ → ℕ → Option Command
named_three w k c p = if bytes_eq w (codes "wait") then Some (Do (Wait k c p)) else None

-- the command with this first word, if the one, two or three words after it are numbers
abbrev pub command_of_one : List ℕ → List ℕ → Option Command
command_of_one w a = with_number (number_of a) (named_one w)

abbrev pub command_of_two : List ℕ → List ℕ → List ℕ → Option Command
command_of_two w a b = with_number (number_of a) (λ k. with_number (number_of b) (named_two w k))

abbrev pub command_of_three : List ℕ → List ℕ → List ℕ → List ℕ → Option Command
command_of_three w a b p =
    with_number (number_of a) (λ k. with_number (number_of b) (λ c.
    with_number (number_of p) (named_three w k c)))

abbrev pub command_of_words : List (List ℕ) → Option Command
command_of_words [] = None
command_of_words (w ∷ []) = None
command_of_words (w ∷ a ∷ []) = command_of_one w a
command_of_words (w ∷ a ∷ b ∷ []) = command_of_two w a b
command_of_words (w ∷ a ∷ b ∷ p ∷ []) = command_of_three w a b p
command_of_words (w ∷ a ∷ b ∷ p ∷ x ∷ xs) = None

-- the command that a line spells
unfoldable pub command_of : List ℕ → Option Command
command_of line = command_of_words (words_of line)

-- with three numbers the last conditions are Mesa conditions, as many as the third number says
abbrev pub header_with_mesa : Option (ℕ × ℕ × ℕ) → Option Header
header_with_mesa None = None
header_with_mesa (Some n) = Some (record { places = n.0; conditions = n.1; mesa = n.2 })

-- with two numbers no condition is a Mesa condition
abbrev pub header_with : Option (ℕ × ℕ) → Option (ℕ × ℕ × ℕ) → Option Header
header_with (Some n) three = Some (record { places = n.0; conditions = n.1; mesa = 0 })
header_with None three = header_with_mesa three

-- the header that a line spells, with any numbers
unfoldable pub header_of : List ℕ → Option Header
header_of line = header_with (two_numbers (codes "monitor") line) (three_numbers (codes "monitor") line)
