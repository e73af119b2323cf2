-- What `output_from` has of a script, by how its next line ends.
use Rattle.std.proofs.Common.{◌≡◌, ◌≢◌, ℕ, suc, ◌+◌, ◌-◌, ◌<◌, ◌≤◌, Bool, true, false, cond, ltb, List, [], ◌∷◌, ◌++◌}
use Rattle.std.proofs.Common.{length, take}
use Rattle.std.proofs.Common.{refl, ap, sym, ◌∙◌, length-append, arith}
use Rattle.std.specs.List.{slice_split}
use Rattle.std.proofs.Math.Seq.{take-append-add, take-append_seam}
use Rattle.std.proofs.lemmas.Bool.{lt-ltb, le-ltb}
use Rattle.std.proofs.lemmas.Bool.Decides.{nat_tests}
use Rattle.std.proofs.lemmas.List.{take_all}
use Rattle.std.proofs.lemmas.List.Splits.{slice_split_at, slice_split_none}
use Rattle.hoare_script.specs.declared.fault.ScriptFault.TheVariants as faults
use Rattle.line_text.proofs.Spelling.{slice_split-some, slice_split-longer}
use Rattle.line_text.specs.Line.{NoNewline, is_newline}
use Rattle.hoare_script.specs.Scripts.{State, Ending, stop, one_line, then_on, output_of_lines, output_from}

-- two tests with the same result
ltb-same : (a b c d : ℕ) → (a < b → c < d) → (c < d → a < b) → ltb a b ≡ ltb c d
ltb-same a b c d f g = grind (arith, nat_tests)

-- a line that others follow
output_of_lines-line : (e : Ending) (over : Bool) (s : State) (i : ℕ) (l : List ℕ) (parts : List (List ℕ))
    → (parts ≡ [] → ⊥)
    → length l ≤ 256
    → output_of_lines e over s i (l ∷ parts) ≡ then_on (one_line s i l) (λ t. output_of_lines e over t (i + 1) parts)
output_of_lines-line e over s i l [] n h = absurd (n refl)
output_of_lines-line e over s i l (p ∷ ps) n h = rw (le-ltb 256 (length l) h) refl

-- a line of over 256 bytes
output_of_lines-long : (e : Ending) (over : Bool) (s : State) (i : ℕ) (l : List ℕ) (parts : List (List ℕ)) → 256 <
    length l
    → output_of_lines e over s i (l ∷ parts) ≡ stop (faults.LineTooLong i)
output_of_lines-long e over s i l [] h = rw (lt-ltb 256 (length l) h) refl
output_of_lines-long e over s i l (p ∷ ps) h = rw (lt-ltb 256 (length l) h) refl

-- the line and its end, if there is room for both
take-line : (room : ℕ) (l : List ℕ) (b : ℕ) (x : List ℕ) → length l < room
    → take room (l ++ b ∷ x) ≡ l ++ b ∷ take (room - (length l + 1)) x
take-line room l b x h =
    let e : room ≡ length l + suc (room - (length l + 1)) = omega arith in
    ap (λ n. take n (l ++ b ∷ x)) e ∙ take-append-add l (b ∷ x) (suc (room - (length l + 1)))

-- a line with its end
pub output_from-line : (e : Ending) (s : State) (i room : ℕ) (l x : List ℕ) → NoNewline l → length l ≤ 256
    → length l < room
    → output_from e s i room (l ++ 10 ∷ x) ≡ then_on (one_line s i l)
    (λ t. output_from e t (i + 1) (room - (length l + 1)) x)
unfolding output_from
output_from-line e s i room l x n h r =
    let m : ℕ = room - (length l + 1) in
    let parts : slice_split is_newline (take room (l ++ 10 ∷ x)) ≡ l ∷ slice_split is_newline (take m x) =
    ap (slice_split is_newline) (take-line room l 10 x r) ∙ slice_split_at is_newline l 10 (take m x) n refl in
    let over : ltb room (length (l ++ 10 ∷ x)) ≡ ltb m (length x) =
    ltb-same _ _ _ _ (λ a. omega (arith, length-append l (10 ∷ x))) (λ a. omega (arith, length-append l (10 ∷ x))) in
    rw (parts, over) (output_of_lines-line e (ltb m (length x)) s i l (slice_split is_newline (take m x))
    (slice_split-some is_newline (take m x)) h)

-- a line that is too long
pub output_from-long_line : (e : Ending) (s : State) (i room : ℕ) (l : List ℕ) (b : ℕ) (x : List ℕ) → NoNewline l → b ≢
    10
    → length l ≡ 256 → 256 < room
    → output_from e s i room (l ++ b ∷ x) ≡ stop (faults.LineTooLong i)
unfolding output_from
output_from-long_line e s i room l b x n d h r =
    let over : Bool = ltb room (length (l ++ b ∷ x)) in
    let f = slice_split-longer l (take (room - (length l + 1)) x) b n d in
    ap (output_of_lines e over s i) (ap (slice_split is_newline) (take-line room l b x (omega arith)) ∙ f.2)
    ∙ output_of_lines-long e over s i f.0 f.1 (omega (arith, h, f.3))

-- what follows the last whole line
output_of_lines-last : (e : Ending) (over : Bool) (s : State) (i : ℕ) (l : List ℕ) → length l ≤ 256
    → output_of_lines e over s i (l ∷ []) ≡ cond over (stop faults.TooMuch) (e s i l)
output_of_lines-last e over s i l h = rw (le-ltb 256 (length l) h) refl

-- a byte past the limit
pub output_from-past_limit : (e : Ending) (s : State) (i room : ℕ) (l : List ℕ) (b : ℕ) (x : List ℕ) → NoNewline l
    → length l ≤ 256 → length l ≡ room
    → output_from e s i room (l ++ b ∷ x) ≡ stop faults.TooMuch
unfolding output_from
output_from-past_limit e s i room l b x n h r =
    let bytes : take room (l ++ b ∷ x) ≡ l = ap (λ m. take m (l ++ b ∷ x)) (sym r) ∙ take-append_seam l (b ∷ x) in
    let parts : slice_split is_newline (take room (l ++ b ∷ x)) ≡ l ∷ [] =
    ap (slice_split is_newline) bytes ∙ slice_split_none is_newline l n in
    let over : ltb room (length (l ++ b ∷ x)) ≡ true = lt-ltb _ _ (omega (arith, length-append l (b ∷ x))) in
    rw (parts, over) (output_of_lines-last e true s i l h)

-- the end of the input, or of what could be read
pub output_from-end : (e : Ending) (s : State) (i room : ℕ) (l : List ℕ) → NoNewline l → length l ≤ 256 → length l ≤
    room
    → output_from e s i room l ≡ e s i l
unfolding output_from
output_from-end e s i room l n h r =
    let parts : slice_split is_newline (take room l) ≡ l ∷ [] =
    ap (slice_split is_newline) (take_all room l r) ∙ slice_split_none is_newline l n in
    let over : ltb room (length l) ≡ false = le-ltb _ _ r in
    rw (parts, over) (output_of_lines-last e false s i l h)
