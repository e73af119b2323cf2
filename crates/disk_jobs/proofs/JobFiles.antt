-- What a job file spells, by how its next line ends.
use Rattle.std.proofs.Common.{◌≡◌, ◌≢◌, ℕ, ◌+◌, ◌<◌, ◌≤◌, List, [], ◌∷◌, ◌++◌, length, Option, Some, Err}
use Rattle.std.proofs.Common.{refl, ap, ◌∙◌, arith}
use Rattle.std.specs.List.{slice_split}
use Rattle.std.proofs.lemmas.Bool.{lt-ltb, le-ltb}
use Rattle.std.proofs.lemmas.List.Splits.{slice_split_at, slice_split_none}
use Rattle.line_text.proofs.Spelling.{slice_split-some, slice_split-longer}
use Rattle.line_text.specs.Line.{NoNewline, is_newline}
use Rattle.disk_jobs.specs.declared.fault.ServiceFault.TheVariants.{BadLine}
use Rattle.disk_jobs.specs.JobLists.{JobList}
use Rattle.disk_jobs.specs.JobTexts.{Ending, one_line, then_on, outcome_of_lines, outcome_from}

-- a line that other lines follow
outcome_of_lines-line : (e : Ending) (s : Option JobList) (i : ℕ) (l : List ℕ) (parts : List (List ℕ))
    → (parts ≡ [] → ⊥)
    → length l ≤ 256
    → outcome_of_lines e s i (l ∷ parts) ≡ then_on (one_line s i l) (λ j. outcome_of_lines e (Some j) (i + 1) parts)
outcome_of_lines-line e s i l [] n h = absurd (n refl)
outcome_of_lines-line e s i l (p ∷ ps) n h = rw (le-ltb 256 (length l) h) refl

-- a line of over 256 bytes
outcome_of_lines-long : (e : Ending) (s : Option JobList) (i : ℕ) (l : List ℕ) (parts : List (List ℕ)) → 256 < length l
    → outcome_of_lines e s i (l ∷ parts) ≡ Err (BadLine i)
outcome_of_lines-long e s i l [] h = rw (lt-ltb 256 (length l) h) refl
outcome_of_lines-long e s i l (p ∷ ps) h = rw (lt-ltb 256 (length l) h) refl

-- a line that ends with a newline
pub outcome_from-line : (e : Ending) (s : Option JobList) (i : ℕ) (l x : List ℕ) → NoNewline l → length l ≤ 256
    → outcome_from e s i (l ++ 10 ∷ x) ≡ then_on (one_line s i l) (λ j. outcome_from e (Some j) (i + 1) x)
unfolding outcome_from
outcome_from-line e s i l x n h =
    ap (outcome_of_lines e s i) (slice_split_at is_newline l 10 x n refl)
    ∙ outcome_of_lines-line e s i l (slice_split is_newline x) (slice_split-some is_newline x) h

-- a line that is too long
pub outcome_from-long_line : (e : Ending) (s : Option JobList) (i : ℕ) (l : List ℕ) (b : ℕ) (x : List ℕ) → NoNewline l
    → b ≢ 10 → length l ≡ 256
    → outcome_from e s i (l ++ b ∷ x) ≡ Err (BadLine i)
unfolding outcome_from
outcome_from-long_line e s i l b x n d h =
    let f = slice_split-longer l x b n d in
    ap (outcome_of_lines e s i) f.2 ∙ outcome_of_lines-long e s i f.0 f.1 (omega (arith, h, f.3))

-- what follows the last whole line
outcome_of_lines-last : (e : Ending) (s : Option JobList) (i : ℕ) (l : List ℕ) → length l ≤ 256
    → outcome_of_lines e s i (l ∷ []) ≡ e s i l
outcome_of_lines-last e s i l h = rw (le-ltb 256 (length l) h) refl

-- the end of the input, or of what could be read
pub outcome_from-end : (e : Ending) (s : Option JobList) (i : ℕ) (l : List ℕ) → NoNewline l → length l ≤ 256
    → outcome_from e s i l ≡ e s i l
unfolding outcome_from
outcome_from-end e s i l n h = ap (outcome_of_lines e s i) (slice_split_none is_newline l n) ∙ outcome_of_lines-last e
    s i l h
