-- What follows the lines of a text that were read.
use Rattle.std.proofs.Common.{◌≡◌, ◌∙◌, ℕ, suc, ◌+◌, ◌-◌, ◌<◌, List, [], ◌∷◌, ◌++◌, length, drop, refl, ap, sym, cond}
use Rattle.std.proofs.Common.{false, append_assoc, length-append, arith}
use Rattle.std.proofs.lemmas.List.Elements.{All-head, All-tail}
use Rattle.std.specs.Io.BufRead.{drop_through}
use Rattle.line_text.proofs.Streams.{drop-read}
use Rattle.line_text.specs.declared.line.TheConstants.{LONGEST_LINE}
use Rattle.line_text.specs.Line.{NoNewline, after_lines, is_newline}

-- what follows a line and its end
drop_through-line : (l x : List ℕ) → NoNewline l → drop_through 10 (l ++ 10 ∷ x) ≡ x
drop_through-line [] x n = refl
drop_through-line (b ∷ l) x n =
    ap (λ t. cond t (l ++ 10 ∷ x) (drop_through 10 (l ++ 10 ∷ x))) (All-head (λ c. is_newline c ≡ false) b l n)
    ∙ drop_through-line l x (All-tail (λ c. is_newline c ≡ false) b l n)

-- nothing follows a line that has no end
drop_through-last : (l : List ℕ) → NoNewline l → drop_through 10 l ≡ []
drop_through-last [] n = refl
drop_through-last (b ∷ l) n =
    ap (λ t. cond t l (drop_through 10 l)) (All-head (λ c. is_newline c ≡ false) b l n)
    ∙ drop_through-last l (All-tail (λ c. is_newline c ≡ false) b l n)

-- what was read, the line at hand with one byte more, and the rest
pub append-line : (read l : List ℕ) (b : ℕ) (x : List ℕ) → (read ++ (l ++ b ∷ [])) ++ x ≡ read ++ (l ++ b ∷ x)
append-line read l b x = append_assoc read (l ++ b ∷ []) x ∙ ap (λ v. read ++ v) (append_assoc l (b ∷ []) x)

-- reading is at the line with this number: the lines before it were read, and of the text t0 there is t left
pub record AtLine (number : ℕ) (read t0 t : List ℕ) : Type 0 where
  pub some : 0 < number
  pub whole : t0 ≡ read ++ t
  pub behind : t ≡ after_lines (number - 1) t0

-- nothing was read yet
pub AtLine-first : (t : List ℕ) → AtLine 1 [] t t
AtLine-first t = record { some = omega arith; whole = refl; behind = refl }

module _ {number : ℕ} {read t0 t : List ℕ} (g : AtLine number read t0 t) (l x : List ℕ) where
  -- what follows the line at hand
  after_lines-next : after_lines number t0 ≡ drop_through 10 t
  after_lines-next =
      let next : number ≡ suc (number - 1) = omega (arith, g.some) in
      ap (λ i. after_lines i t0) next ∙ ap (drop_through 10) (sym g.behind)

  -- the line at hand and its end are read
  pub after_lines-line : NoNewline l → t ≡ l ++ 10 ∷ x → x ≡ after_lines number t0
  after_lines-line n e = sym (after_lines-next ∙ ap (drop_through 10) e ∙ drop_through-line l x n)

  -- the line at hand is read, and is the last
  pub after_lines-last : NoNewline l → t ≡ l → x ≡ [] → x ≡ after_lines number t0
  after_lines-last n e z = z ∙ sym (after_lines-next ∙ ap (drop_through 10) e ∙ drop_through-last l n)

  -- as many bytes of the line at hand are read as a line may have, and one byte more
  pub after_lines-long_line : (b : ℕ) → length l ≡ LONGEST_LINE → t ≡ l ++ b ∷ x
      → x ≡ drop (LONGEST_LINE + 1) (after_lines (number - 1) t0)
  after_lines-long_line b h e =
      let bytes : after_lines (number - 1) t0 ≡ (l ++ b ∷ []) ++ x =
      sym g.behind ∙ e ∙ sym (append_assoc l (b ∷ []) x) in
      sym
      (ap (drop (LONGEST_LINE + 1)) bytes
      ∙ drop-read (LONGEST_LINE + 1) (l ++ b ∷ []) x (omega (arith, length-append l (b ∷ []), h)))

  -- reading is at the next line
  pub AtLine-next : NoNewline l → t ≡ l ++ 10 ∷ x → AtLine (number + 1) (read ++ (l ++ 10 ∷ [])) t0 x
  AtLine-next n e =
      let same : number ≡ number + 1 - 1 = omega arith in
      record {
        some = omega arith;
        whole = g.whole ∙ ap (λ v. read ++ v) e ∙ sym (append-line read l 10 x);
        behind = after_lines-line n e ∙ ap (λ i. after_lines i t0) same;
      }
