-- Words and numbers.
use Rattle.std.proofs.Common.{◌≡◌, ◌≢◌, ℕ, suc, zero, ◌+◌, ◌*◌, ◌-◌, ◌^◌, ◌<◌, ◌≤◌, Bool, true, false, cond, eqb, ltb}
use Rattle.std.proofs.Common.{◌&&◌}
use Rattle.std.proofs.Common.{List, [], ◌∷◌, ◌++◌, length, get_or, take, drop, Option, Some, None, refl, ap, sym, ◌∙◌}
use Rattle.std.proofs.Common.{◌⊎◌, inl, inr, append_assoc, length-append, arith}
use Rattle.std.proofs.lemmas.Bool.{lt-ltb, le-ltb, ne_eqb}
use Rattle.std.proofs.lemmas.Bool.Decides.{nat_tests}
use Rattle.std.proofs.lemmas.Grind.{common_steps}
use Rattle.std.proofs.lemmas.List.Elements.{All-head, All-push, All-tail}
use Rattle.std.proofs.lemmas.List.Splits.{length-slice_split, slice_split-cons_no}
use Rattle.std.specs.Borrow.{Bor}
use Rattle.std.specs.List.{slice_split, onto_first}
use Rattle.line_text.specs.Line.{NoNewline, is_newline}
use Rattle.line_text.specs.Words.{is_digit, all_digits, value_after, digits_of, words_from, words_of}

-- a text is split in at least one part
pub slice_split-some : {X : Type 0} (test : X → Bool) (xs : List X) → slice_split test xs ≡ [] → ⊥
slice_split-some test xs h = omega (arith, length-slice_split test xs, ap length h)

-- the first part ends at the first separator
pub slice_split-at_first : (x : ℕ) (bs : List ℕ) (i : ℕ) → ((k : ℕ) → k < i → get_or bs k 0 ≡ x → ⊥) → i < length bs
    → get_or bs i 0 ≡ x
    → slice_split (λ b. eqb b x) bs ≡ take i bs ∷ slice_split (λ b. eqb b x) (drop (suc i) bs)
slice_split-at_first x [] i n l e = absurd (omega arith)
slice_split-at_first x (b ∷ bs) zero n l e =
    let yes : eqb b x ≡ true = grind (arith, nat_tests) in
    rw yes refl
slice_split-at_first x (b ∷ bs) (suc i) n l e =
    let no : eqb b x ≡ false = ne_eqb b x (n 0 (omega arith)) in
    rw no (ap (onto_first b) (slice_split-at_first x bs i (λ k h. n (suc k) (omega arith)) (omega arith) e))

-- a list without a separator is one part
pub slice_split-whole : (x : ℕ) (bs : List ℕ) → ((k : ℕ) → k < length bs → get_or bs k 0 ≡ x → ⊥)
    → slice_split (λ b. eqb b x) bs ≡ bs ∷ []
slice_split-whole x [] n = refl
slice_split-whole x (b ∷ bs) n =
    let no : eqb b x ≡ false = ne_eqb b x (n 0 (omega arith)) in
    rw no (ap (onto_first b) (slice_split-whole x bs (λ k h. n (suc k) (omega arith))))

-- the first part and the others
cons_of : (parts : List (List ℕ)) → (parts ≡ [] → ⊥) → (p : List ℕ) × (ps : List (List ℕ)) × (parts ≡ p ∷ ps)
cons_of [] n = absurd (n refl)
cons_of (p ∷ ps) n = (p, ps, refl)

-- the first part begins with what has no separator
slice_split-prefix : (l y : List ℕ) → NoNewline l
    → (p : List ℕ) × (ps : List (List ℕ)) × (slice_split is_newline (l ++ y) ≡ (l ++ p) ∷ ps)
slice_split-prefix [] y n = cons_of (slice_split is_newline y) (slice_split-some is_newline y)
slice_split-prefix (c ∷ l) y n =
    let r : (p : List ℕ) × (ps : List (List ℕ)) × (slice_split is_newline (l ++ y) ≡ (l ++ p) ∷ ps) =
    slice_split-prefix l y (All-tail (λ b. is_newline b ≡ false) c l n) in (
      r.0,
      r.1,
      slice_split-cons_no is_newline c (l ++ y) (All-head (λ b. is_newline b ≡ false) c l n)
          ∙ ap (onto_first c) r.2,
    )

-- a line has one more byte, which doesn't end it: the first part has more bytes
pub slice_split-longer : (l y : List ℕ) (b : ℕ) → NoNewline l → b ≢ 10
    → (p : List ℕ) × (ps : List (List ℕ)) × (slice_split is_newline (l ++ b ∷ y) ≡ p ∷ ps) × (length l < length p)
slice_split-longer l y b n d =
    let line : List ℕ = l ++ b ∷ [] in
    let r : (p : List ℕ) × (ps : List (List ℕ)) × (slice_split is_newline (line ++ y) ≡ (line ++ p) ∷ ps) =
    slice_split-prefix line y (All-push (λ c. is_newline c ≡ false) l b n (ne_eqb b 10 d)) in (
      line ++ r.0,
      r.1,
      ap (slice_split is_newline) (sym (append_assoc l (b ∷ []) y)) ∙ r.2,
      omega (arith, length-append line r.0, length-append l (b ∷ [])),
    )

-- with more digits the value is no less
pub value_after-grows : (n : ℕ) (cs : List ℕ) → n ≤ value_after n cs
value_after-grows n [] = omega arith
value_after-grows n (c ∷ cs) = omega (arith, value_after-grows (10 * n + (c - 48)) cs)

-- the test of digits, and their value, from position i on
pub all_digits-drop : (w : List ℕ) (i : ℕ) → i < length w
    → all_digits (drop i w) ≡ (is_digit (get_or w i 0) && all_digits (drop (suc i) w))
all_digits-drop [] i h = absurd (omega arith)
all_digits-drop (c ∷ cs) zero h = refl
all_digits-drop (c ∷ cs) (suc i) h = all_digits-drop cs i (omega arith)

pub value_after-drop : (n : ℕ) (w : List ℕ) (i : ℕ) → i < length w
    → value_after n (drop i w) ≡ value_after (10 * n + (get_or w i 0 - 48)) (drop (suc i) w)
value_after-drop n [] i h = absurd (omega arith)
value_after-drop n (c ∷ cs) zero h = refl
value_after-drop n (c ∷ cs) (suc i) h = value_after-drop n cs i (omega arith)

is_digit-false : (c : ℕ) → ((c < 48) ⊎ (57 < c)) → is_digit c ≡ false
is_digit-false c (inl h) = grind (arith, nat_tests)
is_digit-false c (inr h) = grind (arith, nat_tests)

-- a byte is no digit, so the word has no value
pub digits_of-no_digit : (w : List ℕ) (i : ℕ) → i < length w → all_digits w ≡ all_digits (drop i w)
    → ((get_or w i 0 < 48) ⊎ (57 < get_or w i 0)) → None ≡ digits_of w
unfolding digits_of
digits_of-no_digit w i l a h =
    let e : all_digits w ≡ false =
    a ∙ all_digits-drop w i l ∙ ap (λ b. b && all_digits (drop (suc i) w)) (is_digit-false (get_or w i 0) h) in
    rw e refl

no_both : (a b : Bool) (v : ℕ) → b ≡ false → None ≡ cond (a && b) (Some v) None
no_both true b v h = rw h refl
no_both false b v h = refl

-- the value doesn't fit 64 bits, so the word has none
pub digits_of-too_big : (w : List ℕ) (n i : ℕ) → i < length w → value_after 0 w ≡ value_after n (drop i w)
    → 2 ^ 64 ≤ 10 * n + (get_or w i 0 - 48) → None ≡ digits_of w
unfolding digits_of
digits_of-too_big w n i l v h =
    let e : value_after 0 w ≡ value_after (10 * n + (get_or w i 0 - 48)) (drop (suc i) w) =
    v ∙ value_after-drop n w i l in
    no_both (all_digits w) (ltb (value_after 0 w) (2 ^ 64)) (value_after 0 w)
    (le-ltb (value_after 0 w) (2 ^ 64)
    (omega (arith, value_after-grows (10 * n + (get_or w i 0 - 48)) (drop (suc i) w))))

-- all digits are read, so the word has their value
pub digits_of-value : (w : List ℕ) (n i : ℕ) → length w ≤ i → all_digits w ≡ all_digits (drop i w)
    → value_after 0 w ≡ value_after n (drop i w)
    → n < 2 ^ 64 → Some n ≡ digits_of w
unfolding digits_of
digits_of-value w n i l a v h =
    let d : drop i w ≡ [] = grind (arith, common_steps) in
    let e : all_digits w ≡ true = a ∙ ap all_digits d in
    let f : value_after 0 w ≡ n = v ∙ ap (value_after n) d in
    rw (e, f, lt-ltb n (2 ^ 64) h) refl

-- a first word, and further ones after it
pub words_of-next : (l : List ℕ) (w : Bor (List ℕ)) (o : Option (Bor (List ℕ))) (r : Bor (List ℕ))
    → words_of l ≡ words_from w o → o ≡ Some r → words_of l ≡ w.now ∷ words_of r.now
words_of-next l w o r h e = h ∙ ap (words_from w) e
