-- The marks in words after a write of one word, and the least number without a mark.
use Rattle.std.proofs.Common.{◌≡◌, ◌≢◌, ℕ, ◌+◌, ◌-◌, ◌*◌, ◌/◌, ◌%◌, ◌^◌, ◌<◌, List, length, get_or, set, inl, inr, refl}
use Rattle.std.proofs.Common.{◌∙◌, arith}
use Rattle.std.specs.Int.{bit_at}
use Rattle.std.proofs.lemmas.Bool.{cases_eq, cases_lt}
use Rattle.std.proofs.lemmas.List.{get_or-set_same, get_or-set_other}
use Rattle.std.proofs.lemmas.Nat.Bits.{bit_at_ones}
use Rattle.timed_schedulers.specs.Marks.{mark_of}

-- the mark of i is that of the written word
pub mark_of-set_same : (words : List ℕ) (i x : ℕ) → i / 64 < length words
    → mark_of (set words (i / 64) x) i ≡ bit_at x (i % 64)
mark_of-set_same words i x within = rw (get_or-set_same words (i / 64) x 0 within) refl

-- a write that changes only the bit of i leaves the other marks
pub mark_of-set_other : (words : List ℕ) (i j x : ℕ) → i / 64 < length words → j ≢ i
    → ((k : ℕ) → k < 64 → k ≢ i % 64 → bit_at x k ≡ bit_at (get_or words (i / 64) 0) k)
    → mark_of (set words (i / 64) x) j ≡ mark_of words j
mark_of-set_other words i j x within other kept = elim (cases_eq (j / 64) (i / 64)) [
  | inl same ↦ rw (same, get_or-set_same words (i / 64) x 0 within)
      (kept (j % 64) (omega arith) (λ at. other (omega arith)))
  | inr apart ↦ rw (get_or-set_other words (i / 64) (j / 64) x 0 apart) refl
]

-- bit t of word j is the mark of 64 * j + t
pub mark_of-at : (words : List ℕ) (j t : ℕ) → t < 64 → mark_of words (64 * j + t) ≡ bit_at (get_or words j 0) t
mark_of-at words j t small =
    let word : (64 * j + t) / 64 ≡ j = omega arith in
    let place : (64 * j + t) % 64 ≡ t = omega arith in
    rw (word, place) refl

-- all numbers are marked in the words before j, and in word j below bit t
pub marked_below : (words : List ℕ) (j t : ℕ) → t < 65 → ((i : ℕ) → i < 64 * j → mark_of words i ≡ 1)
    → ((k : ℕ) → k < t → bit_at (get_or words j 0) k ≡ 1)
    → (i : ℕ) → i < 64 * j + t → mark_of words i ≡ 1
marked_below words j t small before here i below = elim (cases_lt i (64 * j)) [
  | inl low ↦ before i low
  | inr high ↦
      let k = i - 64 * j in
      let is : i ≡ 64 * j + k = omega arith in
      rw is (mark_of-at words j k (omega arith) ∙ here k (omega arith))
]

-- all numbers of one more word are marked, if all its bits are set
pub marked_more : (words : List ℕ) (j : ℕ) → get_or words j 0 ≡ 2 ^ 64 - 1
    → ((i : ℕ) → i < 64 * j → mark_of words i ≡ 1) → (i : ℕ) → i < 64 * (j + 1) → mark_of words i ≡ 1
marked_more words j full before i below =
    marked_below words j 64 (omega arith) before (λ k small. rw full (bit_at_ones 64 k small)) i (omega arith)
