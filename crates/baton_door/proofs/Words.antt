-- The state word, and whose turn it is.
use Rattle.std.proofs.Common.{◌≡◌, ℕ, ◌+◌, refl, arith, ap}
use Rattle.hoare_law.specs.declared.turn.Turn.{Turn}
use Rattle.hoare_law.specs.declared.turn.Turn.TheVariants.{Free, Held, Owed, Return}
use Rattle.wait_book.specs.Contents.{next_of}
use Rattle.baton_door.specs.Rule.{word_of}
use Rattle.door_frame.proofs.Steps.{IsDue, owed, returning}
use Rattle.baton_door.specs.Words.{word_of_next}

pub word_of-next : (t : Turn) → word_of_next (next_of t) ≡ word_of t
word_of-next Free = refl
word_of-next (Held k) = refl
word_of-next (Owed k c) = refl
word_of-next (Return k) = refl

-- if the state word is 0, it is the turn of no place
pub word_of-free : (t : Turn) → word_of t ≡ 0 → t ≡ Free
word_of-free Free e = refl
word_of-free (Held k) e = absurd (omega arith)
word_of-free (Owed k c) e = absurd (omega arith)
word_of-free (Return k) e = absurd (omega arith)

-- if the state word is k + 2, the monitor is owed to place k or returns to it
pub word_of-due : (t : Turn) (k : ℕ) → word_of t ≡ k + 2 → IsDue k t
word_of-due Free k e = absurd (omega arith)
word_of-due (Held j) k e = absurd (omega arith)
word_of-due (Owed j c) k e = owed c (let same : j ≡ k = omega arith in ap (λ i. Owed i c) same)
word_of-due (Return j) k e = returning (let same : j ≡ k = omega arith in ap (λ i. Return i) same)
