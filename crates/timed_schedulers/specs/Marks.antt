-- How a pool is kept: which buffers have an owner, as the bits of words, and the counts.
use Rattle.std.specs.Prelude.{ℕ, ◌*◌, ◌/◌, ◌%◌, ◌<◌, ◌≤◌, ◌≡◌, List, length, slice_index, slice_index_or, Option, Some}
use Rattle.std.specs.Prelude.{None, is_none, IfSome, All}
use Rattle.std.specs.List.{count_by}
use Rattle.std.specs.Int.{bit_at}
use Rattle.timed_schedulers.specs.Pools.{IsSize, is_own}

-- 1 if i is marked, else 0
abbrev pub mark_of : List ℕ → ℕ → ℕ
mark_of words i = bit_at (slice_index words (i / 64)) (i % 64)

-- 1 if there is an owner, else 0
abbrev pub owned : Option ℕ → ℕ
owned None = 0
owned (Some s) = 1

-- each owner is a stream; the counts are right, of the buffers that each stream holds and of the free buffers; exactly
-- the buffers with an owner are marked
pub record IsKept (owners : List (Option ℕ)) (counts : List ℕ) (free : ℕ) (words : List ℕ) : Type 0 where
  pub size : IsSize (length owners) (length counts)
  pub streams : All (λ owner. IfSome owner (λ s. s < length counts)) owners
  pub counted : (s : ℕ) → slice_index counts s ≡ count_by (is_own s) owners
  pub free_counted : free ≡ count_by is_none owners
  pub few_words : length words ≤ 16
  pub enough_words : length owners ≤ 64 * length words
  pub marked : (i : ℕ) → i < length owners → mark_of words i ≡ owned (slice_index_or owners i None)
