-- How a pool is kept after a buffer's owner changed, and which free buffer is the least-numbered.
use Rattle.std.proofs.Common.{◌≡◌, ◌≢◌, ◌==◌, ℕ, suc, ◌+◌, ◌<◌, ◌≤◌, Bool, true, false, not, cond, List, [], ◌∷◌}
use Rattle.std.proofs.Common.{length, get_or, set, Option, Some, None, inl, inr, refl, sym, ap, subst, ◌∙◌, arith}
use Rattle.std.specs.Prelude.{IfSome, is_none, All}
use Rattle.std.specs.List.{count_by, position, position_or_len, prefix_len}
use Rattle.std.proofs.lemmas.Bool.{cases_eq, cases_order, eq-eqb, ne_eqb, lt-ltb}
use Rattle.std.proofs.lemmas.List.{get_or-set_same, get_or-set_other, length-set}
use Rattle.std.proofs.lemmas.List.Elements.{All-set}
use Rattle.std.proofs.lemmas.List.Quantifiers.{position-Some}
use Rattle.std.proofs.lemmas.List.Sums.{sum_by-cons, get_or-le-sum_by, count_by-le-length, passes_at_first}
use Rattle.std.proofs.lemmas.List.Sums.{fails_before_first}
use Rattle.timed_schedulers.specs.Pools.{is_own}
use Rattle.timed_schedulers.proofs.Pools.{one_if, count_by-set}
use Rattle.timed_schedulers.specs.Marks.{mark_of, owned, IsKept}

-- if some elements pass, the first that passes is in the list
some_passes : {X : Type 0} (p : X → Bool) (xs : List X) → 0 < count_by p xs → position_or_len p xs < length xs
some_passes p [] some = absurd (omega arith)
some_passes p (x ∷ xs) some =
    elim (p x) as (λ b. 0 < cond b 1 0 + count_by p xs
    → cond (not b) (1 + prefix_len (λ y. not (p y)) xs) 0 < suc (length xs)) [
      | true ↦ λ all. omega arith
      | false ↦ λ others. let later = some_passes p xs (omega arith) in omega arith
    ] (rw (← sum_by-cons (one_if p) x xs) some)

is_none-None : (o : Option ℕ) → is_none o ≡ true → o ≡ None
is_none-None None is = refl
is_none-None (Some s) is = cc

owned-some : (o : Option ℕ) → is_none o ≡ false → owned o ≡ 1
owned-some None is = cc
owned-some (Some s) is = refl

-- the first free buffer is a buffer, and free
pub free_first : (owners : List (Option ℕ)) {b : ℕ} → position is_none owners ≡ Some b
    → (b < length owners) × (get_or owners b None ≡ None)
free_first owners {b = b} first =
    let there = position-Some is_none owners b None first in
    (there.0, is_none-None _ there.1)

-- if a buffer is free, the least number with no mark is that of the first free buffer
pub first_unmarked : {owners : List (Option ℕ)} {counts words read : List ℕ} {free b : ℕ}
    → IsKept owners counts free words → 0 < count_by is_none owners
    → read ≡ words → mark_of read b ≡ 0 → ((i : ℕ) → i < b → mark_of read i ≡ 1) → position is_none owners ≡ Some b
first_unmarked {owners = owners} {words = words} {b = b} kept some same unmarked least =
    let first = position_or_len is_none owners in
    let within : first < length owners = some_passes is_none owners some in
    let free : mark_of words first ≡ 0 =
    kept.marked first within ∙ ap owned (is_none-None _ (passes_at_first is_none owners None within)) in
    let below : (i : ℕ) → i < b → mark_of words i ≡ 1 = rw same at least in
    let here : mark_of words b ≡ 0 = rw same at unmarked in
    let is : first ≡ b = elim (cases_order first b) [
      | inl equal ↦ equal
      | inr (inl before) ↦ absurd (let marked = below first before in omega arith)
      | inr (inr after) ↦ absurd (let marked : mark_of words b ≡ 1 = kept.marked b (omega arith)
          ∙ owned-some _ (fails_before_first is_none owners b None after) in omega arith)
    ] in
    rw (lt-ltb first (length owners) within, is) refl

-- no stream holds more than all buffers
pub IsKept-few : {owners : List (Option ℕ)} {counts words : List ℕ} {free : ℕ} (s : ℕ) → IsKept owners counts free words
    → get_or counts s 0 ≤ 1024
IsKept-few {owners = owners} s kept =
    omega (arith, kept.counted s, kept.size.most_buffers, count_by-le-length (is_own s) owners)

-- the pool is kept after b got another owner, if the counts and the marks were changed accordingly
IsKept-set : {owners : List (Option ℕ)} {counts words counts1 words1 : List ℕ} {free free1 b : ℕ} (old new : Option ℕ)
    → IsKept owners counts free words
    → b < length owners → get_or owners b None ≡ old → IfSome new (λ s. s < length counts)
    → length counts1 ≡ length counts
    → ((t : ℕ) → get_or counts1 t 0 + one_if (is_own t) old ≡ get_or counts t 0 + one_if (is_own t) new)
    → free1 + one_if is_none old ≡ free + one_if is_none new
    → length words1 ≡ length words → mark_of words1 b ≡ owned new
    → ((j : ℕ) → j ≢ b → mark_of words1 j ≡ mark_of words j)
    → IsKept (set owners b new) counts1 free1 words1
IsKept-set {owners = owners} {counts = counts} {words = words} {counts1 = counts1} {words1 = words1}
    {b = b} old new kept within is stream as_many told told_free as_long here others = record {
      size = rw (length-set owners b new, as_many) kept.size;
      streams = subst (λ n. All (λ owner. IfSome owner (λ s. s < n)) (set owners b new)) (sym as_many)
          (All-set (λ owner. IfSome owner (λ s. s < length counts)) owners b new stream kept.streams);
      counted = λ t. omega (arith, told t, kept.counted t, count_by-set (is_own t) owners b old new within is);
      free_counted = omega (arith, kept.free_counted, count_by-set is_none owners b old new within is);
      few_words = omega (arith, kept.few_words);
      enough_words = omega (arith, kept.enough_words, length-set owners b new);
      marked = λ i below. elim (cases_eq i b) [
        | inl same ↦ rw (same, get_or-set_same owners b new None within) here
        | inr apart ↦ rw (get_or-set_other owners b i new None apart)
            (others i apart ∙ kept.marked i (omega (arith, length-set owners b new)))
      ];
    }

-- the count of s is one more
counts-more : (counts : List ℕ) (s : ℕ) → s < length counts → (t : ℕ)
    → get_or (set counts s (get_or counts s 0 + 1)) t 0 + 0 ≡ get_or counts t 0 + cond (s == t) 1 0
counts-more counts s within t = elim (cases_eq t s) [
  | inl same ↦ rw (same, eq-eqb s s refl, get_or-set_same counts s (get_or counts s 0 + 1) 0 within) (omega arith)
  | inr apart ↦ rw (ne_eqb s t (λ e. apart (sym e)), get_or-set_other counts s t (get_or counts s 0 + 1) 0 apart) refl
]

-- the count of s is one less
counts-less : (counts : List ℕ) (s n : ℕ) → s < length counts → get_or counts s 0 ≡ n + 1 → (t : ℕ)
    → get_or (set counts s n) t 0 + cond (s == t) 1 0 ≡ get_or counts t 0 + 0
counts-less counts s n within some t = elim (cases_eq t s) [
  | inl same ↦ rw (same, eq-eqb s s refl, get_or-set_same counts s n 0 within) (omega arith)
  | inr apart ↦ rw (ne_eqb s t (λ e. apart (sym e)), get_or-set_other counts s t n 0 apart) refl
]

-- b got the owner s
pub IsKept-own : {owners : List (Option ℕ)} {counts words words1 : List ℕ} {free free1 b s : ℕ} (n : ℕ)
    → IsKept owners counts free words → b < length owners
    → get_or owners b None ≡ None → s < length counts → n ≡ get_or counts s 0 + 1 → free1 + 1 ≡ free
    → length words1 ≡ length words → mark_of words1 b ≡ 1
    → ((j : ℕ) → j ≢ b → mark_of words1 j ≡ mark_of words j)
    → IsKept (set owners b (Some s)) (set counts s n) free1 words1
IsKept-own {counts = counts} {s = s} n kept within is stream more told_free as_long here others =
    IsKept-set None (Some s) kept within is stream (length-set counts s n) (rw more (counts-more counts s stream))
    (omega arith) as_long here others

-- the owner of b is a stream, and holds a buffer
pub IsKept-owner : {owners : List (Option ℕ)} {counts words : List ℕ} {free b s : ℕ} → IsKept owners counts free words
    → b < length owners
    → get_or owners b None ≡ Some s → (s < length counts) × (1 ≤ get_or counts s 0)
IsKept-owner {owners = owners} {counts = counts} {b = b} {s = s} kept within is = (
  rw is at (kept.streams b None within),
  omega
      (arith, kept.counted s, rw (is, eq-eqb s s refl) at (get_or-le-sum_by (one_if (is_own s)) owners b None within)),
)

-- b became free
pub IsKept-free : {owners : List (Option ℕ)} {counts words words1 : List ℕ} {free free1 b s : ℕ} (n : ℕ)
    → IsKept owners counts free words → b < length owners
    → get_or owners b None ≡ Some s → n + 1 ≡ get_or counts s 0 → free1 ≡ free + 1 → length words1 ≡ length words
    → mark_of words1 b ≡ 0
    → ((j : ℕ) → j ≢ b → mark_of words1 j ≡ mark_of words j) → IsKept (set owners b None) (set counts s n) free1 words1
IsKept-free {counts = counts} {s = s} n kept within is fewer told_free as_long here others =
    IsKept-set (Some s) None kept within is tt (length-set counts s n)
    (counts-less counts s n (IsKept-owner kept within is).0 (sym fewer)) (omega arith) as_long here others
