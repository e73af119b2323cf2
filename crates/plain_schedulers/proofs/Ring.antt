-- Lemmas about the cells of a buffer, which are a ring.
use Rattle.std.proofs.Common.{ap, refl, ◌∙◌, ℕ, zero, suc, ◌+◌, ◌-◌, ◌%◌, ◌<◌, ◌≤◌, ◌⊎◌, inl, inr, List, []}
use Rattle.std.proofs.Common.{◌∷◌, ◌++◌, length, get_or, set, take, drop, map, replicate, ◌≡◌, ◌≢◌, Option, Some, None}
use Rattle.std.proofs.Common.{append_assoc, arith, length-append}
use Rattle.std.proofs.Math.Nat.{mod-eq_of_lt, mod-eq-sub-mod}
use Rattle.std.proofs.Math.Seq.{take-set-lt}
use Rattle.std.proofs.lemmas.Bool.{cases_lt}
use Rattle.std.proofs.lemmas.List.{append-nil, length-set, length-take, length-drop, length-map, length-replicate}
use Rattle.std.proofs.lemmas.List.{map-append, set_split, drop_all, drop-drop, drop-append-le, drop-set-lt}
use Rattle.std.proofs.lemmas.List.{drop-set-add, take-set-le, take_more_set, set-append_left, set-append_right, set_at}
use Rattle.std.proofs.lemmas.List.{get_or-append_right, get_or_append_left, get_or-take, get_or-drop, get_or_at}
use Rattle.std.proofs.lemmas.List.{replicate_more}
use Rattle.plain_schedulers.specs.Buffers.{BufferHolds, BufferRests, added, empty}
use Rattle.hoare_law.specs.Priorities.{nobody}
use Rattle.plain_schedulers.specs.Ring.{items_in, turned, ring_view, IsRing}

-- a number below 2n, modulo n: the number itself, or n less
mod_wraps : (a n : ℕ) → a < n + n → ((a < n) × (a % n ≡ a)) ⊎ ((n ≤ a) × (a % n ≡ a - n))
mod_wraps a n once = elim (cases_lt a n) [
  | inl below ↦ inl (below, mod-eq_of_lt below)
  | inr past ↦ inr (past, mod-eq-sub-mod past ∙ mod-eq_of_lt (omega arith))
]

-- there are as many turned cells as cells
length-turned : {T : Type 0} (last : ℕ) (cells : List (Option T)) → last < length cells
    → length (turned last cells) ≡ length cells
length-turned last cells within =
    omega (arith, length-append (drop last cells) (take last cells), length-drop last cells, length-take last cells)

-- the cell `last` was written with x: turned to begin with the next cell, the cells are the turned cells of before
-- without their first, and then x
turned-next : {T : Type 0} (last : ℕ) (cells : List (Option T)) (x : Option T) → last < length cells
    → turned ((last + 1) % length cells) (set cells last x) ≡ drop 1 (turned last cells) ++ x ∷ []
turned-next last cells x within = elim (mod_wraps (last + 1) (length cells) (omega arith)) [
  | inl below ↦ rw (
    below.1,
    drop-set-lt (last + 1) cells last x (omega arith),
    take_more_set cells last x within,
    drop-append-le 1 (drop last cells) (take last cells)
        (omega (arith, length-drop last cells)),
    drop-drop 1 last cells,
    append_assoc (drop (last + 1) cells) (take last cells) (x ∷ []),
  ) refl
  | inr past ↦
      let start : (last + 1) % length cells ≡ 0 = omega arith in
      rw (
        start,
        append-nil (set cells last x),
        set_split cells last x within,
        drop_all (suc last) cells (omega arith),
        drop-append-le 1 (drop last cells)
            (take last cells) (omega (arith, length-drop last cells)),
        drop-drop 1 last cells,
        drop_all (last + 1) cells (omega arith),
      ) refl
]

-- the i-th of the turned cells is the cell i positions after the first of them
get_or-turned : {T : Type 0} (last : ℕ) (cells : List (Option T)) (i : ℕ) (d : Option T) → last < length cells
    → i < length cells
    → get_or (turned last cells) i d ≡ get_or cells ((last + i) % length cells) d
get_or-turned last cells i d within below = elim (mod_wraps (last + i) (length cells) (omega arith)) [
  | inl low ↦ rw (
    low.1,
    get_or_append_left (drop last cells) (take last cells) d i
        (omega (arith, length-drop last cells)),
    get_or-drop last cells i d,
  ) refl
  | inr past ↦
      let at : (last + i) % length cells ≡ i - (length cells - last) = omega arith in
      rw (
        at,
        get_or-append_right (drop last cells) (take last cells) (length cells - last) i d (length-drop last cells)
            (omega arith),
        get_or-take last cells
            (i - (length cells - last)) d (omega arith),
      ) refl
]

-- a write i positions after the first of the turned cells is a write of the i-th
turned-set : {T : Type 0} (last : ℕ) (cells : List (Option T)) (i : ℕ) (x : Option T) → last < length cells
    → i < length cells
    → turned last (set cells ((last + i) % length cells) x) ≡ set (turned last cells) i x
turned-set last cells i x within below = elim (mod_wraps (last + i) (length cells) (omega arith)) [
  | inl low ↦ rw (
    low.1,
    drop-set-add last cells i x,
    take-set-le last cells (last + i) x (omega arith),
    set-append_left (drop last cells) (take last cells) i x
        (omega (arith, length-drop last cells)),
  ) refl
  | inr past ↦
      let at : (last + i) % length cells ≡ i - (length cells - last) = omega arith in
      rw (
        at,
        drop-set-lt last cells (i - (length cells - last)) x (omega arith),
        take-set-lt last cells (i - (length cells - last)) x (omega arith),
        set-append_right
            (drop last cells) (take last cells) (length cells - last) i x (length-drop last cells) (omega arith),
      ) refl
]

-- the number of cells, if there are n empty ones and then one for each of these items
length-filled : {T : Type 0} (n : ℕ) (xs : List T) → length (replicate n None ++ map Some xs) ≡ n + length xs
length-filled {T = T} n xs =
    let none : Option T = None in
    length-append (replicate n none) (map Some xs) ∙ rw (length-replicate n none, length-map xs Some) refl

-- n empty cells and then a cell for each of these items have these items
items_in-filled : {T : Type 0} (n : ℕ) (xs : List T) → items_in (replicate n None ++ map Some xs) ≡ xs
items_in-filled zero [] = refl
items_in-filled {T = T} zero (x ∷ xs) = ap (λ (l : List T). x ∷ l) (items_in-filled zero xs)
items_in-filled (suc n) xs = items_in-filled n xs

-- cells in a ring have as many items as are counted
pub length-items_in : {T : Type 0} {cells : List (Option T)} {last count : ℕ} → IsRing cells last count
    → length (items_in (turned last cells)) ≡ count
length-items_in {cells = cells} {last = last} {count = count} ring =
    omega (
      arith,
      ap length ring.filled,
      length-turned last cells ring.last_within,
      length-filled (length cells - count) (items_in (turned last cells)),
    )

-- cells in a ring are a buffer: 1 to 4096 cells, and no more items than cells
pub BufferHolds-ring : {T : Type 0} {cells : List (Option T)} {last count : ℕ} → IsRing cells last count
    → BufferHolds (ring_view cells last)
BufferHolds-ring ring =
    record { least = ring.least; most = ring.most; fits = let n = length-items_in ring in omega arith }

-- 1 to 4096 cells, which turned are n empty cells and then a cell for each of these items, are in a ring
IsRing-filled : {T : Type 0} (cells : List (Option T)) (last n : ℕ) (xs : List T) → 1 ≤ length cells
    → length cells ≤ 4096 → last < length cells
    → turned last cells ≡ replicate n None ++ map Some xs → IsRing cells last (length xs)
IsRing-filled {T = T} cells last n xs least most within filled =
    let items : items_in (turned last cells) ≡ xs = ap items_in filled ∙ items_in-filled n xs in
    let all : n + length xs ≡ length cells =
    omega (arith, ap length filled, length-turned last cells within, length-filled n xs) in
    let free : length cells - length xs ≡ n = omega arith in
    record {
      least = least;
      most = most;
      last_within = within;
      count_within = omega arith;
      filled = rw (items, free) filled;
    }

-- 1 to 4096 empty cells are in a ring, with the first as the cell `last`
pub IsRing-none : {T : Type 0} {cells : List (Option T)} {n : ℕ} → cells ≡ replicate n None → 1 ≤ n → n ≤ 4096
    → IsRing cells 0 0
IsRing-none {T = T} {cells = cells} {n = n} none least most =
    let vacant : Option T = None in
    let size : length cells ≡ n = ap length none ∙ length-replicate n vacant in
    IsRing-filled cells 0 n [] (omega arith) (omega arith) (omega arith) (ap (λ (l : List (Option T)). l ++ []) none)

-- empty cells are a buffer with no item
pub ring_view-none : {T : Type 0} {cells : List (Option T)} {n : ℕ} → cells ≡ replicate n None
    → ring_view cells 0 ≡ empty n
ring_view-none {T = T} {cells = cells} {n = n} none =
    let vacant : Option T = None in
    let size : length cells ≡ n = ap length none ∙ length-replicate n vacant in
    let items : items_in (cells ++ []) ≡ [] =
    ap (λ (l : List (Option T)). items_in (l ++ [])) none ∙ items_in-filled n [] in
    rw (size, items) refl

-- rest holds of a buffer of 1 to 4096 cells with no item if no process waits
pub BufferRests-empty : {T : Type 0} (n : ℕ) → 1 ≤ n → n ≤ 4096 → BufferRests (empty {T = T} n) (nobody 0) (nobody 1)
BufferRests-empty n least most = record {
  inv = record { least = least; most = most; fits = omega arith };
  nonempty = λ some. absurd (some refl);
  nonfull = λ some. absurd (some refl);
}

-- if there is room, and x is written in the cell `last`: turned to begin with the next cell, the cells are one empty
-- cell fewer than before, and then the items and x
filled-push : {T : Type 0} {cells : List (Option T)} {last count : ℕ} (x : T) → IsRing cells last count
    → count < length cells
    → turned ((last + 1) % length cells) (set cells last (Some x))
    ≡ replicate (length cells - count - 1) None ++ map Some (items_in (turned last cells) ++ x ∷ [])
filled-push {T = T} {cells = cells} {last = last} {count = count} x ring room =
    let items = items_in (turned last cells) in
    let free : length cells - count ≡ suc (length cells - count - 1) = omega arith in
    let before : turned last cells ≡ None ∷ (replicate (length cells - count - 1) None ++ map Some items) =
    rw free at ring.filled in
    turned-next last cells (Some x) ring.last_within
    ∙ ap (λ (l : List (Option T)). drop 1 l ++ Some x ∷ []) before ∙ rw (
      map-append Some items (x ∷ []),
      append_assoc (replicate (length cells - count - 1) None) (map Some items) (Some x ∷ []),
    ) refl

-- if there is room, and x is written in the cell `last`, the cells are in a ring with one more item, and with the next
-- cell as `last`
pub IsRing-push : {T : Type 0} {cells : List (Option T)} {last count n : ℕ} (x : T) → IsRing cells last count
    → length (items_in (turned last cells)) < length cells
    → n ≡ length cells → IsRing (set cells last (Some x)) ((last + 1) % n) (count + 1)
IsRing-push {cells = cells} {last = last} {count = count} x ring room size =
    let few = length-items_in ring in
    let same = length-set cells last (Some x) in
    let items = items_in (turned last cells) in
    let more : length (items ++ x ∷ []) ≡ count + 1 =
    omega (arith, length-append items (x ∷ []), length-items_in ring) in
    rw size
    (rw more at (IsRing-filled (set cells last (Some x)) ((last + 1) % length cells) (length cells - count - 1)
    (items ++ x ∷ []) (omega arith) (omega arith)
    (omega arith) (filled-push x ring (omega arith))))

-- if there is room, an item written in the cell `last` is the newest
pub added-ring : {T : Type 0} {cells : List (Option T)} {last count n : ℕ} (x : T) → IsRing cells last count
    → length (items_in (turned last cells)) < length cells
    → n ≡ length cells → ring_view (set cells last (Some x)) ((last + 1) % n) ≡ added (ring_view cells last) x
added-ring {cells = cells} {last = last} {count = count} x ring room size =
    let few = length-items_in ring in
    let items : items_in (turned ((last + 1) % length cells) (set cells last (Some x)))
    ≡ items_in (turned last cells) ++ x ∷ [] = ap items_in
    (filled-push x ring (omega arith))
    ∙ items_in-filled (length cells - count - 1) (items_in (turned last cells) ++ x ∷ []) in
    rw (size, items, length-set cells last (Some x)) refl

-- the oldest item and its cell, and the turned cells after that cell is emptied
record Oldest {T : Type 0} (cells : List (Option T)) (last count at : ℕ) : Type 0 where
  x : T
  others : List T
  items : items_in (turned last cells) ≡ x ∷ others
  is : (d : Option T) → get_or cells at d ≡ Some x
  after : turned last (set cells at None) ≡ replicate (length cells - count + 1) None ++ map Some others

-- if there is an item, the oldest is in the cell `count` positions before the cell `last`, around the end
Oldest-ring : {T : Type 0} {cells : List (Option T)} {last count : ℕ} → IsRing cells last count → 0 < count
    → Oldest cells last count ((last + length cells - count) % length cells)
Oldest-ring {T = T} {cells = cells} {last = last} {count = count} ring some =
    let n = length cells - count in
    let place : last + length cells - count ≡ last + n = omega arith in
    let below : n < length cells = omega arith in
    elim (items_in (turned last cells)) as (λ items. items_in (turned last cells) ≡ items
    → Oldest cells last count ((last + length cells - count) % length cells)) [
      | [] ↦ λ none. absurd (let few = length-items_in ring in
          let zero_items : length (items_in (turned last cells)) ≡ 0 = ap length none in omega arith)
      | x ∷ others ↦ λ items.
          let filled : turned last cells ≡ replicate n None ++ Some x ∷ map Some others = rw items at ring.filled in
          record {
            x = x;
            others = others;
            items = items;
            is = λ d. rw (place, ← get_or-turned last cells n d ring.last_within below, filled)
                (get_or_at (replicate n None) (Some x) (map Some others) d n (length-replicate n None));
            after = let none : Option T = None in rw (
              place,
              turned-set last cells n None ring.last_within below,
              filled,
              set_at (replicate n None) (Some x)
                  (map Some others) None n (length-replicate n None),
              ← replicate_more n none,
              append_assoc (replicate n None) (None ∷ []) (map Some others),
            ) refl;
          }
    ] refl

-- if there is an item, the cell `count` positions before the cell `last`, around the end, isn't empty
pub oldest_is_in : {T : Type 0} {cells : List (Option T)} {last count n : ℕ} {a : Option T} → IsRing cells last count
    → 0 < length (items_in (turned last cells))
    → n ≡ length cells → a ≡ get_or cells ((last + n - count) % n) a → a ≢ None
oldest_is_in {cells = cells} {last = last} {count = count} {a = a} ring some size read none =
    let few = length-items_in ring in
    let o = Oldest-ring ring (omega arith) in
    let here = rw size at read in
    let is : get_or cells ((last + length cells - count) % length cells) a ≡ Some o.x = o.is a in
    let apart : Some o.x ≡ None = cc in
    cc

-- the item in the cell `count` positions before the cell `last`, around the end, is the oldest; when it is taken out,
-- the other items are left
pub items_in-pop : {T : Type 0} {cells : List (Option T)} {last count n : ℕ} {a : Option T} (x : T)
    → IsRing cells last count → 0 < length (items_in (turned last cells))
    → n ≡ length cells → a ≡ get_or cells ((last + n - count) % n) a → a ≡ Some x
    → items_in (turned last cells) ≡ x ∷ items_in (turned last (set cells ((last + n - count) % n) None))
items_in-pop {cells = cells} {last = last} {count = count} {a = a} x ring some size read is =
    let few = length-items_in ring in
    let o = Oldest-ring ring (omega arith) in
    let here = rw size at read in
    let there : get_or cells ((last + length cells - count) % length cells) a ≡ Some o.x = o.is a in
    let same : x ≡ o.x = cc in
    rw (size, same, ap items_in o.after, items_in-filled (length cells - count + 1) o.others) o.items

-- when the oldest item is taken out, the cells are in a ring with one item fewer
pub IsRing-pop : {T : Type 0} {cells : List (Option T)} {last count n : ℕ} → IsRing cells last count
    → 0 < length (items_in (turned last cells)) → n ≡ length cells
    → IsRing (set cells ((last + n - count) % n) None) last (count - 1)
IsRing-pop {cells = cells} {last = last} {count = count} ring some size =
    let few = length-items_in ring in
    let o = Oldest-ring ring (omega arith) in
    let at = (last + length cells - count) % length cells in
    let same = length-set cells at None in
    let fewer : length o.others ≡ count - 1 = omega (arith, ap length o.items) in
    rw size
    (rw fewer at (IsRing-filled (set cells at None) last (length cells - count + 1) o.others (omega arith) (omega arith)
    (omega arith) o.after))
