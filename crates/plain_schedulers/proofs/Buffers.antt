-- What holds of a buffer and of its waiting processes when an item was put in or taken out. The lists of waiters are
-- the same before the change and after it: `same`.
use Rattle.std.proofs.Common.{◌≡◌, ◌≢◌, ℕ, ◌∷◌, List, [], length, length-append, ap, arith}
use Rattle.hoare_law.specs.Priorities.{behind_first}
use Rattle.plain_schedulers.specs.Buffers.{Buffered, BufferRests, ReadyNonempty, ReadyNonfull, added, with_items}

module _ {T : Type 0} {b : Buffered T} where
  -- a process that needn't wait finds what a process that waited and is resumed finds
  pub ReadyNonfull-at_once : {takers putters : List ℕ} → BufferRests b takers putters → (length b.items ≡ b.size → ⊥)
      → ReadyNonfull b takers putters
  ReadyNonfull-at_once rests room = record {
    inv = rests.inv;
    room = omega (arith, rests.inv.fits, room);
    others = λ waits. absurd (room (rests.nonfull waits));
    nonempty = rests.nonempty;
  }

  pub ReadyNonempty-at_once : {takers putters : List ℕ} → BufferRests b takers putters → (length b.items ≡ 0 → ⊥)
      → ReadyNonempty b takers putters
  ReadyNonempty-at_once rests some = record {
    inv = rests.inv;
    some = omega (arith, some);
    others = λ waits. absurd (some (rests.nonempty waits));
    nonfull = rests.nonfull;
  }

module _ {T : Type 0} {b d : Buffered T} {q q1 : ℕ → List ℕ} where
  -- an item was put in: if a process waits for an item, the first may resume; if none does, rest holds
  pub ReadyNonempty-added : (x : T) → ReadyNonfull b (q 0) (q 1) → d ≡ added b x → q1 ≡ q → q1 0 ≢ []
      → ReadyNonempty d (behind_first (q1 0)) (q1 1)
  ReadyNonempty-added x ready is same waits =
      let one_more = length-append b.items (x ∷ []) in
      let none = ready.nonempty (rw same at waits) in
      rw (is, same) (record {
        inv = record { least = ready.inv.least; most = ready.inv.most; fits = omega (arith, one_more, ready.room) };
        some = omega (arith, one_more);
        others = λ _. omega (arith, one_more, none);
        nonfull = λ others. omega (arith, one_more, ready.others others, ready.inv.least);
      })

  pub BufferRests-added : (x : T) → ReadyNonfull b (q 0) (q 1) → d ≡ added b x → q1 ≡ q → q1 0 ≡ []
      → BufferRests d (q1 0) (q1 1)
  BufferRests-added x ready is same nobody =
      let one_more = length-append b.items (x ∷ []) in
      rw is (record {
        inv = record { least = ready.inv.least; most = ready.inv.most; fits = omega (arith, one_more, ready.room) };
        nonempty = λ waits. absurd (waits nobody);
        nonfull = λ others. omega (arith, one_more, ready.others (rw same at others), ready.inv.least);
      })

  -- an item was taken out, and e is left: if a process waits for room, the first may resume; if none does, rest holds
  pub ReadyNonfull-removed : {e : Buffered T} {x : T} → ReadyNonempty b (q 0) (q 1) → b.items ≡ x ∷ e.items
      → e.size ≡ b.size → d ≡ e → q1 ≡ q
      → q1 1 ≢ [] → ReadyNonfull d (q1 0) (behind_first (q1 1))
  ReadyNonfull-removed ready items size is same waits =
      let one_less = ap length items in
      let full = ready.nonfull (rw same at waits) in
      rw (is, same) (record {
        inv = record {
          least = rw size ready.inv.least;
          most = rw size ready.inv.most;
          fits = omega (arith, one_less, size, ready.inv.fits);
        };
        room = omega (arith, one_less, size, ready.inv.fits);
        others = λ _. omega (arith, one_less, size, full);
        nonempty = λ others. omega (arith, one_less, ready.others others);
      })

  pub BufferRests-removed : {e : Buffered T} {x : T} → ReadyNonempty b (q 0) (q 1) → b.items ≡ x ∷ e.items
      → e.size ≡ b.size → d ≡ e → q1 ≡ q
      → q1 1 ≡ [] → BufferRests d (q1 0) (q1 1)
  BufferRests-removed ready items size is same nobody =
      let one_less = ap length items in
      rw is (record {
        inv = record {
          least = rw size ready.inv.least;
          most = rw size ready.inv.most;
          fits = omega (arith, one_less, size, ready.inv.fits);
        };
        nonempty = λ others. omega (arith, one_less, ready.others (rw same at others));
        nonfull = λ waits. absurd (waits nobody);
      })

-- a buffer e that has the size of b is b with the items of e
pub left_of : {T : Type 0} (b : Buffered T) {e : Buffered T} → e.size ≡ b.size → e ≡ with_items b e.items
left_of b {e = e} size = λ i. record { size = size i; items = e.items }
