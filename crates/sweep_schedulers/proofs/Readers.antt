-- What readers and writers keep of the waiting processes: when a writer joins them, and when a reader or a writer
-- starts.
use Rattle.std.proofs.Common.{◌≡◌, ℕ, ◌<◌, List, [], Result, Bool, true, false, refl, inl, inr, true≢false, sym, ◌∙◌}
use Rattle.std.proofs.Common.{arith}
use Rattle.hoare_law.specs.Priorities.{joined}
use Rattle.sweep_schedulers.specs.ReadersWriters.{Shared, IsInUse, ReadersHold, ReadersRest, ReadReady, WriteReady}
use Rattle.sweep_schedulers.specs.ReadersWriters.{with_writer}
use Rattle.sweep_schedulers.specs.ReadersWritersTraces.{Admits, room, full}
use Rattle.sweep_schedulers.specs.declared.readers_writers.ReadPass.{ReadPass}
use Rattle.sweep_schedulers.specs.declared.readers_writers.TooManyReaders.{TooManyReaders}
use Rattle.hoare_law.proofs.Sorted.{put_in-some}

-- if a reader or a writer is in, a writer may wait
pub ReadersRest-writer : {T : Type 0} {s : Shared T} (lists : ℕ → List ℕ) → ReadersRest s (lists 0) (lists 1)
    → IsInUse s
    → ReadersRest s (joined lists 1 0 0) (joined lists 1 0 1)
ReadersRest-writer lists r used =
    record { inv = r.inv; writers = λ some. used; readers = λ some. inr (put_in-some (λ n. n) 0 (lists 1)) }

pub none_below : (n : ℕ) → (0 < n → ⊥) → n ≡ 0
none_below n none = omega arith

pub not_true : (b : Bool) → (b ≡ true → ⊥) → b ≡ false
not_true true other = absurd (other refl)
not_true false other = refl

-- a process that finds no reader and no writer in may write at once
pub WriteReady-at_once : {T : Type 0} {s : Shared T} {to_read to_write : List ℕ} → ReadersRest s to_read to_write
    → (IsInUse s → ⊥) → WriteReady s
WriteReady-at_once rests unused = record {
  inv = rests.inv;
  no_writer = not_true _ (λ busy. unused (inr busy));
  no_reader = none_below _ (λ some. unused (inl some));
}

-- with a writer in, rest holds
pub ReadersRest-reserved : {T : Type 0} {s d : Shared T} {to_read to_write : List ℕ} → WriteReady s → d ≡ with_writer s
    → ReadersRest d to_read to_write
ReadersRest-reserved ready is = rw is (record {
  inv = record { most = ready.inv.most; alone = λ _. ready.no_reader };
  writers = λ _. inr refl;
  readers = λ _. inl refl;
})

-- a reader that was admitted or refused leaves readers in, and no writer
pub record ReadersIn {T : Type 0} (d : Shared T) : Type 0 where
  pub inv : ReadersHold d
  pub no_writer : d.busy ≡ false
  pub some : 0 < d.readers

admitted : {T : Type 0} {s d : Shared T} {read : Result (ReadPass × T) TooManyReaders} → Admits s d read → ReadReady s
    → ReadersIn d
admitted (room pass less) ready = record {
  inv = record { most = omega (arith, less); alone = λ busy. absurd (true≢false (sym busy ∙ ready.no_writer)) };
  no_writer = ready.no_writer;
  some = omega arith;
}
admitted (full e all) ready = record { inv = ready.inv; no_writer = ready.no_writer; some = omega (arith, all) }

-- a process that waits to read may resume then, and if none waits, rest holds
pub ReadReady-admitted : {T : Type 0} {s d e : Shared T} {read : Result (ReadPass × T) TooManyReaders} → ReadReady s
    → Admits s d read → e ≡ d → ReadReady e
ReadReady-admitted ready admits is =
    rw is (let readers = admitted admits ready in record { inv = readers.inv; no_writer = readers.no_writer })

pub ReadersRest-admitted : {T : Type 0} {s d e : Shared T} {read : Result (ReadPass × T) TooManyReaders}
    {to_read to_write : List ℕ}
    → ReadReady s → Admits s d read → e ≡ d
    → to_read ≡ [] → ReadersRest e to_read to_write
ReadersRest-admitted ready admits is nobody = rw is (let readers = admitted admits ready in record {
  inv = readers.inv;
  writers = λ _. inl readers.some;
  readers = λ waits. absurd (waits nobody);
})
