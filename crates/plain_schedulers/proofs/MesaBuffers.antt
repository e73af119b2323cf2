-- What a process adds to the history if it waits again, and if it notifies and leaves.
use Rattle.std.proofs.Common.{◌≡◌, ℕ, Bool, ◌∙◌}
use Rattle.hoare_law.specs.declared.event.History.{History}
use Rattle.hoare_law.specs.declared.event.Event.TheVariants.{Admit, Wait, Leave, Resume}
use Rattle.hoare_law.specs.declared.monitor.Monitor.{Ghosts}
use Rattle.hoare_law.specs.Events.{with_event}
use Rattle.hoare_law.specs.Growth.{AddsLast, AddsTwo, Notifies}
use Rattle.plain_schedulers.specs.Buffers.{Buffered, BufferHolds, HoldsUp}
use Rattle.plain_schedulers.specs.MesaTraces.{Rounds, again, entered, Tells}

module _ {T : Type 0} {k k1 c : ℕ} {f g h : History (Buffered T)} {found now : Buffered T} where
  -- one more wait, of a process that has to wait, continues its rounds
  pub Rounds-again : Rounds k c f g found → HoldsUp c found
      → AddsTwo g (Wait k1 c 0 found) (Resume k1 c now) h → k1 ≡ k → Rounds k c f h now
  Rounds-again waited held adds place = again g h found now waited held (rw place at adds)

module _ {Self Out In Lists T : Type 0} (M : Ghosts Self (Buffered T) Out In Lists) where
  -- the process of `out` entered, waited on c each time it found that it had to, and is inside at i, without a cause
  -- to wait
  pub record GotInsideFree (m : Self) (out : Out) (c : ℕ) (i : In) : Type 0 where
    pub of : M.is_of_in m i
    pub place : M.place_in i ≡ M.place out
    pub holds : BufferHolds (M.data_in i)
    pub free : HoldsUp c (M.data_in i) → ⊥
    pub enters : Rounds (M.place out) c (M.front out) (M.front_in i) (M.data_in i)

  module _ {m : Self} {out : Out} {c : ℕ} {i : In} where
    -- the process needn't wait
    pub GotInsideFree-at_once : M.is_of_in m i → M.place_in i ≡ M.place out → BufferHolds (M.data_in i)
        → AddsLast (M.front out) (Admit (M.place out) (M.data_in i)) (M.front_in i) → (HoldsUp c (M.data_in i) → ⊥)
        → GotInsideFree m out c i
    GotInsideFree-at_once of place holds front free =
        record { of = of; place = place; holds = holds; free = free; enters = entered _ _ front }

    -- the process entered, at i, and is inside at j without a cause to wait: all that it did in between was to wait
    -- each time it had to
    pub GotInsideFree-waited : {j : In} → M.place_in i ≡ M.place out
        → AddsLast (M.front out) (Admit (M.place out) (M.data_in i)) (M.front_in i)
        → M.is_of_in m j → M.place_in j ≡ M.place_in i → BufferHolds (M.data_in j) → (HoldsUp c (M.data_in j) → ⊥)
        → (Rounds (M.place_in i) c (M.front out) (M.front_in i) (M.data_in i)
        → Rounds (M.place_in i) c (M.front out) (M.front_in j) (M.data_in j))
        → GotInsideFree m out c j
    GotInsideFree-waited came front of place holds free waited = record {
      of = of;
      place = place ∙ came;
      holds = holds;
      free = free;
      enters = (rw came at waited) (entered _ _ front);
    }

module _ {S : Type 0} {k k1 k2 c : ℕ} {s s1 s2 : S} {f f1 g h : History S} {b : Bool} where
  -- a notify, and then a leave with the same data
  pub Tells-leave : Notifies k1 c s1 f1 g b → k1 ≡ k → s1 ≡ s → f1 ≡ f → h ≡ with_event g (Leave k2 s2) → k2 ≡ k
      → s2 ≡ s → Tells k c s f h
  Tells-leave notifies place state front leaves placed kept = record {
    answer = b;
    front = g;
    notifies = rw (place, state, front) at notifies;
    leaves = rw (placed, kept) at leaves;
  }
