-- Lawful histories: whenever the monitor is released, what is owed holds. These are the paper's axioms for wait and
-- signal. That the assertions may mention the waiting priorities is this project's choice. A notify and a broadcast owe
-- nothing: the monitor isn't released, and a notified process resumes only when it is.
use Rattle.std.specs.Prelude.{ℕ, List, [], ◌∷◌, ◌++◌, ◌≡◌, IsSomeAnd, ⊤}
use Rattle.hoare_law.specs.declared.event.Event.{Event}
use Rattle.hoare_law.specs.declared.event.History.{History}
use Rattle.hoare_law.specs.Events.{data_of}
use Rattle.hoare_law.specs.Turns.{After, stays, frees, hands, after}
use Rattle.hoare_law.specs.Waiting.{priority_of, wait_by}
use Rattle.hoare_law.specs.Priorities.{priorities, nobody}
use Rattle.hoare_law.specs.Legal.{IsLegal}

-- `Rest` is what is asked of data and waiting priorities at each wait and each leave. `Ready` is what is asked when a
-- process that waited on a condition with a priority is resumed
abbrev pub Rest : Type 0 → Type 1
Rest S = S → (ℕ → List ℕ) → Type 0

abbrev pub Ready : Type 0 → Type 1
Ready S = ℕ → ℕ → S → (ℕ → List ℕ) → Type 0

-- what the event e owes, if f came before and `After` is what e makes of the monitor. If the monitor is released, e
-- owes `rest`. If it is handed off to w, which waits on c, e owes `ready` for that wait. If the same place stays
-- inside, it owes nothing. The priorities are those after e.
abbrev pub OwesAfter : {S : Type 0} → Rest S → Ready S → List (Event S) → Event S → After → Type 0
OwesAfter rest ready f e stays = ⊤
OwesAfter rest ready f e frees = rest (data_of e) (priorities (f ++ e ∷ []))
OwesAfter rest ready f e (hands w c) =
    IsSomeAnd (wait_by w c f) (λ x. ready c (priority_of x) (data_of e) (priorities (f ++ e ∷ [])))

-- what the event e owes, if f came before
unfoldable pub Owes : {S : Type 0} → Rest S → Ready S → List (Event S) → Event S → Type 0
Owes rest ready f e = OwesAfter rest ready f e (after e)

-- the opening data are at rest while no process waits, and each event makes true what it owes
pub record IsLawful {S : Type 0} (rest : Rest S) (ready : Ready S) (h : History S) : Type 0 where
  pub opens : rest h.opening nobody
  pub each : (f later : List (Event S)) (e : Event S) → h.events ≡ f ++ e ∷ later → Owes rest ready f e

-- h is legal and lawful
pub record Stands {S : Type 0} (rest : Rest S) (ready : Ready S) (h : History S) : Type 0 where
  pub legal : IsLegal h
  pub lawful : IsLawful rest ready h
