-- Which of the given answers were taken by the waits of a fake monitor.
use Rattle.std.specs.Prelude.{ℕ, List, [], ◌∷◌, ◌++◌, ◌≡◌, Bool, true, false, All}
use Rattle.hoare_law.specs.declared.event.Event.{Event}
use Rattle.hoare_law.specs.declared.event.Event.TheVariants.{Admit, Wait, Pass, Leave, Resume, Notify}
use Rattle.hoare_law.specs.Priorities.{nobody}
use Rattle.hoare_law.specs.Lawful.{Rest, Ready}

-- `a` is the first of `answers` that is ready: those before it aren't. `left` are the answers after it.
pub record FirstReady {S : Type 0} (is_ready : S → Type 0) (answers : List S) (a : S) (left : List S) : Type 0 where
  pub dropped : List S
  pub order : answers ≡ dropped ++ a ∷ left
  pub unready : All (λ d. is_ready d → ⊥) dropped
  pub fits : is_ready a

-- true if the event is a resumption from a wait
abbrev pub is_return : {S : Type 0} → Event S → Bool
is_return (Resume k c s) = true
is_return _ = false

-- the answers that are left of `given` after these events: each resumption from a wait on one of Hoare's conditions
-- took the first answer that was ready for it; each after a notify took the first that was at rest
pub data IsLeft {S : Type 0} (rest : Rest S) (ready : Ready S) (given : List S) : List (Event S) → List S → Type 0 where
  at_first : IsLeft rest ready given [] given
  untouched : {h : List (Event S)} {left : List S} → (e : Event S) → is_return e ≡ false
      → IsLeft rest ready given h left
      → IsLeft rest ready given (h ++ e ∷ []) left
  took : {h : List (Event S)} {answers left : List S} → (c p : ℕ) → (s a : S)
      → FirstReady (λ d. ready c p d nobody) answers a left
      → IsLeft rest ready given h answers
      → IsLeft rest ready given
      ((((h ++ Wait 0 c p s ∷ []) ++ Admit 1 s ∷ []) ++ Pass 1 c 0 a ∷ []) ++ Resume 0 c a ∷ []) left
  took_called : {h : List (Event S)} {answers left : List S} → (c p : ℕ) → (s a : S)
      → FirstReady (λ d. rest d nobody) answers a left
      → IsLeft rest ready given h answers
      → IsLeft rest ready given
      (((((h ++ Wait 0 c p s ∷ []) ++ Admit 1 s ∷ []) ++ Notify 1 c 0 a ∷ []) ++ Leave 1 a ∷ [])
      ++ Resume 0 c a ∷ []) left
