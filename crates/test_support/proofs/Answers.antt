-- The first ready answer, and the answers that are left, step by step.
use Rattle.std.proofs.Common.{ℕ, List, [], ◌∷◌, ◌≡◌, false, refl, ap}
use Rattle.std.proofs.lemmas.List.Elements.{All-nil, All-cons}
use Rattle.hoare_law.specs.declared.event.Event.{Event}
use Rattle.hoare_law.specs.declared.event.History.{History}
use Rattle.hoare_law.specs.Events.{with_event}
use Rattle.hoare_law.specs.Priorities.{nobody}
use Rattle.hoare_law.specs.Lawful.{Rest, Ready}
use Rattle.test_support.specs.Answers.{FirstReady, IsLeft, is_return, untouched, took, took_called}
use Rattle.test_support.proofs.Stages.{answered, called_back}

module _ {S : Type 0} {is_ready : S → Type 0} where
  -- the first of the answers is ready
  pub FirstReady-here : {a : S} {left : List S} → is_ready a → FirstReady is_ready (a ∷ left) a left
  FirstReady-here fits = record { dropped = []; order = refl; unready = All-nil (λ d. is_ready d → ⊥); fits = fits }

  -- the first of the answers isn't ready: the first ready answer is that of the rest
  pub FirstReady-behind : {x a : S} {answers left : List S} → (is_ready x → ⊥) → FirstReady is_ready answers a left
      → FirstReady is_ready (x ∷ answers) a left
  FirstReady-behind {x = x} unready t = record {
    dropped = x ∷ t.dropped;
    order = ap (λ l. x ∷ l) t.order;
    unready = All-cons (λ d. is_ready d → ⊥) x t.dropped unready t.unready;
    fits = t.fits;
  }

module _ {S : Type 0} {rest : Rest S} {ready : Ready S} {given : List S} where
  -- an event that is no resumption leaves the answers unchanged
  pub IsLeft-untouched : (h : History S) {left : List S} (e : Event S) → is_return e ≡ false
      → IsLeft rest ready given h.events left → IsLeft rest ready given (with_event h e).events left
  unfolding with_event
  IsLeft-untouched h e none l = untouched e none l

  -- the answers after a wait and its answer
  pub IsLeft-answered : (h : History S) (c p : ℕ) (s a : S) {answers left : List S}
      → FirstReady (λ d. ready c p d nobody) answers a left
      → IsLeft rest ready given h.events answers → IsLeft rest ready given (answered c p s a h).events left
  unfolding with_event
  IsLeft-answered h c p s a first l = took c p s a first l

  -- the answers after a wait, a notify and its answer
  pub IsLeft-called_back : (h : History S) (c p : ℕ) (s a : S) {answers left : List S}
      → FirstReady (λ d. rest d nobody) answers a left
      → IsLeft rest ready given h.events answers → IsLeft rest ready given (called_back c p s a h).events left
  unfolding with_event
  IsLeft-called_back h c p s a first l = took_called c p s a first l
