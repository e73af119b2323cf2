-- What a meeting at a rendezvous adds to the history.
use Rattle.std.specs.Prelude.{ℕ, ◌≡◌}
use Rattle.hoare_law.specs.declared.event.History.{History}
use Rattle.hoare_law.specs.declared.event.Event.TheVariants.{Admit, Wait, Pass, Leave, Resume}
use Rattle.hoare_law.specs.Events.{with_event}
use Rattle.hoare_law.specs.Waiting.{Chooses}
use Rattle.hoare_law.specs.Growth.{AddsLast, AddsTwo}
use Rattle.cookbook.specs.declared.rendezvous.Rendezvous.{Rendezvous}
use Rattle.cookbook.specs.declared.rendezvous.Rendezvous.TheVariants.{Empty, Offered, Answered}

-- k found no offer, waited with its value as the offer, and took the value with which it was resumed; or k found an
-- offer, took it, left its own value, and passed the monitor to the waiter w
pub data Exchanges {T : Type 0} (k : ℕ) (value : T) (f h : History (Rendezvous T)) : T → Type 0 where
  came_first : (y : T) (e g : History (Rendezvous T)) → AddsLast f (Admit k Empty) e
      → AddsTwo e (Wait k 0 0 (Offered value)) (Resume k 0 (Answered y)) g → h ≡ with_event g (Leave k Empty)
      → Exchanges k value f h y
  came_second : (x : T) (w : ℕ) (g : History (Rendezvous T)) → AddsLast f (Admit k (Offered x)) g → Chooses 0 g.events w
      → h ≡ with_event g (Pass k 0 w (Answered value)) → Exchanges k value f h x
