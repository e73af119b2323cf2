-- What an arrival at a cyclic barrier adds to the history.
use Rattle.std.specs.Prelude.{ℕ, ◌≡◌, ◌<◌, ◌+◌}
use Rattle.hoare_law.specs.declared.event.History.{History}
use Rattle.hoare_law.specs.declared.event.Event.TheVariants.{Admit, Wait, Resume}
use Rattle.hoare_law.specs.Growth.{AddsLast, AddsTwo, Finishes}
use Rattle.cookbook.specs.declared.barrier.Arrival.{Arrival}
use Rattle.cookbook.specs.declared.barrier.Arrival.TheVariants.{Last, Waited}
use Rattle.cookbook.specs.Barriers.{Gathering, next, one_more, one_less, opened}

-- either k found all others waiting and began the next generation, or k waited and resumed in the next generation. In
-- both cases it then resumed the next waiter if there was one. The result has the generation that k found: it is `Last`
-- if k came last, else `Waited`
pub data Arrives (k : ℕ) (f h : History Gathering) : Arrival → Type 0 where
  came_last : (a : Gathering) (g : History Gathering) → AddsLast f (Admit k a) g → a.arrived + 1 ≡ a.parties
      → Finishes k 0 (opened a) g h → Arrives k f h (Last a.generation)
  waited : (a b : Gathering) (e g : History Gathering) → AddsLast f (Admit k a) e → a.arrived + 1 < a.parties
      → AddsTwo e (Wait k 0 a.generation (one_more a)) (Resume k 0 b) g → b.generation ≡ next a.generation
      → Finishes k 0 (one_less b) g h → Arrives k f h (Waited a.generation)
