-- A wait as a trace names it: one equation each for the place, the priority, the data and the front, which have other
-- names in the clause.
use Rattle.std.proofs.Common.{◌≡◌, ℕ}
use Rattle.hoare_law.specs.declared.event.History.{History}
use Rattle.hoare_law.specs.declared.event.Event.TheVariants.{Wait, Resume}
use Rattle.hoare_law.specs.Growth.{AddsTwo}

pub waits-as : {S : Type 0} {k k1 c p p1 : ℕ} {s s1 d : S} {g g1 h : History S}
    → AddsTwo g1 (Wait k1 c p1 s1) (Resume k1 c d) h → k1 ≡ k → p1 ≡ p → s1 ≡ s → g1 ≡ g
    → AddsTwo g (Wait k c p s) (Resume k c d) h
waits-as waits place priority state front = rw (place, priority, state, front) at waits
