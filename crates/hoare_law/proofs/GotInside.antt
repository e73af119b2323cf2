-- What holds of a process that entered and continues, after a wait or without one.
use Rattle.std.specs.Prelude.{ℕ, List, ◌≡◌}
use Rattle.std.proofs.Common.{◌∙◌, refl}
use Rattle.hoare_law.specs.declared.event.History.{History}
use Rattle.hoare_law.specs.declared.event.Event.TheVariants.{Admit, Wait, Resume}
use Rattle.hoare_law.specs.declared.monitor.Monitor.{Ghosts}
use Rattle.hoare_law.specs.Growth.{GetsInside, AddsLast, AddsTwo, at_once}
use Rattle.hoare_law.proofs.Growth.{GetsInside-waited}

module _ {Self D Out In Lists : Type 0} (M : Ghosts Self D Out In Lists) where
  -- the process entered by `out`, waited if these data and its front held it up, and is inside at i, where Ready holds
  pub record GotInside (m : Self) (out : Out) (held_up : History D → D → Type 0) (condition priority : D → ℕ)
      (Ready : D → (ℕ → List ℕ) → Type 0) (i : In) : Type 0 where
    pub of : M.is_of_in m i
    pub place : M.place_in i ≡ M.place out
    pub ready : Ready (M.data_in i) (M.lists_in i)
    pub enters : GetsInside (M.place out) held_up condition priority (M.front out) (M.front_in i) (M.data_in i)

  module _ {m : Self} {out : Out} {held_up : History D → D → Type 0} {condition priority : D → ℕ}
      {Ready : D → (ℕ → List ℕ) → Type 0} {i : In} where
    -- nothing held the process up
    pub GotInside-at_once : M.is_of_in m i → M.place_in i ≡ M.place out
        → AddsLast (M.front out) (Admit (M.place out) (M.data_in i)) (M.front_in i)
        → (held_up (M.front_in i) (M.data_in i) → ⊥) → Ready (M.data_in i) (M.lists_in i)
        → GotInside m out held_up condition priority Ready i
    GotInside-at_once of place front free ready =
        record { of = of; place = place; ready = ready; enters = at_once front free }

    -- the process was held up, and waited
    pub GotInside-waited : {j : In} {c p : ℕ} → M.place_in i ≡ M.place out
        → AddsLast (M.front out) (Admit (M.place out) (M.data_in i)) (M.front_in i)
        → held_up (M.front_in i) (M.data_in i)
        → M.is_of_in m j → M.place_in j ≡ M.place_in i
        → AddsTwo (M.front_in i) (Wait (M.place_in i) c p (M.data_in i)) (Resume (M.place_in i) c (M.data_in j))
        (M.front_in j)
        → c ≡ condition (M.data_in i) → p ≡ priority (M.data_in i) → Ready (M.data_in j) (M.lists_in j)
        → GotInside m out held_up condition priority Ready j
    GotInside-waited entered enters held of place waits on with ready = record {
      of = of;
      place = place ∙ entered;
      ready = ready;
      enters = GetsInside-waited enters held waits entered refl refl on with;
    }
