-- A history in which nothing happened yet.
use Rattle.std.proofs.Common.{◌≡◌, ℕ, true, refl}
use Rattle.hoare_law.specs.declared.event.Sizes.{Sizes}
use Rattle.hoare_law.specs.declared.turn.Turn.TheVariants.{Free}
use Rattle.hoare_law.specs.Events.{opened}
use Rattle.hoare_law.specs.Lawful.{Rest, Ready, Stands}
use Rattle.hoare_law.specs.Priorities.{nobody}
use Rattle.hoare_law.specs.Turns.{turn, urgent, outside}
use Rattle.hoare_law.specs.Called.{called}
use Rattle.hoare_law.proofs.Events.{none-split}
use Rattle.hoare_law.proofs.Legal.{IsLegal-none}

-- it is legal, and lawful if the opening data are at rest
pub Stands-opened : {S : Type 0} (rest : Rest S) (ready : Ready S) (sizes : Sizes) (s : S) → rest s nobody
    → Stands rest ready (opened sizes s)
Stands-opened rest ready sizes s at_rest = record {
  legal = IsLegal-none (opened sizes s) refl;
  lawful = record { opens = at_rest; each = λ f g e is. absurd (none-split f g e is) };
}

-- all places are outside
pub outside-opened : {S : Type 0} (k : ℕ) (sizes : Sizes) (s : S) → outside k (opened sizes s).events ≡ true
unfolding outside
outside-opened k sizes s = refl

-- the turn is free
pub turn-opened : {S : Type 0} (sizes : Sizes) (s : S) → turn (opened sizes s).events ≡ Free
unfolding turn urgent called
turn-opened sizes s = refl
