use Rattle.std.proofs.Common.{refl, sym}
use Rattle.hoare_law.specs.Events.{cut_to}
use Rattle.hoare_law.proofs.Held.{held_one, outside-held}
use Rattle.hoare_law.proofs.Legal.{IsLegal-front}
use Rattle.hoare_law.proofs.Inside.{inside-held, inside_by_turn}
use Rattle.hoare_law.proofs.laws.one_is_inside.Goals as goal

pub returns-clause-one : goal.returns-clause-one
returns-clause-one g c = λ h f later j k legal is first second.
    let cut = cut_to h f in
    let fits = IsLegal-front {f = cut} {h = h}
    (record { sizes = refl; opening = refl; later = later; is = sym is }) legal in
    held_one f j k (inside-held cut j fits first) (inside-held cut k fits second)

pub returns-clause-turn : goal.returns-clause-turn
returns-clause-turn g c = inside-held

pub returns-clause-its_turn : goal.returns-clause-its_turn
returns-clause-its_turn g c = inside_by_turn

pub returns-clause-not_outside : goal.returns-clause-not_outside
returns-clause-not_outside g c = outside-held
