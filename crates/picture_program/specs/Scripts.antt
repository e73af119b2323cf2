-- The commands of a script, in the order in which they were read.
use Rattle.std.specs.Prelude.{◌≡◌, List, [], ◌∷◌, ◌++◌, Option, Some, None}
use Rattle.hoare_script.specs.declared.lines.Command.{Command}

-- one more command, which a line spells
abbrev pub IsMore : Option Command → List Command → List Command → Type 0
IsMore None old new = ⊥
IsMore (Some command) old new = new ≡ old ++ command ∷ []

-- the old commands stay, in front of the new
abbrev pub IsInFront : List Command → List Command → Type 0
IsInFront old new = (more : List Command) × (new ≡ old ++ more)
