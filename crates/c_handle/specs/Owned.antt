-- What a handle owns.
use Rattle.std.specs.Prelude.{ℕ, zero, suc}
use base.Fml.{Fml, ftrue}

-- nothing if there is no value, else the value
abbrev pub owned : ℕ → Fml → Fml
owned zero value = ftrue
owned (suc n) value = value
