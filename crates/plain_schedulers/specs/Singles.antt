-- What holds of a single item and its waiting processes. The data is the item, if it is in; condition 0 is nonbusy.
use Rattle.std.specs.Prelude.{ℕ, List, [], ◌≡◌, ◌≢◌, Option, None, IsSome}

-- if a process waits, the item is out
abbrev pub SingleRests : {T : Type 0} → Option T → List ℕ → Type 0
SingleRests item waiting = waiting ≢ [] → item ≡ None

-- the resumed process finds the item in, and rest will hold again after it takes the item out
abbrev pub SingleReady : {T : Type 0} → Option T → Type 0
SingleReady item = IsSome item
