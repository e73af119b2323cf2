-- What each act makes of a place's state, at a door, with a code.
use Rattle.std.specs.Prelude.{ℕ}
use Rattle.baton_door.specs.StepDoors.{StepId}
use Rattle.door_place.specs.States.{TriesToEnter, TriesToReturn, Leaves, Waits, Signals, SignalsTo, SignalLeaves}
use Rattle.door_place.specs.States.{Notifies}
use Rattle.door_place.specs.States.{Broadcasts, Sets}
use Rattle.door_place.specs.declared.state.State.{State}

abbrev pub Deed : Type 1
Deed = StepId → State → State → ℕ → Type 0

abbrev pub TryEnter : Deed
TryEnter d old new code = TriesToEnter old new code

abbrev pub TryReturn : Deed
TryReturn d old new code = TriesToReturn d old new code

abbrev pub Leave : Deed
Leave d old new code = Leaves old new code

abbrev pub Wait : ℕ → ℕ → Deed
Wait c p d old new code = Waits d old c p new code

abbrev pub Signal : ℕ → Deed
Signal c d old new code = Signals d old c new code

abbrev pub SignalTo : ℕ → ℕ → Deed
SignalTo c w d old new code = SignalsTo d old c w new code

-- with the word `resumed` before and after
abbrev pub SignalLeave : ℕ → ℕ → ℕ → Deed
SignalLeave c before resumed d old new code = SignalLeaves d old c before new resumed code

abbrev pub Notify : ℕ → Deed
Notify c d old new code = Notifies d old c new code

abbrev pub Broadcast : ℕ → Deed
Broadcast c d old new code = Broadcasts d old c new code

abbrev pub Set : ℕ → Deed
Set value d old new code = Sets old value new code
