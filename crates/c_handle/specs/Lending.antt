-- What becomes of a handle whose value is lent.
use Rattle.std.specs.Prelude.{Option}
use Rattle.std.specs.Borrow.{Lends, LendsIf, MutBor, Fml}
use denote.RattleType.{RattleType}
use Rattle.c_handle.specs.declared.handle.Handle.{Handle}
use Rattle.c_handle.specs.declared.held.Held.{Held}
use Rattle.c_handle.specs.contracts.handle.Handle as handle
use Rattle.c_handle.specs.contracts.held.Held as held

-- the handle with another value
abbrev pub with_value : {X : Type 0} → Handle X → X → Handle X
with_value h w = record h { value = w }

-- the same of C's words
abbrev pub held_with : {X : Type 0} → Held X → X → Held X
held_with s w = record { live = s.live; spare = s.spare; handle = with_value s.handle w; same = s.same; few = s.few }

-- the handle ends with the last value of the borrow r
abbrev pub LendsValue : (R : RattleType) → MutBor (Handle R.Denot) → MutBor R.Denot → Fml
LendsValue R h r = Lends (handle.the_row R) R h r (with_value h.now)

-- C's words end with the last value of the borrow r if a value was lent, else as they were
abbrev pub LendsHeld : (R : RattleType) → MutBor (Held R.Denot) → Option (MutBor R.Denot) → Fml
LendsHeld R s r = LendsIf (held.the_row R) R s r (held_with s.now) s.now
