-- The numbers that C gets: of a place that was given out, and of a refusal to close.
use Rattle.std.proofs.Common.{◌≡◌, ◌≢◌, ◌<◌, ℕ, Option, ap, sym, ◌∙◌, subst, arith}
use Rattle.door_place.specs.Places.{GaveOut, NumberIs, elsewhere, lacks_place, not_yet, outside}
use Rattle.door_place.specs.Returns.{KeeperOf}
use Rattle.door_place.specs.States.{NotOutside, number_of}
use Rattle.door_place.specs.declared.state.State.{State}
use Rattle.door_c.specs.KeeperSlots.{WasNotClosed, no_keeper, not_closed}

-- a place that was given out is outside: so the returned number is its own, and below 64
pub numbered : {old new : KeeperOf} {s : State} {n : ℕ} → GaveOut old new s → NumberIs s n
    → (n ≡ number_of s) × (n < 64)
numbered g (outside o is same small) = (same ∙ ap number_of (sym is), small)
numbered g (elsewhere out same) = absurd (subst NotOutside g.is out)

-- a refusal isn't 0
pub not_done : {old : Option KeeperOf} {code : ℕ} → WasNotClosed old code → code ≢ 0
not_done (no_keeper none is) zero = absurd (omega (arith, is, zero))
not_done (not_closed k old (lacks_place lacks is)) zero = absurd (omega (arith, is, zero))
not_done (not_closed k old (not_yet all is)) zero = absurd (omega (arith, is, zero))
