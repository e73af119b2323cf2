use Rattle.std.proofs.Common.{refl, ◌∙◌}
use Rattle.baton_door.proofs.Attempts.{admitted_after, out_on, out_refl, still_outside, turned_away}
use Rattle.baton_door.proofs.door.RawBatonDoor.try_a_while.Goals as goal
use Rattle.baton_door.proofs.door.RawBatonDoor.try_a_while.Goals.{else-peek-eq-FREE-via-then-peek-eq-FREE+else-try_in}
use Rattle.baton_door.proofs.door.RawBatonDoor.try_a_while.Goals.{else-peek-eq-FREE-via-else-peek-eq-FREE}

pub loop-doublings-init : goal.loop-doublings-init
loop-doublings-init g c = (refl, out_refl)

pub loop-doublings-preserved : goal.loop-doublings-preserved
loop-doublings-preserved g c = elim c.else-peek-eq-FREE.branch [
  | else-peek-eq-FREE-via-then-peek-eq-FREE+else-try_in w ↦ rw w.seat-is (
    w.try_in.ensures.table ∙ c.loop-doublings.invariant.0,
    out_on c.loop-doublings.invariant.1 (turned_away (w.try_in.ensures.refused w.if-try_in.false)),
  )
  | else-peek-eq-FREE-via-else-peek-eq-FREE w ↦ rw w.seat-is c.loop-doublings.invariant
]

pub try_in-requires-clause-outside : goal.try_in-requires-clause-outside
try_in-requires-clause-outside g c = still_outside c.loop-doublings.invariant.1 c.requires.outside

pub returns-then-try_in-clause-let_in : goal.returns-then-try_in-clause-let_in
returns-then-try_in-clause-let_in g c =
    λ yes. admitted_after c.loop-doublings.invariant.1 (c.try_in.ensures.let_in c.if-try_in.true)
