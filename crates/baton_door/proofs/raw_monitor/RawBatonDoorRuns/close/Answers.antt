use Rattle.std.proofs.Common.{◌<◌, ℕ, sym, subst}
use Rattle.door_frame.specs.Places.{DoorId, HasPlace}
use Rattle.baton_door.proofs.raw_monitor.RawBatonDoorRuns.close.Goals as goal

pub closed-requires-clause-places : goal.closed-requires-clause-places
closed-requires-clause-places g c =
    subst (λ (d : DoorId). (k : ℕ) → k < d.places → HasPlace k c.args.outs.items) (sym c.self.view_is) c.requires.places
