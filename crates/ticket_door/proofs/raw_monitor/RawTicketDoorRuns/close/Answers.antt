use Rattle.std.proofs.Common.{◌<◌, ℕ, sym, subst}
use Rattle.door_frame.specs.Places.{HasPlace}
use Rattle.ticket_door.specs.Asked.{TicketDoorId}
use Rattle.ticket_door.proofs.raw_monitor.RawTicketDoorRuns.close.Goals as goal

pub closed-requires-clause-places : goal.closed-requires-clause-places
closed-requires-clause-places g c =
    subst (λ (d : TicketDoorId). (k : ℕ) → k < d.door.places → HasPlace k c.args.outs.items)
    (sym c.self.view_is) c.requires.places
