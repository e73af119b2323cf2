use Rattle.std.proofs.Common.{◌∙◌}
use Rattle.ticket_door.proofs.door.RawTicketDoor.keep_polling.Goals as goal

pub is_served-requires-clause-asked : goal.is_served-requires-clause-asked
is_served-requires-clause-asked g c =
    let a = c.requires.asked in (a.0, a.1, c.loop.invariant.2 ∙ a.2, a.3, a.4)

pub returns-then-is_served-clause-let_in : goal.returns-then-is_served-clause-let_in
returns-then-is_served-clause-let_in g c =
    λ f x is. c.is_served.ensures.let_in c.if-is_served.true f x (c.loop.invariant.2 ∙ is)
