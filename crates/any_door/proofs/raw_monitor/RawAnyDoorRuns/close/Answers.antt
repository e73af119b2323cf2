use Rattle.any_door.proofs.raw_monitor.RawAnyDoorRuns.close.Goals as goal

pub close-requires-clause-places : goal.close-requires-clause-places
close-requires-clause-places g c = λ k l. c.requires.places k (rw c.in-Baton.is l)

pub close-requires-in-Ticket-clause-places : goal.close-requires-in-Ticket-clause-places
close-requires-in-Ticket-clause-places g c = λ k l. c.requires.places k (rw c.in-Ticket.is l)
