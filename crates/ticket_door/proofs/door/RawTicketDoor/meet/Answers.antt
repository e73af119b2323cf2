use Rattle.std.proofs.Common.{sym, ap, arith}
use Rattle.ticket_door.specs.Asked.{TicketDoorId}
use Rattle.door_frame.proofs.Meetings.{at_table, both_out}
use Rattle.ticket_door.proofs.door.RawTicketDoor.meet.Goals as goal

pub meet-requires-clause-table : goal.meet-requires-clause-table
meet-requires-clause-table g c = let wide = c.self.invariant.words_are in omega (arith, wide)

pub meet-requires-clause-a : goal.meet-requires-clause-a
meet-requires-clause-a g c = at_table c.requires.a (ap (λ (d : TicketDoorId). d.door) (sym c.self.view_is))

pub meet-requires-clause-b : goal.meet-requires-clause-b
meet-requires-clause-b g c = at_table c.requires.b (ap (λ (d : TicketDoorId). d.door) (sym c.self.view_is))

pub returns-clause-a : goal.returns-clause-a
returns-clause-a g c =
    let m = c.meet.ensures in (both_out c.requires.a c.requires.b m.of m.places m.stands m.met).0

pub returns-clause-b : goal.returns-clause-b
returns-clause-b g c =
    let m = c.meet.ensures in (both_out c.requires.a c.requires.b m.of m.places m.stands m.met).1
