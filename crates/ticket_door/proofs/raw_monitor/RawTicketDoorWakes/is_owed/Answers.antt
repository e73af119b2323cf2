use Rattle.std.proofs.Common.{◌<◌, sym, subst, arith}
use Rattle.ticket_door.specs.Asked.{TicketDoorId}
use Rattle.ticket_door.proofs.raw_monitor.RawTicketDoorWakes.is_owed.Goals as goal

pub bell_of-requires : goal.bell_of-requires
bell_of-requires g c =
    let small = subst (λ (d : TicketDoorId). c.args.place < d.door.places) (sym c.self.view_is) c.requires in
    let most = c.self.invariant.most in
    omega (arith, small, most)

pub peek-requires : goal.peek-requires
peek-requires g c =
    let small = subst (λ (d : TicketDoorId). c.args.place < d.door.places) (sym c.self.view_is) c.requires in
    let wide = c.self.invariant.words_are in
    omega (arith, small, wide, c.bell_of.ensures)
