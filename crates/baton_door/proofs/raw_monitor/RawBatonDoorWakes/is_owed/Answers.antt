use Rattle.std.proofs.Common.{arith, ◌<◌, sym, subst}
use Rattle.door_frame.specs.Places.{DoorId}
use Rattle.baton_door.proofs.raw_monitor.RawBatonDoorWakes.is_owed.Goals as goal

pub owed-requires : goal.owed-requires
owed-requires g c =
    let small = subst (λ (d : DoorId). c.args.place < d.places) (sym c.self.view_is) c.requires in
    let most = c.self.invariant.most in
    omega (arith, small, most)
