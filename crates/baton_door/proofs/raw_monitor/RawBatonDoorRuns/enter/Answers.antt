use Rattle.door_frame.proofs.Refusals.{entered_still}
use Rattle.baton_door.proofs.raw_monitor.RawBatonDoorRuns.enter.Goals as goal

pub returns-in-Err : goal.returns-in-Err
returns-in-Err g c =
    let refused = c.in-Err.ensures in
    let i = c.enter_later.ensures in
    entered_still c.in-Err.out refused.still_place refused.learned i.of i.place i.rest i.front
