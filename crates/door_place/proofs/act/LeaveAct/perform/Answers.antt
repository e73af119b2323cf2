use Rattle.std.proofs.Common.{refl}
use Rattle.door_place.specs.States.{left}
use Rattle.door_place.proofs.Acts.{woken, begun, from_inside}
use Rattle.door_place.proofs.act.LeaveAct.perform.Goals as goal

pub returns-clause-made : goal.returns-clause-made
returns-clause-made c =
    let o = c.leave_to-out.ensures in
    left c.in-Inside.inside _ c.in-Inside.is refl o.place o.front
    (woken c.args.door.now o.of.sized o.of.stands c.code_of.ensures.few o.next c.code_of.ensures.is)

pub returns-clause-front : goal.returns-clause-front
returns-clause-front c =
    from_inside c.in-Inside.is (begun _ c.leave_to-out.ensures.front)
