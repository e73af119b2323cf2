use Rattle.std.proofs.Common.{◌∙◌}
use Rattle.door_frame.proofs.Arrivals.{waited_back}
use Rattle.door_frame.proofs.calls.wait.Goals as goal

pub returns : goal.returns
returns g c =
    let away = c.begin_wait-away.ensures in
    let back = c.come_back.ensures in
    let r = waited_back _ c.args.inside _ c.args.condition c.args.priority away.place away.front back in
    record { of = back.of; place = back.place ∙ away.place; ready = r.is_ready; rest = r.rests; front = r.front }
