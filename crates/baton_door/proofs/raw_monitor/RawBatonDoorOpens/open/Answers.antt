use Rattle.hoare_law.specs.Sizes.{kinds_of}
use Rattle.door_frame.proofs.Opened.{made_outside, stands_for, dealt}
use Rattle.baton_door.proofs.raw_monitor.RawBatonDoorOpens.open.Goals as goal

pub deal-outs-requires-clause-seat : goal.deal-outs-requires-clause-seat
deal-outs-requires-clause-seat g c = (_, stands_for c.in_ok-table.ensures.table.2 _ c.open.ensures.opened)

pub returns-clause-made : goal.returns-clause-made
returns-clause-made g c =
    let D = g.D.MonitorData in
    let made = c.in_ok-table.ensures in
    let are =
    dealt made.table.2 _ _ _ c.requires.each_wakes c.open.ensures.opened c.deal-outs.ensures made.guarded.0 in
    record {
      places = made.table.2;
      of =
          made_outside D.rest D.ready (kinds_of D.CONDITIONS D.MESA) _ _ made.table.2 are c.requires.rests;
      are = are;
    }
