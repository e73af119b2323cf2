use Rattle.hoare_law.specs.Sizes.{kinds_of}
use Rattle.door_frame.specs.Places.{IsOut}
use Rattle.any_door.specs.Doors.{id_of}
use Rattle.order_explorer.proofs.explorer.run_all.Given as goal

-- `spare` remains a place of the monitor
abbrev pub invariant-loop-run : goal.invariant-loop-run
invariant-loop-run g l = IsOut g.D.MonitorData.rest g.D.MonitorData.ready
    (kinds_of g.D.MonitorData.CONDITIONS g.D.MonitorData.MESA) (id_of l.explored.door) l.spare
