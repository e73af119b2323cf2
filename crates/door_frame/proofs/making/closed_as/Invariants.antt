use Rattle.std.proofs.Common.{◌≡◌, List, [], ◌++◌, vec_len}
use Rattle.door_frame.specs.declared.view.SeatView.TheVariants.{Places}
use Rattle.door_frame.specs.Places.{PlaceOut}
use Rattle.door_frame.proofs.Close.{known_to}
use Rattle.door_frame.proofs.making.closed_as.Given as goal

abbrev pub invariant-loop-out : goal.invariant-loop-out
invariant-loop-out g l =
    (l.seat.table_id ≡ l.table.shared.table_id)
    ×
    ((rest : List (PlaceOut g.row.D.Denot)) × (l.fn.outs.items ≡ l.outs.items ++ rest)
    × (l.seat.me ≡ (Places (known_to rest), [])))

abbrev pub decreases-loop-out : goal.decreases-loop-out
decreases-loop-out g l = vec_len l.outs
