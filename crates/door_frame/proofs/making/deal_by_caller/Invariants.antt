use Rattle.std.proofs.Common.{◌≡◌, ◌-◌, ◌≤◌, [], vec_len, vec_capacity}
use Rattle.hoare_law.specs.declared.event.History.{History}
use Rattle.door_frame.specs.declared.view.SeatView.TheVariants.{Places}
use Rattle.door_frame.specs.Places.{door_of, places_from}
use Rattle.door_frame.specs.Views.{all_know}
use Rattle.door_frame.proofs.making.deal_by_caller.Given as goal

abbrev pub invariant-loop-place : goal.invariant-loop-place
invariant-loop-place g l =
    (l.seat.table_id ≡ l.table.shared.table_id)
    × ((f : History g.row.D.Denot) → l.initial.seat.me ≡ (Places (all_know 0 l.fn.places f), [])
    → (l.seat.me ≡ (Places (all_know l.place (l.fn.places - l.place) f), []))
    × (l.outs.items ≡ places_from (door_of l.table.shared.table_id l.fn.places []) 0 l.place f))
    × (vec_len l.outs ≡ l.place) × (l.fn.places ≤ vec_capacity l.outs)
