use Rattle.std.proofs.Common.{◌≡◌, ◌+◌, ◌-◌, ◌≤◌, List, [], ◌++◌, length, reverse, vec_len, vec_capacity}
use Rattle.atomic_table.specs.Seated.{TableId}
use Rattle.hoare_law.specs.declared.event.History.{History}
use Rattle.door_frame.specs.declared.view.SeatView.TheVariants.{Places}
use Rattle.door_frame.specs.Places.{door_of, places_from}
use Rattle.door_frame.specs.Views.{all_know}
use Rattle.door_frame.proofs.making.deal.Given as goal

abbrev pub invariant-loop-place : goal.invariant-loop-place
invariant-loop-place g l =
    (l.seat.table_id ≡ l.table.shared.table_id)
    × ((f : History g.row.D.Denot) → l.initial.seat.me ≡ (Places (all_know 0 l.fn.places f), [])
    → (l.seat.me ≡ (Places (all_know l.place (l.fn.places - l.place) f), []))
    × (l.outs.items ≡ places_from (door_of l.table.shared.table_id l.fn.places (reverse l.fn.sleepers.items))
    0 l.place f))
    × (vec_len l.outs ≡ l.place) × (l.fn.places ≤ vec_capacity l.outs) × (vec_len l.sleepers + l.place ≡ l.fn.places)
    × ((given : List TableId) × (l.fn.sleepers.items ≡ l.sleepers.items ++ given) × (length given ≡ l.place))
