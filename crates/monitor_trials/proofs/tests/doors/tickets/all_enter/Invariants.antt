use Rattle.std.proofs.Common.{◌≤◌, ◌⊎◌, ◌+◌, ℕ, map, vec_len, vec_capacity}
use Rattle.std.specs.Prelude.{All}
use Rattle.std.specs.VecDeque.{deque_len}
use Rattle.door_frame.specs.Places.{HasPlace}
use Rattle.ticket_door.specs.Asked.{as_out}
use Rattle.monitor_trials.proofs.Many.{IsUnconstrainedOut, IsUnconstrainedAsking}
use Rattle.monitor_trials.proofs.tests.doors.tickets.all_enter.Given as goal

-- each place has a ticket or is outside again
abbrev pub invariant-loop-asked : goal.invariant-loop-asked
invariant-loop-asked g l =
    All (IsUnconstrainedAsking l.door) l.asks.items
    × All (IsUnconstrainedOut l.door.door) l.outs.items
    × (deque_len l.asks + vec_len l.outs ≤ vec_capacity l.outs) ×
    (deque_len l.asks + vec_len l.tickets ≤ vec_capacity l.tickets)
    ×
    ((k : ℕ) → HasPlace k (map as_out l.fn.asks.items) → HasPlace k (map as_out l.asks.items) ⊎ HasPlace k l.outs.items)

abbrev pub decreases-loop-asked : goal.decreases-loop-asked
decreases-loop-asked g l = deque_len l.asks
