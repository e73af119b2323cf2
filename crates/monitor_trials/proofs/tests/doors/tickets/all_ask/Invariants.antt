use Rattle.std.proofs.Common.{◌≡◌, ◌≤◌, ◌⊎◌, ◌+◌, ℕ, map, vec_len}
use Rattle.std.specs.Prelude.{All}
use Rattle.std.specs.VecDeque.{deque_len, deque_capacity}
use Rattle.door_frame.specs.Places.{HasPlace}
use Rattle.ticket_door.specs.Asked.{as_out}
use Rattle.monitor_trials.proofs.Many.{IsUnconstrainedOut, IsUnconstrainedAsking}
use Rattle.monitor_trials.proofs.tests.doors.tickets.all_ask.Given as goal

-- each place is outside or has a ticket
abbrev pub invariant-loop-out : goal.invariant-loop-out
invariant-loop-out l =
    All (IsUnconstrainedOut l.door.door) l.outs.items
    × All (IsUnconstrainedAsking l.door) l.asks.items
    × (deque_len l.asks + vec_len l.outs ≡ vec_len l.fn.outs) × (vec_len l.fn.outs ≤ deque_capacity l.asks)
    × ((k : ℕ) → HasPlace k l.fn.outs.items → HasPlace k l.outs.items ⊎ HasPlace k (map as_out l.asks.items))

abbrev pub decreases-loop-out : goal.decreases-loop-out
decreases-loop-out l = vec_len l.outs
