use Rattle.std.proofs.Common.{◌≡◌, ◌≤◌, ◌+◌, length}
use Rattle.wait_book.specs.Lists.{list_at, places_in}
use Rattle.wait_book.specs.Numbers.{position_from}
use Rattle.wait_book.proofs.queues.notified_position.Given as goal

-- the count continues with the links that are left
abbrev pub invariant-loop-link : goal.invariant-loop-link
invariant-loop-link l =
    (goal.iterator-loop-link).can_next l.link-iterator ×
    (goal.iterator-loop-link).is_finite l.link-iterator ×
    (l.number + length l.link-iterator ≤ 64) ×
    (position_from l.number l.place (places_in l.link-iterator) ≡ position_from 0 l.place
    (places_in (list_at l.chains 9)))
