use Rattle.std.proofs.Common.{◌≡◌, None}
use Rattle.wait_book.specs.Lists.{keys_of, list_at}
use Rattle.wait_book.proofs.chains.Chains.find.Given as goal

-- the link of the place is among those that are left, if it is in the chain
abbrev pub invariant-loop-link : goal.invariant-loop-link
invariant-loop-link l =
    (goal.iterator-loop-link).can_next l.link-iterator ×
    (goal.iterator-loop-link).is_finite l.link-iterator ×
    (keys_of l.place l.behind l.link-iterator ≡ keys_of l.place None (list_at l.self l.chain))
