use Rattle.std.proofs.Common.{◌≡◌}
use Rattle.wait_book.specs.Lists.{last_from, last_key, list_at, lower}
use Rattle.wait_book.proofs.chains.Chains.walk_behind.Given as goal

-- the last link whose priority isn't above is the one found so far, or one of those that are left
abbrev pub invariant-loop-link : goal.invariant-loop-link
invariant-loop-link l =
    (goal.iterator-loop-link).can_next l.link-iterator ×
    (goal.iterator-loop-link).is_finite l.link-iterator ×
    (last_from l.behind (lower l.priority l.link-iterator) ≡ last_key (lower l.priority (list_at l.self l.chain)))
