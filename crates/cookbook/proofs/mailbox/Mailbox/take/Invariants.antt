use Rattle.std.proofs.Common.{◌≡◌}
use Rattle.cookbook.proofs.Mailboxes.{IsBest}
use Rattle.cookbook.proofs.mailbox.Mailbox.take.Given as goal

-- the best of the first i letters is known, and the letters are unchanged
abbrev pub invariant-loop-i : goal.invariant-loop-i
invariant-loop-i l = (l.self-inside.letters.items ≡ l.fn.self) × IsBest l.fn.self l.best l.i
