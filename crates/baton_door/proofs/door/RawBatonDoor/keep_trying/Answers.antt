use Rattle.baton_door.proofs.Attempts.{admitted_after, still_outside}
use Rattle.baton_door.proofs.door.RawBatonDoor.keep_trying.Goals as goal

pub returns-then-try_or_skip-clause-let_in : goal.returns-then-try_or_skip-clause-let_in
returns-then-try_or_skip-clause-let_in g c = c.try_or_skip.ensures.let_in c.if-try_or_skip.true

pub sleep_and_try-requires-clause-outside : goal.sleep_and_try-requires-clause-outside
sleep_and_try-requires-clause-outside g c =
    still_outside (c.try_or_skip.ensures.turned_away c.if-try_or_skip.false) c.requires.outside

pub returns-clause-let_in : goal.returns-clause-let_in
returns-clause-let_in g c =
    admitted_after (c.try_or_skip.ensures.turned_away c.if-try_or_skip.false) c.sleep_and_try.ensures.let_in
