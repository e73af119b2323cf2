use Rattle.baton_door.proofs.Attempts.{turned_away}
use Rattle.baton_door.proofs.door.RawBatonDoor.try_or_skip.Goals as goal

pub returns-then-not-may_poll-clause-turned_away : goal.returns-then-not-may_poll-clause-turned_away
returns-then-not-may_poll-clause-turned_away g c = λ no. turned_away (c.try_in.ensures.refused no)
