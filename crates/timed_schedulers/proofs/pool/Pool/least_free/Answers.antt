use Rattle.timed_schedulers.proofs.Kept.{first_unmarked}
use Rattle.timed_schedulers.proofs.pool.Pool.least_free.Goals as goal

pub returns : goal.returns
returns c =
    let some = rw (← c.self.view_is) at c.requires in
    rw (← c.self.view_is)
    (first_unmarked c.self.invariant some c.deref.ensures.value c.least_unmarked.ensures.unmarked
    c.least_unmarked.ensures.least)
