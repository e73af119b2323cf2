use Rattle.disk_service.proofs.JobsDone.{reads-once}
use Rattle.disk_service.proofs.worker.read_into_buffer.Goals as goal

pub returns-clause-sleeps : goal.returns-clause-sleeps
returns-clause-sleeps g c = rw c.requires.clock.number at c.use_buffer-places.ensures.sleeps

pub returns-clause-borrows : goal.returns-clause-borrows
returns-clause-borrows g c = rw c.requires.pool.number at c.use_buffer-places.ensures.borrows

pub returns-clause-reads : goal.returns-clause-reads
returns-clause-reads g c =
    reads-once _ _ _ _ _ (rw c.requires.pool.number at c.use_buffer-places.ensures.pool_once)
    (rw c.requires.head.number at c.use_buffer-places.ensures.head_once)
    (rw c.requires.clock.number at c.use_buffer-places.ensures.clock_once)
