use Rattle.disk_service.proofs.worker.add_to_totals.Goals as goal

pub returns-clause-counts : goal.returns-clause-counts
returns-clause-counts g c = rw c.requires.totals.number at c.add_to-place.ensures.counts
