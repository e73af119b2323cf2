use Rattle.sweep_schedulers.proofs.SharedBounds.{is_run}
use Rattle.sweep_schedulers.proofs.SharedWaits.{writer_waits, reader_waits}
use Rattle.sweep_schedulers.proofs.laws.a_sharing_history_is_a_run.Goals as goal

pub returns-clause-is_run : goal.returns-clause-is_run
returns-clause-is_run g c = is_run

pub returns-clause-writer : goal.returns-clause-writer
returns-clause-writer g c = writer_waits

pub returns-clause-reader : goal.returns-clause-reader
returns-clause-reader g c = reader_waits
