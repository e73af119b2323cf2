use Rattle.sweep_schedulers.proofs.Rounds.{Runs-rests, Runs-in_turn}
use Rattle.sweep_schedulers.proofs.Behind.{writes_few, is_next, rounds_few, reads_few, reads_at_most}
use Rattle.sweep_schedulers.proofs.Behind.{none_beside_readers, none_before}
use Rattle.sweep_schedulers.proofs.laws.readers_go_in_rounds.Goals as goal

pub returns-clause-keeps_rest : goal.returns-clause-keeps_rest
returns-clause-keeps_rest g c = λ s r ws m first runs. Runs-rests first runs

pub returns-clause-in_turn : goal.returns-clause-in_turn
returns-clause-in_turn g c = λ s r ws m first runs. Runs-in_turn first runs

pub returns-clause-writes : goal.returns-clause-writes
returns-clause-writes g c = λ s r w before behind m waits. writes_few waits

pub returns-clause-is_next : goal.returns-clause-is_next
returns-clause-is_next g c = λ s r w before behind others m waits next. is_next waits others next

pub returns-clause-rounds : goal.returns-clause-rounds
returns-clause-rounds g c = λ s r w before behind m waits. rounds_few waits

pub returns-clause-reads : goal.returns-clause-reads
returns-clause-reads g c = λ s r w before behind m waits. reads_few waits

pub returns-clause-at_most : goal.returns-clause-at_most
returns-clause-at_most g c = λ s r w most before behind m waits all. reads_at_most waits most all

pub returns-clause-beside_readers : goal.returns-clause-beside_readers
returns-clause-beside_readers g c = λ s r w behind m waits free. none_beside_readers waits free

pub returns-clause-one_write : goal.returns-clause-one_write
returns-clause-one_write g c = λ s r ws m waits. none_before waits
