use Rattle.hoare_law.proofs.Held.{by_pass, by_signal, by_signal_to}
use Rattle.hoare_law.proofs.Rules.{after_handing}
use Rattle.hoare_law.proofs.laws.nothing_intervenes.Goals as goal

pub returns-clause-signal : goal.returns-clause-signal
returns-clause-signal g c = after_handing by_signal

pub returns-clause-pass : goal.returns-clause-pass
returns-clause-pass g c = after_handing by_pass

pub returns-clause-signal_to : goal.returns-clause-signal_to
returns-clause-signal_to g c = after_handing by_signal_to
