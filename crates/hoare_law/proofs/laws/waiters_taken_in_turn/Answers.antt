use Rattle.std.proofs.Common.{refl, arith}
use Rattle.hoare_law.specs.Overtaking.{with_events, taken_from, waits_below, signals_to}
use Rattle.hoare_law.specs.Waiting.{priority_of}
use Rattle.hoare_law.proofs.FirstCome.{first_come}
use Rattle.hoare_law.proofs.PassedOver.{passed, passed_next, passed_chosen, waits_below-zero}
use Rattle.hoare_law.proofs.Room.{few_before}
use Rattle.hoare_law.proofs.laws.waiters_taken_in_turn.Goals as goal

pub returns-clause-within : goal.returns-clause-within
returns-clause-within g c = λ d h later before behind x legal is apart.
    let r = passed d (with_events h later) h.events later before x behind legal refl is apart in
    (r.before, r.behind, r.now, omega (arith, r.counts), omega (arith, r.few, r.counts))

pub returns-clause-then_next : goal.returns-clause-then_next
returns-clause-then_next g c = λ d h later before behind x legal is apart all.
    passed_next d (with_events h later).events before x (taken_from d later) (waits_below d (priority_of x) later)
    (signals_to d later) (passed d (with_events h later) h.events later before x behind legal refl is apart) all

pub returns-clause-few : goal.returns-clause-few
returns-clause-few g c = few_before

pub returns-clause-at_most : goal.returns-clause-at_most
returns-clause-at_most g c = λ d h later before behind x legal is apart.
    let r = passed d (with_events h later) h.events later before x behind legal refl is apart in
    omega (arith, r.counts)

pub returns-clause-its_turn : goal.returns-clause-its_turn
returns-clause-its_turn g c = λ d h later before behind x legal is apart none.
    passed_chosen d (with_events h later).events before x (taken_from d later) (waits_below d (priority_of x) later)
    (signals_to d later) (passed d (with_events h later) h.events later before x behind legal refl is apart) none

pub returns-clause-plain : goal.returns-clause-plain
returns-clause-plain g c = waits_below-zero

pub returns-clause-first_come : goal.returns-clause-first_come
returns-clause-first_come g c = first_come
