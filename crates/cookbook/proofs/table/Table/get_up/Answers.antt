use Rattle.std.proofs.Common.{◌∙◌, rules}
use Rattle.hoare_law.proofs.Growth.{leaves-as}
use Rattle.cookbook.specs.TableTraces.{got_up, refused}
use Rattle.cookbook.proofs.Tables.{TableHolds-risen, HandsOn-as}
use Rattle.cookbook.proofs.table.Table.get_up.Goals as goal

pub returns-then-not-is_eating-clause-trace : goal.returns-then-not-is_eating-clause-trace
returns-then-not-is_eating-clause-trace g c =
    refused _ _ _ c.enter-inside.ensures.front (search rules)
    (leaves-as c.leave.ensures.front (search rules) (search rules) (search rules))

pub hand_on-requires-clause-of : goal.hand_on-requires-clause-of
hand_on-requires-clause-of g c =
    λ _ _. g.met.M.Monitor.keeps_of c.args.m.now c.enter-inside.result c.stop.new.self c.enter-inside.ensures.of

pub hand_on-requires-clause-inv : goal.hand_on-requires-clause-inv
hand_on-requires-clause-inv g c = λ _ _.
    TableHolds-risen (g.M.Monitor.data_in c.enter-inside.result) _ c.args.seat c.enter-inside.ensures.rest.inv
    (search rules)
    (g.met.M.Monitor.takes_data c.enter-inside.result c.stop.new.self
    ∙ (rw c.state_mut.ensures.value at c.stop.ensures))

pub returns-clause-trace : goal.returns-clause-trace
returns-clause-trace g c =
    got_up _ _ c.enter-inside.ensures.front (search rules) (HandsOn-as c.hand_on.ensures.trace
    (g.met.M.Monitor.keeps_place c.enter-inside.result c.stop.new.self ∙ c.enter-inside.ensures.place)
    (g.met.M.Monitor.takes_data c.enter-inside.result c.stop.new.self
    ∙ (rw c.state_mut.ensures.value at c.stop.ensures))
    (g.met.M.Monitor.keeps_front c.enter-inside.result c.stop.new.self))
