use Rattle.std.proofs.Common.{eqb-true, eq-eqb, true≢false, sym, ◌∙◌, arith}
use Rattle.baton_door.proofs.Steps.{admits_at}
use Rattle.baton_door.proofs.table_steps.try_in.Goals as goal

pub compare_exchange-requires : goal.compare_exchange-requires
compare_exchange-requires g c =
    let out = c.requires.outside in
    let D = g.D.MonitorData in
    let wide = c.requires.wide in (
      c.requires.table,
      omega (arith, wide),
      admits_at D.rest D.ready (g.K.DoorKey.kinds c.args.table.now.shared.key) _ _ _ _ _ _ out.1.1 out.1.2,
    )

pub returns-clause-refused : goal.returns-clause-refused
returns-clause-refused g c = λ no k f is.
    (c.compare_exchange.ensures.2 k f is).0 (λ hit. true≢false (sym (eq-eqb c.compare_exchange.result 0 hit) ∙ no))

pub returns-clause-let_in : goal.returns-clause-let_in
returns-clause-let_in g c = λ is k f away.
    let t = (c.compare_exchange.ensures.2 k f away).1 (eqb-true c.compare_exchange.result 0 is) in (t.0, t.1)
