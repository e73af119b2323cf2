use Rattle.std.proofs.Common.{rules, refl}
use Rattle.atomic_table.specs.Table.{keeps}
use Rattle.test_support.proofs.fake.Fake.step.Goals as goal

pub load-requires : goal.load-requires
load-requires g c = (
  search rules,
  search rules,
  λ s holds slots here word. (g.J.Telling.after c.args.seat.now.me.0, keeps, tt, tt, refl),
)
