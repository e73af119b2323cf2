use Rattle.std.proofs.Common.{refl}
use Rattle.std.proofs.lemmas.List.{get_or-replicate}
use Rattle.hoare_script.specs.Lines.{sizes_in}
use Rattle.picture_program.specs.declared.monitor.Lane.TheVariants as states
use Rattle.picture_program.proofs.Monitors.{at_opening, few_places}
use Rattle.picture_program.proofs.monitor.Monitor.open.Goals as goal

pub returns-in-Ok-clause-monitor : goal.returns-in-Ok-clause-monitor
returns-in-Ok-clause-monitor c = (
  few_places (sizes_in c.args.header) c.in-Ok.ensures.0,
  at_opening c.args.header _ c.in-Ok.ensures.1 refl
      (λ k below. get_or-replicate 64 k states.Outside states.Outside below),
)
