use Rattle.std.proofs.Common.{rules}
use Rattle.order_explorer.specs.RunStates.{all_ended, is_stuck}
use Rattle.order_explorer.proofs.run_state.ending_at_rest.Goals as goal

pub returns-then-all_ended : goal.returns-then-all_ended
returns-then-all_ended g = all_ended (search rules)

pub returns-else-all_ended : goal.returns-else-all_ended
returns-else-all_ended g = is_stuck (search rules)
