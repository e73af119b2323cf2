use Rattle.std.proofs.Common.{◌≡◌, ◌≤◌, length}
use Rattle.order_explorer.specs.Turns.{AreLast}
use Rattle.order_explorer.proofs.choices.turn_last.Given as goal

-- the choices after the first `left` have no place left
abbrev pub invariant-loop-left : goal.invariant-loop-left
invariant-loop-left l = record {
  same : l.all.items ≡ l.initial.all.items;
  within : l.left ≤ length l.all.items;
  others_last : AreLast l.left l.all.items;
}

abbrev pub decreases-loop-left : goal.decreases-loop-left
decreases-loop-left l = l.left
