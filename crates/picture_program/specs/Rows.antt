-- Which rows of a chart show the history of its script.
use Rattle.std.specs.Prelude.{ℕ, ◌≡◌, ◌<◌, Bool, true, false, not, List, [], ◌∷◌, length, slice_index_or, take}
use Rattle.hoare_law.specs.declared.event.History.{History}
use Rattle.hoare_script.specs.Answers.{answer_to, history_after}
use Rattle.hoare_script.specs.declared.lines.Command.{Command}
use Rattle.picture_program.specs.declared.chart.Row.{Row}
use Rattle.picture_program.specs.declared.monitor.Lane.{Lane}
use Rattle.picture_program.specs.declared.monitor.Lane.TheVariants as lanes
use Rattle.picture_program.specs.declared.script.Script.{Script}
use Rattle.picture_program.specs.Lanes.{AreLanes, opening}

-- the history after commands
abbrev pub after_commands : History (Unit {0}) → List Command → History (Unit {0})
after_commands h [] = h
after_commands h (c ∷ cs) = after_commands (history_after h c) cs

-- the history before the command with this number, counted from 0
abbrev pub history_before : Script → ℕ → History (Unit {0})
history_before script i = after_commands (opening script.header) (take i script.commands.items)

-- the row is that of a command of the script: it has the answer by the history of the commands before it, and its lanes
-- show the histories before and after it
pub record IsRow (script : Script) (row : Row) : Type 0 where
  pub inside : row.number < length script.commands.items
  pub answered : (d : Command)
      → row.answer ≡ answer_to (history_before script row.number) (slice_index_or script.commands.items row.number d)
  pub before : AreLanes (history_before script row.number) row.before
  pub after : (d : Command)
      → AreLanes (history_after (history_before script row.number)
      (slice_index_or script.commands.items row.number d)) row.after

-- an arrow of a row ends at a place that does this before and after it, from a place that is inside before it: the
-- place is inside after it, and is another one, or it waits before and is notified after
abbrev pub is_head : Lane → Lane → Bool → Bool
is_head before lanes.Inside is_from = not is_from
is_head (lanes.Waiting c p) (lanes.Called n) is_from = true
is_head _ _ is_from = false
