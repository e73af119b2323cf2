use Rattle.picture_program.specs.Lanes.{AreLanes, IsAt}
use Rattle.picture_program.specs.Rows.{history_before}
use Rattle.picture_program.proofs.chart.write_block.Given as goal

abbrev pub invariant-rows : goal.invariant-rows
invariant-rows g l = record {
  at : IsAt l.monitor (history_before l.fn.script l.number);
  before : AreLanes (history_before l.fn.script l.number) l.before;
}
