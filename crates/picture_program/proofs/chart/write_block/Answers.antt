use Rattle.std.proofs.Common.{◌≡◌, ◌<◌, length, slice_index_or, rules, subst}
use Rattle.picture_program.specs.Lanes.{AreLanes, IsAt}
use Rattle.picture_program.specs.Rows.{history_before}
use Rattle.picture_program.proofs.Does.{Log}
use Rattle.picture_program.proofs.Steps.{history_next}
use Rattle.picture_program.proofs.chart.write_block.Goals as goal

pub rows-preserved : goal.rows-preserved
rows-preserved g c =
    let h : Log = history_before c.args.script.now c.rows.number in
    let below : c.rows.number < length c.args.script.now.commands.items = search rules in
    let is : c.index.result.now ≡ slice_index_or c.args.script.now.commands.items c.rows.number c.index.result.now =
    search rules in
    let next = history_next c.args.script.now c.rows.number c.index.result.now below is in record {
      at = subst (λ (x : Log). IsAt c.act-answer.new.self x) next (c.act-answer.ensures h c.rows.invariant.at).1;
      before = subst (λ (x : Log). AreLanes x c.lanes-after.result) next
          (c.lanes-after.ensures _ (c.act-answer.ensures h c.rows.invariant.at).1);
    }
