use Rattle.std.proofs.Common.{◌∙◌, arith, rules}
use Rattle.line_text.specs.Streams.{writer_inside}
use Rattle.disk_jobs.proofs.Lines.{writing-breaks, writing-goes}
use Rattle.disk_jobs.proofs.report.write_lines.Goals as goal

pub returns-in-Err-clause-err : goal.returns-in-Err-clause-err
returns-in-Err-clause-err g c =
    writing-breaks _
    (g.W.Write.contents (writer_inside c.loop-i.writer)) _ c.args.lines.now c.loop-i.i c.index-lines-i.result
    _ c.loop-i-test.true c.index-lines-i.is
    (c.as_slice.ensures.value ∙ c.line_text-text.ensures) c.loop-i.invariant.written c.in-Err.ensures.err

pub loop-i-preserved : goal.loop-i-preserved
loop-i-preserved g c = record {
  so_far = omega arith;
  written =
      writing-goes _
      (g.W.Write.contents (writer_inside c.loop-i.writer)) _ c.args.lines.now c.loop-i.i c.index-lines-i.result
      _ c.loop-i-test.true c.index-lines-i.is
      (c.as_slice.ensures.value ∙ c.line_text-text.ensures) c.loop-i.invariant.written c.in_default.ensures.ok;
  same_writer = search rules;
  mark = search rules;
}
