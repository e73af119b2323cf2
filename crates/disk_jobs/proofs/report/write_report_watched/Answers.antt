use Rattle.std.proofs.Common.{◌∙◌, sym}
use Rattle.line_text.specs.Streams.{writer_inside}
use Rattle.disk_jobs.specs.Reports.{lines_text, total_text}
use Rattle.disk_jobs.proofs.Lines.{writing-ends}
use Rattle.disk_jobs.proofs.report.write_report_watched.Goals as goal

pub returns-in-Err-write_whole-clause-err : goal.returns-in-Err-write_whole-clause-err
returns-in-Err-write_whole-clause-err g c =
    let report = c.args.report.now in
    writing-ends (g.W.Write.contents (writer_inside c.args.writer.now))
    (g.W.Write.contents (writer_inside c.write_lines.new.writer))
    (g.W.Write.contents (writer_inside c.write_whole.new.self)) (lines_text report.lines.items)
    (total_text report.jobs report.sum) _
    (c.as_slice-2.ensures.value ∙ c.total_text.ensures)
    (rw (sym c.as_slice.ensures.value) c.in_default.ensures.ok) c.in-Err-write_whole.ensures.err
