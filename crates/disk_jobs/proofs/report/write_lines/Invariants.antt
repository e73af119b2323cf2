use Rattle.std.proofs.Common.{◌≡◌, ◌≤◌, length, take}
use Rattle.std.specs.Io.KnownBytes.{Appends}
use Rattle.line_text.specs.Streams.{has_write_failed, writer_inside, writer_name}
use Rattle.disk_jobs.specs.Reports.{lines_text}
use Rattle.disk_jobs.proofs.report.write_lines.Given as goal

abbrev pub invariant-loop-i : goal.invariant-loop-i
invariant-loop-i g l = record {
  so_far : l.i ≤ length l.lines;
  written : Appends (g.W.Write.contents (writer_inside l.initial.writer)) (g.W.Write.contents (writer_inside l.writer))
      (lines_text (take l.i l.lines));
  same_writer : writer_name l.writer ≡ writer_name l.initial.writer;
  mark : has_write_failed l.writer ≡ has_write_failed l.initial.writer;
}
