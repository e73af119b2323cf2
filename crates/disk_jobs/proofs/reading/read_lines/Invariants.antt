use Rattle.std.proofs.Common.{◌≡◌, ◌+◌, ◌-◌, ◌*◌, ◌≤◌}
use Rattle.line_text.specs.Streams.{bytes_given, has_read_failed, read_calls, reader_inside, reader_name}
use Rattle.disk_jobs.specs.Readings.{lines_of}
use Rattle.disk_jobs.proofs.Progress.{Known}
use Rattle.disk_jobs.proofs.reading.read_lines.Given as goal

abbrev pub invariant-lines : goal.invariant-lines
invariant-lines g l = record {
  numbered : l.number ≡ lines_of l.jobs + 1;
  few : l.number ≤ 4098;
  goes : Known (g.R.Read.remaining (reader_inside l.initial.reader))
      (g.R.Read.remaining (reader_inside l.reader)) l.number l.jobs;
  calls : read_calls l.reader + 257 ≤ read_calls l.initial.reader + l.number * 257;
  bytes : bytes_given l.reader + 257 ≤ bytes_given l.initial.reader + l.number * 257;
  same_reader : reader_name l.reader ≡ reader_name l.initial.reader;
  read_mark : has_read_failed l.reader ≡ has_read_failed l.initial.reader;
}

abbrev pub decreases-lines : goal.decreases-lines
decreases-lines g l = 4099 - l.number
