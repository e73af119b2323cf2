use Rattle.std.proofs.Common.{◌≡◌, ◌+◌, ◌≤◌}
use Rattle.line_text.specs.Streams.{bytes_given, has_read_failed, has_write_failed, read_calls, reader_inside}
use Rattle.line_text.specs.Streams.{reader_name, writer_inside, writer_name}
use Rattle.hoare_script.specs.declared.runs.TheConstants.{MOST_BYTES}
use Rattle.hoare_script.proofs.Running.{Known}
use Rattle.hoare_script.proofs.runs.run_watched.Given as goal

abbrev pub invariant-lines : goal.invariant-lines
invariant-lines g l = record {
  numbered : l.number + l.room ≤ MOST_BYTES + 1;
  goes : Known (g.R.Read.remaining (reader_inside l.initial.reader)) (g.R.Read.remaining (reader_inside l.reader))
      (g.W.Write.contents (writer_inside l.initial.writer))
      (g.W.Write.contents (writer_inside l.writer)) l.number l.room l.opened;
  calls : read_calls l.reader + l.room ≤ read_calls l.initial.reader + MOST_BYTES;
  bytes : bytes_given l.reader + l.room ≤ bytes_given l.initial.reader + MOST_BYTES;
  same_reader : reader_name l.reader ≡ reader_name l.initial.reader;
  same_writer : writer_name l.writer ≡ writer_name l.initial.writer;
  read_mark : has_read_failed l.reader ≡ has_read_failed l.initial.reader;
  write_mark : has_write_failed l.writer ≡ has_write_failed l.initial.writer;
}

abbrev pub decreases-lines : goal.decreases-lines
decreases-lines g l = l.room
