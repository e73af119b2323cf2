use Rattle.std.proofs.Common.{◌≡◌, ◌-◌, ◌≤◌, ◌++◌, length}
use Rattle.line_text.specs.Line.{NoNewline}
use Rattle.line_text.specs.Streams.{HasRead, Reads, has_read_failed, reader_inside, reader_name}
use Rattle.line_text.proofs.line.read_line.Given as goal

abbrev pub invariant-loop-byte : goal.invariant-loop-byte
invariant-loop-byte g l = record {
  short : length l.line.items ≤ 256;
  room : length l.line.items ≤ l.room;
  one : NoNewline l.line.items;
  known : Reads (g.R.Read.remaining (reader_inside l.initial.reader)) (g.R.Read.remaining (reader_inside l.reader))
      (λ t x. t ≡ l.line.items ++ x);
  counts : HasRead l.initial.reader l.reader (length l.line.items) (length l.line.items);
  same_reference : reader_name l.reader ≡ reader_name l.initial.reader;
  mark : has_read_failed l.reader ≡ has_read_failed l.initial.reader;
}

abbrev pub decreases-loop-byte : goal.decreases-loop-byte
decreases-loop-byte g l = 257 - length l.line.items
