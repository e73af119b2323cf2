use Rattle.std.proofs.Common.{◌≡◌, ◌-◌, ◌≤◌, length, take}
use Rattle.std.specs.Io.KnownBytes.{Appends}
use Rattle.line_text.specs.Streams.{has_write_failed, writer_inside, writer_name}
use Rattle.line_text.proofs.writer.WatchedWriter.write_whole.Given as goal

abbrev pub invariant-loop-at : goal.invariant-loop-at
invariant-loop-at g l = record {
  bound : l.at ≤ length l.bytes;
  written : Appends (g.W.Write.contents (writer_inside l.initial.self)) (g.W.Write.contents (writer_inside l.self))
      (take l.at l.bytes);
  same_reference : writer_name l.self ≡ writer_name l.initial.self;
  mark : has_write_failed l.self ≡ has_write_failed l.initial.self;
}

abbrev pub decreases-loop-at : goal.decreases-loop-at
decreases-loop-at g l = length l.bytes - l.at
