use Rattle.std.proofs.Common.{◌≡◌}
use Rattle.line_text.specs.Streams.{has_read_failed}
use Rattle.picture_program.specs.Scripts.{IsInFront}
use Rattle.picture_program.proofs.script.Script.read_commands.Given as goal

abbrev pub invariant-lines : goal.invariant-lines
invariant-lines g l = record {
  failed : has_read_failed l.reader ≡ has_read_failed l.initial.reader;
  kept : IsInFront l.initial.self.commands.items l.self.commands.items;
  header : l.self.header ≡ l.initial.self.header;
}
