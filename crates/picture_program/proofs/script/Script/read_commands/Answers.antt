use Rattle.std.proofs.Common.{rules}
use Rattle.hoare_script.specs.Lines.{command_of}
use Rattle.picture_program.proofs.Reading.{front_more}
use Rattle.picture_program.proofs.script.Script.read_commands.Goals as goal

pub lines-preserved : goal.lines-preserved
lines-preserved g c = record {
  failed = search rules;
  kept = front_more c.args.self.now.commands.items c.lines.self.commands.items c.add.new.self.commands.items
      (command_of c.as_slice.result.now)
      c.lines.invariant.kept c.in_ok-add.ensures.command;
  header = search rules;
}
