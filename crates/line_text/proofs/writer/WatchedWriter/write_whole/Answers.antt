use Rattle.std.proofs.Common.{◌-◌, length, arith, rules, length-take, length-drop}
use Rattle.line_text.proofs.Streams.{Appends-take}
use Rattle.line_text.proofs.writer.WatchedWriter.write_whole.Goals as goal

pub loop-at-preserved : goal.loop-at-preserved
loop-at-preserved g c =
    let bs = c.args.bytes.now in
    record {
      bound = grind (arith, length-take, length-drop, c.in-Ok.ensures.bound);
      written = Appends-take _ _ _ bs c.loop-at.at c.in-Ok.n (length bs - c.loop-at.at)
          (omega arith) c.loop-at.invariant.written c.in-Ok.ensures.bytes;
      same_reference = search rules;
      mark = search rules;
    }
