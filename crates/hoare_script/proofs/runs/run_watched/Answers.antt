use Rattle.std.proofs.Common.{◌≡◌, ◌<◌, ℕ, List, length, ap, subst, arith, rules, Err, Ok}
use Rattle.std.proofs.lemmas.Bool.Decides.{nat_tests}
use Rattle.std.proofs.lemmas.List.{nil_from_length}
use Rattle.line_text.specs.declared.line.Ended.{Ended}
use Rattle.line_text.specs.declared.line.Ended.TheVariants as how
use Rattle.line_text.specs.Line.{IsLineFor}
use Rattle.line_text.specs.Streams.{reader_inside, writer_inside}
use Rattle.hoare_script.proofs.Running as running
use Rattle.hoare_script.proofs.Running.{Known}
use Rattle.hoare_script.proofs.runs.run_watched.Goals as goal

-- if a line has its end, there is room for that end
line_room : (room : ℕ) (l : List ℕ) (f : Ended) → f ≡ how.Line → IsLineFor room l (Ok f) → length l < room
line_room room l f e s = subst (λ (v : Ended). IsLineFor room l (Ok v)) e s

pub lines-init : goal.lines-init
lines-init g c =
    let k = g.R.Read.remaining (reader_inside c.args.reader.now) in
    let w = g.W.Write.contents (writer_inside c.args.writer.now) in
    record {
      numbered = omega arith;
      goes = running.Known-start k w;
      calls = omega arith;
      bytes = omega arith;
      same_reader = search rules;
      same_writer = search rules;
      read_mark = search rules;
      write_mark = search rules;
    }

pub returns-in-Err-Failed-clause-answer : goal.returns-in-Err-Failed-clause-answer
returns-in-Err-Failed-clause-answer g c =
    let e = c.in-Err-Failed.ensures in
    running.exit_failed c.lines.invariant.goes
    (g.R.Read.remaining (reader_inside c.read_line.new.reader)) c.read_line.new.line.items
    e.one e.short e.within c.in-Err-Failed.field-0 c.in-Err-Failed.field-0-is e.known

pub returns-in-Err-TooLong-clause-answer : goal.returns-in-Err-TooLong-clause-answer
returns-in-Err-TooLong-clause-answer g c =
    let e = c.in-Err-TooLong.ensures in
    running.exit_long c.lines.invariant.goes
    (g.R.Read.remaining (reader_inside c.read_line.new.reader)) c.read_line.new.line.items
    e.one e.short e.within c.in-Err-TooLong.field-0 c.in-Err-TooLong.field-0-is e.known e.fits

pub returns-in-Err-TooMuch-clause-answer : goal.returns-in-Err-TooMuch-clause-answer
returns-in-Err-TooMuch-clause-answer g c =
    let e = c.in-Err-TooMuch.ensures in
    running.exit_much c.lines.invariant.goes
    (g.R.Read.remaining (reader_inside c.read_line.new.reader)) c.read_line.new.line.items
    e.one e.short e.within c.in-Err-TooMuch.field-0 c.in-Err-TooMuch.field-0-is e.known e.fits

pub returns-in-Ok-Last-clause-answer : goal.returns-in-Ok-Last-clause-answer
returns-in-Ok-Last-clause-answer g c =
    let e = c.in-Ok-Last.ensures in
    running.exit_end c.lines.invariant.goes
    (g.R.Read.remaining (reader_inside c.read_line.new.reader)) c.read_line.new.line.items
    e.one e.short e.within c.end_before.result c.in-Ok-Last.field-0 c.in-Ok-Last.field-0-is e.known
    (nil_from_length c.read_line.new.line.items (grind (arith, nat_tests, c.is_empty.ensures, c.if-is_empty.true)))
    c.end_before.ensures.value

pub returns-in-Ok-Last-2-clause-answer : goal.returns-in-Ok-Last-2-clause-answer
returns-in-Ok-Last-2-clause-answer g c =
    let e = c.in-Ok-Last.ensures in
    running.exit_last c.lines.invariant.goes
    (g.R.Read.remaining (reader_inside c.read_line.new.reader)) c.read_line.new.line.items
    e.one e.short e.within
    (g.W.Write.contents (writer_inside c.one_line.new.writer)) c.one_line.new.opened c.one_line.result
    c.in-Ok-Last.field-0 _ c.in-Ok-Last.field-0-is c.as_slice.ensures.value e.known
    (λ z. absurd (grind (arith, nat_tests, c.is_empty.ensures, c.if-is_empty.false, ap length z)))
    c.one_line.ensures.of c.one_line.ensures.memory

pub returns-in-Err-clause-answer : goal.returns-in-Err-clause-answer
returns-in-Err-clause-answer g c =
    let e = c.in-Ok-Line.ensures in
    running.exit_fault c.lines.invariant.goes
    (g.R.Read.remaining (reader_inside c.read_line.new.reader)) c.read_line.new.line.items
    e.one e.short e.within (g.W.Write.contents (writer_inside c.one_line-in-Ok-Line.new.writer)) c.in-Err.fault
    c.in-Ok-Line.field-0 _ c.in-Ok-Line.field-0-is c.as_slice-in-Ok-Line.ensures.value e.known
    (line_room c.lines.room c.read_line.new.line.items c.in-Ok-Line.field-0 c.in-Ok-Line.field-0-is e.fits)
    c.in-Err.ensures.of (λ s st m. c.in-Err.ensures.memory s st (ap Err m))

pub lines-preserved : goal.lines-preserved
lines-preserved g c =
    let e = c.in-Ok-Line.ensures in
    let room : length c.read_line.new.line.items < c.lines.room =
    line_room c.lines.room c.read_line.new.line.items c.in-Ok-Line.field-0 c.in-Ok-Line.field-0-is e.fits in
    record {
      numbered = omega (arith, c.len.ensures.value, room);
      goes =
          running.next_line c.lines.invariant.goes
          (g.R.Read.remaining (reader_inside c.read_line.new.reader)) c.read_line.new.line.items
          e.one e.short e.within
          (g.W.Write.contents (writer_inside c.one_line-in-Ok-Line.new.writer)) c.one_line-in-Ok-Line.new.opened
          c.in-Ok-Line.field-0 _ c.len.result c.in-Ok-Line.field-0-is c.as_slice-in-Ok-Line.ensures.value
          c.len.ensures.value
          c.in_default.ensures.opened e.known room c.in_default.ensures.of;
      calls = omega (arith, c.len.ensures.value, room, e.counts.0, c.lines.invariant.calls);
      bytes = omega (arith, c.len.ensures.value, room, e.counts.1, c.lines.invariant.bytes);
      same_reader = search rules;
      same_writer = search rules;
      read_mark = search rules;
      write_mark = search rules;
    }
