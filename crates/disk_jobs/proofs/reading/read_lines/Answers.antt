use Rattle.std.proofs.Common.{◌≡◌, ◌≤◌, ◌+◌, length, Option, None, ap, sym, subst, arith, rules}
use Rattle.std.proofs.lemmas.Bool.Decides.{nat_tests}
use Rattle.std.proofs.lemmas.List.{nil_from_length}
use Rattle.line_text.specs.Streams.{reader_inside}
use Rattle.disk_jobs.specs.JobLists.{JobList}
use Rattle.disk_jobs.specs.Readings.{lines_of}
use Rattle.disk_jobs.proofs.Limits.{one_line-counts}
use Rattle.disk_jobs.proofs.Progress as progress
use Rattle.disk_jobs.proofs.Progress.{Known}
use Rattle.disk_jobs.proofs.reading.read_lines.Goals as goal

pub lines-init : goal.lines-init
lines-init g c =
    let k = g.R.Read.remaining (reader_inside c.args.reader.now) in
    record {
      numbered = subst (λ (b : Option JobList). 1 ≡ lines_of b + 1) (sym c.requires) (omega arith);
      few = omega arith;
      goes = subst (λ (b : Option JobList). Known k k 1 b) (sym c.requires) (progress.Known-start k);
      calls = omega arith;
      bytes = omega arith;
      same_reader = search rules;
      read_mark = search rules;
    }

pub returns-in-Err-Failed-clause-answer : goal.returns-in-Err-Failed-clause-answer
returns-in-Err-Failed-clause-answer g c =
    let e = c.in-Err-Failed.ensures in
    progress.exit_failed c.lines.invariant.goes
    (g.R.Read.remaining (reader_inside c.read_line.new.reader)) c.read_line.new.line.items
    e.one e.short c.in-Err-Failed.field-0 None c.in-Err-Failed.field-0-is e.known

pub returns-in-Err-TooLong-clause-answer : goal.returns-in-Err-TooLong-clause-answer
returns-in-Err-TooLong-clause-answer g c =
    let e = c.in-Err-TooLong.ensures in
    progress.exit_long c.lines.invariant.goes
    (g.R.Read.remaining (reader_inside c.read_line.new.reader)) c.read_line.new.line.items
    e.one e.short c.in-Err-TooLong.field-0 None c.in-Err-TooLong.field-0-is e.known e.fits

pub returns-then-not-is_empty-clause-answer : goal.returns-then-not-is_empty-clause-answer
returns-then-not-is_empty-clause-answer g c =
    let e = c.in-Ok-Last.ensures in
    progress.exit_last c.lines.invariant.goes
    (g.R.Read.remaining (reader_inside c.read_line.new.reader)) c.read_line.new.line.items
    e.one e.short c.in-Ok-Last.field-0 _ c.one_line.result c.one_line.new.jobs c.in-Ok-Last.field-0-is
    c.as_slice.ensures.value e.known
    (λ z. absurd (grind (arith, nat_tests, c.is_empty.ensures, c.if-not-is_empty.true, ap length z)))
    c.lines.invariant.numbered c.one_line.ensures.answer

pub returns-then-number-eq1-clause-answer : goal.returns-then-number-eq1-clause-answer
returns-then-number-eq1-clause-answer g c =
    let e = c.in-Ok-Last.ensures in
    progress.exit_empty c.lines.invariant.goes
    (g.R.Read.remaining (reader_inside c.read_line.new.reader)) c.read_line.new.line.items
    e.one e.short c.in-Ok-Last.field-0 None c.in-Ok-Last.field-0-is e.known
    (nil_from_length c.read_line.new.line.items (grind (arith, nat_tests, c.is_empty.ensures, c.if-not-is_empty.false)))
    c.lines.invariant.numbered c.if-number-eq1.true

pub returns-in-Ok-Last-clause-answer : goal.returns-in-Ok-Last-clause-answer
returns-in-Ok-Last-clause-answer g c =
    let e = c.in-Ok-Last.ensures in
    progress.exit_done c.lines.invariant.goes
    (g.R.Read.remaining (reader_inside c.read_line.new.reader)) c.read_line.new.line.items
    e.one e.short c.in-Ok-Last.field-0 c.in-Ok-Last.field-0-is e.known
    (nil_from_length c.read_line.new.line.items (grind (arith, nat_tests, c.is_empty.ensures, c.if-not-is_empty.false)))
    c.lines.invariant.numbered c.if-number-eq1.false

pub returns-in-Err-clause-answer : goal.returns-in-Err-clause-answer
returns-in-Err-clause-answer g c =
    let e = c.in-Ok-Line.ensures in
    progress.exit_fault c.lines.invariant.goes
    (g.R.Read.remaining (reader_inside c.read_line.new.reader)) c.read_line.new.line.items
    e.one e.short c.in-Ok-Line.field-0 _ c.in-Err.fault c.one_line-in-Ok-Line.new.jobs c.in-Ok-Line.field-0-is
    c.as_slice-in-Ok-Line.ensures.value e.known
    c.lines.invariant.numbered c.in-Err.ensures.answer

pub lines-preserved : goal.lines-preserved
lines-preserved g c =
    let e = c.in-Ok-Line.ensures in
    let n = one_line-counts c.lines.jobs c.one_line-in-Ok-Line.new.jobs c.lines.number _ c.in_default.ensures.answer in
    let short : length c.read_line.new.line.items ≤ 256 = e.short in
    record {
      numbered = omega (arith, n.0, c.lines.invariant.numbered);
      few = omega (arith, n.0, n.1, c.lines.invariant.numbered);
      goes =
          progress.next_line c.lines.invariant.goes
          (g.R.Read.remaining (reader_inside c.read_line.new.reader)) c.read_line.new.line.items
          e.one e.short c.in-Ok-Line.field-0 _ c.one_line-in-Ok-Line.new.jobs c.in-Ok-Line.field-0-is
          c.as_slice-in-Ok-Line.ensures.value e.known
          c.in_default.ensures.answer;
      calls = omega (arith, short, e.counts.0, c.lines.invariant.calls);
      bytes = omega (arith, short, e.counts.1, c.lines.invariant.bytes);
      same_reader = search rules;
      read_mark = search rules;
    }
