use Rattle.std.proofs.Common.{Option, subst}
use Rattle.line_text.specs.Streams.{writer_inside}
use Rattle.wait_book.specs.Contents.{Contents}
use Rattle.hoare_script.specs.Runs.{IsAt}
use Rattle.hoare_script.proofs.Answering.{one_line-command, one_line-header, one_line-no_header}
use Rattle.hoare_script.proofs.runs.one_line.Goals as goal

pub returns-in-Some-clause-of : goal.returns-in-Some-clause-of
returns-in-Some-clause-of g c = λ s st.
    one_line-command c.in-Some.monitor c.command_line.new.opened c.args.number c.args.line.now _ _ c.command_line.result
    c.command_line.ensures.of s
    (subst (λ (b : Option Contents). IsAt b s) c.in-Some.is st)

pub returns-in-Ok-clause-of : goal.returns-in-Ok-clause-of
returns-in-Ok-clause-of g c = λ s st.
    one_line-header c.in-Ok.monitor c.args.number c.args.line.now
    (g.W.Write.contents (writer_inside c.args.writer.now)) c.in-Ok.ensures s
    (subst (λ (b : Option Contents). IsAt b s) c.in-None.is st)

pub returns-in-Err-clause-of : goal.returns-in-Err-clause-of
returns-in-Err-clause-of g c = λ s st.
    one_line-no_header c.args.number c.args.line.now
    (g.W.Write.contents (writer_inside c.args.writer.now)) c.in-Err.fault c.in-Err.ensures s
    (subst (λ (b : Option Contents). IsAt b s) c.in-None.is st)
