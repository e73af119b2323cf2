use Rattle.std.proofs.Common.{arith, rules, sym, ◌∙◌}
use Rattle.std.proofs.lemmas.Grind.{common_steps}
use Rattle.wait_book.proofs.Nodes.{IsLinked-relinked, Relinks-with_value, linked_nowhere}
use Rattle.wait_book.proofs.chains.set_next.Goals as goal

pub returns-in-Some : goal.returns-in-Some
returns-in-Some c =
    let s = c.args.nodes.now in
    let b = c.in-Some.before in
    let relinks = Relinks-with_value s b c.index_mut.result.now c.args.next c.index_mut.ensures.value in
    record {
      linked = λ before to linked last once. IsLinked-relinked s _ c.args.first before to c.args.next b relinks
          (sym last ∙ c.in-Some.is) once linked;
      others = search rules;
      held_on = search rules;
      as_long = grind (arith, common_steps);
      capacity = search rules;
    }

pub returns-in-None : goal.returns-in-None
returns-in-None c = record {
  linked = λ before to linked last once. linked_nowhere c.args.nodes.now c.args.next before
      (sym last ∙ c.in-None.is);
  others = search rules;
  held_on = search rules;
  as_long = search rules;
  capacity = search rules;
}
