use Rattle.std.proofs.Common.{◌≡◌, ◌==◌, false, not, arith, ap, sym, ◌∙◌}
use Rattle.std.specs.Prelude.{nat_lt}
use Rattle.std.proofs.lemmas.Bool.Decides.{nat_tests}
use Rattle.wait_book.specs.Contents.{times_in_hand}
use Rattle.wait_book.proofs.Times as times
use Rattle.wait_book.proofs.Sound.{hand_hoare, hand_mesa}
use Rattle.wait_book.proofs.queues.is_in_hand.Goals as goal

pub returns-in-Held : goal.returns-in-Held
returns-in-Held c =
    times.other c.args.place c.in-Held.k ∙ sym (ap (λ t. times_in_hand c.args.place c.args.hoare t == 0) c.in-Held.is)

pub returns-then-c-hoare : goal.returns-then-c-hoare
returns-then-c-hoare c =
    times.other c.args.place c.in-Owed.k
    ∙ sym (ap (λ n. n == 0) (hand_hoare c.args.place c.in-Owed.k c.in-Owed.c c.args.hoare (omega arith)))
    ∙ sym (ap (λ t. times_in_hand c.args.place c.args.hoare t == 0) c.in-Owed.is)

pub returns-else-c-hoare : goal.returns-else-c-hoare
returns-else-c-hoare c =
    let e : nat_lt c.in-Owed.c c.args.hoare ≡ false = grind (arith, nat_tests) in
    ap not e ∙ sym (ap (λ n. n == 0) (hand_mesa c.args.place c.in-Owed.k c.in-Owed.c c.args.hoare (omega arith)))
    ∙ sym (ap (λ t. times_in_hand c.args.place c.args.hoare t == 0) c.in-Owed.is)
