use Rattle.std.proofs.Common.{◌≡◌, ◌<◌, inl, length, ap, ◌∙◌, arith}
use Rattle.std.proofs.lemmas.Iterator.Consumers.{YieldsList-from_first, count_from_yields_List}
use Rattle.wait_book.specs.declared.book.TheConstants.{MOST_CONDITIONS}
use Rattle.wait_book.specs.Insides.{view_of}
use Rattle.wait_book.specs.Lists.{list_at}
use Rattle.wait_book.proofs.Sound as sound
use Rattle.wait_book.proofs.Priorities as priorities
use Rattle.wait_book.proofs.Queued.{chain-few, chain-length}
use Rattle.wait_book.proofs.book.waits.BookWaits.count.Goals as goal

pub on-requires : goal.on-requires
on-requires c = omega (arith, c.self.invariant.few_conditions)

pub returns-then-condition-self-clause-of : goal.returns-then-condition-self-clause-of
returns-then-condition-self-clause-of c =
    λ h o. priorities.priorities_on-history h c.args.condition c.self.view_is c.self.invariant o

pub count-requires-clause-fits : goal.count-requires-clause-fits
count-requires-clause-fits c =
    let below : c.args.condition < MOST_CONDITIONS = omega (arith, c.self.invariant.few_conditions) in
    let few = chain-few c.args.condition c.self.inside.chains below in
    let long : length c.on.result ≡ length (list_at c.self.inside.chains c.args.condition) = ap length c.on.ensures in
    inl (omega (arith, sound.few_waiters (view_of c.self.inside) c.self.invariant))

pub returns-clause-lists : goal.returns-clause-lists
returns-clause-lists c =
    let below : c.args.condition < MOST_CONDITIONS = omega (arith, c.self.invariant.few_conditions) in
    count_from_yields_List c.on.result c.count.result c.count.ensures.ran
    (YieldsList-from_first (λ x. x) (λ rest. rest) (list_at c.self.inside.chains c.args.condition) c.on.ensures)
    ∙ chain-length c.args.condition c.self.inside.chains below
    ∙ priorities.length-priorities_on (view_of c.self.inside) _ c.args.condition c.self.view_is c.self.invariant

pub returns-clause-of : goal.returns-clause-of
returns-clause-of c = λ h o. priorities.priorities_on-history h c.args.condition c.self.view_is c.self.invariant o
