use Rattle.std.proofs.Common.{ap, sym, ◌∙◌}
use Rattle.wait_book.specs.Lists.{Lists, list_at}
use Rattle.wait_book.proofs.Chained.{chain_ends, lists_walked}
use Rattle.wait_book.proofs.chains.Chains.on.Goals as goal

pub invariant_of-result : goal.invariant_of-result
invariant_of-result c = chain_ends c.self.invariant.are c.args.chain

pub returns : goal.returns
returns c =
    sym (lists_walked c.self.inside.nodes c.self.inside.chains c.args.chain)
    ∙ ap (λ (v : Lists). list_at v c.args.chain) c.self.view_is
