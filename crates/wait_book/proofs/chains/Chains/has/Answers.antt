use Rattle.wait_book.specs.Lists.{list_at}
use Rattle.wait_book.proofs.Lists.{stands_somewhere}
use Rattle.wait_book.proofs.chains.Chains.has.Goals as goal

pub returns : goal.returns
returns c =
    stands_somewhere c.args.place (list_at c.args.self.now c.args.chain) c.find.result c.is_some.result c.find.ensures
    c.is_some.ensures
