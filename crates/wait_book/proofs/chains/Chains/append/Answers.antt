use Rattle.std.proofs.Common.{[], sym}
use Rattle.std.proofs.lemmas.List.{append-nil}
use Rattle.wait_book.specs.Lists.{list_at}
use Rattle.wait_book.proofs.Chained.{AreChains-equal}
use Rattle.wait_book.proofs.chains.Chains.append.Goals as goal

pub link-requires-clause-behind : goal.link-requires-clause-behind
link-requires-clause-behind c =
    let all = list_at c.args.self.now c.args.chain in
    (all, [], sym (append-nil all), ((AreChains-equal c.self.view_is c.self.invariant.are).linked c.args.chain).last)
