use Rattle.std.proofs.Common.{sym}
use Rattle.wait_book.specs.Lists.{higher, list_at, lower}
use Rattle.wait_book.proofs.Nodes.{lower-higher}
use Rattle.wait_book.proofs.chains.Chains.insert.Goals as goal

pub link-requires-clause-behind : goal.link-requires-clause-behind
link-requires-clause-behind c =
    let list = list_at c.args.self.now c.args.chain in (
      lower c.args.priority list,
      higher c.args.priority list,
      sym (lower-higher c.args.priority list),
      c.behind-behind.ensures,
    )

pub returns : goal.returns
returns c =
    let list = list_at c.args.self.now c.args.chain in
    c.link.ensures (lower c.args.priority list) (higher c.args.priority list)
    (sym (lower-higher c.args.priority list)) c.behind-behind.ensures
