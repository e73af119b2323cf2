use Rattle.std.proofs.Common.{None, refl, sym, ◌∙◌}
use Rattle.wait_book.specs.Lists.{list_at}
use Rattle.wait_book.proofs.Lists.{stands, stands_nowhere}
use Rattle.wait_book.proofs.chains.Chains.take.Goals as goal

pub returns-in_default : goal.returns-in_default
returns-in_default c =
    let list = list_at c.args.self.now c.args.chain in
    (stands_nowhere c.args.place None list (sym c.find.ensures ∙ c.in_default.is), refl)

pub unlink-requires-clause-behind : goal.unlink-requires-clause-behind
unlink-requires-clause-behind c =
    let list = list_at c.args.self.now c.args.chain in
    let s =
    stands c.args.place None list c.in-Some.behind c.in-Some.key (sym c.find.ensures ∙ c.in-Some.is) in
    (s.before, s.after, s.link, s.is, s.behind_is, s.key_is)

pub returns : goal.returns
returns c =
    let list = list_at c.args.self.now c.args.chain in
    let s =
    stands c.args.place None list c.in-Some.behind c.in-Some.key (sym c.find.ensures ∙ c.in-Some.is) in
    record {
      before = s.before;
      link = s.link;
      after = s.after;
      was = s.is;
      link_place = s.link_place;
      none_before = s.none_before;
      lists = c.unlink.ensures.lists s.before s.after s.link s.is s.behind_is s.key_is;
      room = c.unlink.ensures.room;
    }
